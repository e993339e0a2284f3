-- The worked legs on the deferred-wrap panel from the first place. Assumes nothing.
--     away, line_away  what a place is away at least, by each cost
use Rattle.std.proofs.Common.{◌≡◌, ℕ, ◌+◌, ◌<◌, min, [], ◌∷◌, nat_le, length, arith, ap, refl}
use Rattle.std.proofs.lemmas.Fmt.{decimal_digit}
use Rattle.std.proofs.lemmas.Bool.Decides.{nat_tests}
use Rattle.cost.specs.Bytes.{byte_costs, byte_laws}
use Rattle.cost.specs.Line.{Line, line, line_costs, line_laws}
use Rattle.display.specs.Surface.{place_of}
use Rattle.display.specs.declared.place.Cursor.{Cursor}
use Rattle.display.specs.declared.place.Place.{Place}
use Rattle.dec_rules.specs.Motions.{spelled}
use Rattle.dec_rules.specs.declared.motion.Motion.TheVariants.{Right}
use Rattle.worked_legs.specs.Established.{Sends}
use Rattle.worked_legs.specs.Table.{from}
use Rattle.worked_legs.proofs.DeferredMoves.{moves, s}
use Rattle.worked_legs.proofs.Landings.{Bounds, First, onward, sends, start}
use Rattle.worked_legs.proofs.Moves.{line_raises, untimed}

-- from (0, 0) each row and each column costs a byte, up to four
abbrev away : Cursor → ℕ
away k = min 4 (k.place.row + k.place.column)

bounds : Bounds byte_costs s (from 0 0) away
bounds = record {
  laws = byte_laws;
  zero = refl;
  raises = λ n d p ok l. let m = moves n d p l in grind (arith, nat_tests);
}

first : First byte_costs s (from 0 0) away 52 (from 0 0) (place_of 0 4)
first m e ok l q = let a = moves m e (place_of 0 4) l in grind (arith, nat_tests)

right_sent : spelled (Right 4) ≡ 0x1b ∷ 0x5b ∷ 0x34 ∷ 0x43 ∷ []
right_sent = rw (decimal_digit 4 (omega arith))

right_bytes : length (spelled (Right 4)) ≡ 4
right_bytes = ap length right_sent

pub four_right : Sends byte_costs s (from 0 0) (from 0 4) (0x1b ∷ 0x5b ∷ 0x34 ∷ 0x43 ∷ [])
four_right =
    let cheap = ap (λ b. nat_le (0 + b) 4) right_bytes in
    sends (onward bounds 52 (place_of 0 4) (start bounds refl) refl cheap first) right_sent

-- with the line cost the same, up to five, since every other motion takes time
abbrev distance : Place → ℕ
distance p = min 5 (p.row + p.column)

abbrev line_away : Cursor → Line
line_away k = line 0 (distance k.place)

line_bounds : Bounds line_costs s (from 0 0) line_away
line_bounds = record {
  laws = line_laws;
  zero = refl;
  raises = λ n d p ok l.
      let m = moves n d p l in
      line_raises s n (distance p) (distance d.place) (grind (arith, nat_tests));
}

retype_first : (c : ℕ) → c < 5 → First line_costs s (from 0 0) line_away 2127 (from 0 c) (place_of 0 (c + 1))
retype_first c few m e ok l q =
    let a = moves m e (place_of 0 (c + 1)) l in
    let u = untimed s m (distance (place_of 0 (c + 1))) (distance e.place) q in
    grind (arith, nat_tests)

pub five_blanks : Sends line_costs s (from 0 0) (from 0 5) (0x20 ∷ 0x20 ∷ 0x20 ∷ 0x20 ∷ 0x20 ∷ [])
five_blanks =
    let zero = start line_bounds refl in
    let one = onward line_bounds 2127 (place_of 0 1) zero refl refl (retype_first 0 (omega arith)) in
    let two = onward line_bounds 2127 (place_of 0 2) one refl refl (retype_first 1 (omega arith)) in
    let three = onward line_bounds 2127 (place_of 0 3) two refl refl (retype_first 2 (omega arith)) in
    let four = onward line_bounds 2127 (place_of 0 4) three refl refl (retype_first 3 (omega arith)) in
    let five = onward line_bounds 2127 (place_of 0 5) four refl refl (retype_first 4 (omega arith)) in
    sends five refl
