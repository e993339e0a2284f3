-- The worked legs on the deferred-wrap panel from a held cursor, which moves by a return or an address only. Assumes
-- nothing.
--     near, far     what a cursor is away at least, as far as it matters to the place (1, 0), and to (0, 79)
--     level c       the latter for the column c, once the cursor has returned
use Rattle.std.proofs.Common.{◌≡◌, ◌⊎◌, ℕ, ◌+◌, ◌-◌, ◌<◌, ◌≤◌, max, true, cond, ◌==◌, nat_le, nat_lt, inl, inr, List}
use Rattle.std.proofs.Common.{[], ◌∷◌, length, arith, ap, refl}
use Rattle.std.proofs.lemmas.Bool.Decides.{nat_tests}
use Rattle.cost.specs.Bytes.{byte_costs, byte_laws}
use Rattle.display.specs.Surface.{place_of}
use Rattle.display.specs.declared.place.Cursor.{Cursor}
use Rattle.display.specs.declared.place.Place.{Place}
use Rattle.legs.specs.Leg.{Earlier}
use Rattle.legs.specs.Scene.{numbered}
use Rattle.dec_rules.specs.Motions.{spelled}
use Rattle.dec_rules.specs.declared.motion.Motion.TheVariants.{Right}
use Rattle.dec_rules.proofs.Digits.{two_digits}
use Rattle.worked_legs.specs.Established.{Sends}
use Rattle.worked_legs.specs.Scenes.{screen}
use Rattle.worked_legs.specs.Table.{from, held_at}
use Rattle.worked_legs.proofs.DeferredMoves.{Counted, Moves, moves, s}
use Rattle.worked_legs.proofs.Landings.{Bounds, First, onward, sends, start}
use Rattle.worked_legs.proofs.Moves.{bytes, milliseconds}

-- nothing but the first place is a byte away
abbrev near : Cursor → ℕ
near k = cond k.held 0 (cond (k.place.row + k.place.column == 0) 1 2)

near_bounds : Bounds byte_costs s (held_at 0 79) near
near_bounds = record {
  laws = byte_laws;
  zero = refl;
  raises = λ n d p ok l. let m = moves n d p l in grind (arith, nat_tests);
}

near_return_first : First byte_costs s (held_at 0 79) near 0 (held_at 0 79) (place_of 0 0)
near_return_first m e ok l q = let a = moves m e (place_of 0 0) l in grind (arith, nat_tests)

near_feed_first : First byte_costs s (held_at 0 79) near 2 (from 0 0) (place_of 1 0)
near_feed_first m e ok l q = let a = moves m e (place_of 1 0) l in grind (arith, nat_tests)

pub return_and_feed : Sends byte_costs s (held_at 0 79) (from 1 0) (0x0d ∷ 0x0a ∷ [])
return_and_feed =
    let returned = onward near_bounds 0 (place_of 0 0) (start near_bounds refl) refl refl near_return_first in
    let fed = onward near_bounds 2 (place_of 1 0) returned refl refl near_feed_first in
    sends fed refl

-- Right by ten columns or more has five bytes, by two to nine four; a blank brings a column only
level : ℕ → ℕ
level c = cond (c == 0) 1 (cond (nat_lt c 70) 2 (max 3 (c - 73)))

level_least : (c : ℕ) → 1 ≤ level c
unfolding level
level_least c = grind (arith, nat_tests)

level_most : (c : ℕ) → c < 80 → level c ≤ 6
unfolding level
level_most c h = grind (arith, nat_tests)

level_left : (c d : ℕ) → d ≤ c → level d ≤ level c
unfolding level
level_left c d h = grind (arith, nat_tests)

level_next : (c d : ℕ) → d ≡ c + 1 → level d ≤ level c + 1
unfolding level
level_next c d h = grind (arith, nat_tests)

level_right : (c d j b : ℕ) → d ≡ c + j → 1 ≤ j → d < 80 → Counted j b → level d ≤ level c + b
unfolding level
level_right c d j b h some on k = grind (arith, nat_tests)

level_zero : (c : ℕ) → c ≡ 0 → level c ≡ 1
unfolding level
level_zero c e = grind (arith, nat_tests)

abbrev far : Cursor → ℕ
far k = cond k.held 0 (level k.place.column)

far_raises : (n : ℕ) (d : Cursor) (p : Place) → Moves d n p (milliseconds s n) (bytes s n)
    → nat_le (level p.column) (far d + bytes s n) ≡ true
far_raises n d p (inl m) =
    let a = level_least d.place.column in let b = level_zero p.column m.column in grind (arith, nat_tests)
far_raises n d p (inr (inl m)) = let a = level_most p.column m.on in grind (arith, nat_tests)
far_raises n d p (inr (inr (free, inl m))) =
    let a = level_left d.place.column p.column (omega arith) in grind (arith, nat_tests)
far_raises n d p (inr (inr (free, inr (inl m)))) =
    let a = level_left d.place.column p.column (omega arith) in grind (arith, nat_tests)
far_raises n d p (inr (inr (free, inr (inr (inl m))))) =
    let a = level_left d.place.column p.column (omega arith) in grind (arith, nat_tests)
far_raises n d p (inr (inr (free, inr (inr (inr (inl m)))))) =
    let a = level_left d.place.column p.column (omega arith) in grind (arith, nat_tests)
far_raises n d p (inr (inr (free, inr (inr (inr (inr (inl m))))))) =
    let a = level_right d.place.column p.column (n - 48) (bytes s n) m.column (omega arith) m.on m.counted in
    grind (arith, nat_tests)
far_raises n d p (inr (inr (free, inr (inr (inr (inr (inr (inl m)))))))) =
    let a = level_left d.place.column p.column (omega arith) in grind (arith, nat_tests)
far_raises n d p (inr (inr (free, inr (inr (inr (inr (inr (inr m)))))))) =
    let a = level_next d.place.column p.column m.column in grind (arith, nat_tests)

far_bounds : Bounds byte_costs s (held_at 0 79) far
far_bounds = record {
  laws = byte_laws;
  zero = refl;
  raises = λ n d p ok l. far_raises n d p (moves n d p l);
}

far_return_first : First byte_costs s (held_at 0 79) far 0 (held_at 0 79) (place_of 0 0)
far_return_first m e ok l q =
    let a = moves m e (place_of 0 0) l in
    let b = level_least e.place.column in
    let z = level_zero 0 refl in
    grind (arith, nat_tests)

-- a shorter motion to the right starts where it already costs too much to be
no_shorter : (c j b : ℕ) → 79 ≡ c + j → 1 ≤ j → j < 79 → Counted j b → 7 ≤ level c + b
unfolding level
no_shorter c j b h some short k = grind (arith, nat_tests)

level_end : level 79 ≡ 6
unfolding level
level_end = refl

level_past : (c : ℕ) → 79 ≤ c → 6 ≤ level c
unfolding level
level_past c h = grind (arith, nat_tests)

abbrev end : Place
end = place_of 0 79

sooner : (m : ℕ) (e : Cursor) → Moves e m end (milliseconds s m) (bytes s m)
    → far e + bytes s m ≤ 6 → Earlier 127 0 m (numbered screen e)
sooner m e (inl a) q = absurd (let z = a.column in omega arith)
sooner m e (inr (inl a)) q = grind arith
sooner m e (inr (inr (free, inl a))) q =
    let b = level_past e.place.column (omega arith) in grind (arith, nat_tests)
sooner m e (inr (inr (free, inr (inl a)))) q = absurd (let z = a.row in omega arith)
sooner m e (inr (inr (free, inr (inr (inl a))))) q =
    let b = level_past e.place.column (omega arith) in grind (arith, nat_tests)
sooner m e (inr (inr (free, inr (inr (inr (inl a)))))) q = absurd (omega arith)
sooner m e (inr (inr (free, inr (inr (inr (inr (inl a))))))) q = by_size (grind arith)
  where
    by_size : (m < 127) ⊎ (m ≡ 127) → Earlier 127 0 m (numbered screen e)
    by_size (inl low) =
        let b = no_shorter e.place.column (m - 48) (bytes s m) a.column (omega arith) (omega arith) a.counted in
        grind (arith, nat_tests)
    by_size (inr same) = grind arith
sooner m e (inr (inr (free, inr (inr (inr (inr (inr (inl a)))))))) q = grind arith
sooner m e (inr (inr (free, inr (inr (inr (inr (inr (inr a)))))))) q = grind arith

far_right_first : First byte_costs s (held_at 0 79) far 127 (from 0 0) end
far_right_first m e ok l q = sooner m e (moves m e end l) (let a = level_end in grind (arith, nat_tests))

right_sent : spelled (Right 79) ≡ 0x1b ∷ 0x5b ∷ 0x37 ∷ 0x39 ∷ 0x43 ∷ []
right_sent = rw (two_digits 79 (omega arith) (omega arith))

right_bytes : length (spelled (Right 79)) ≡ 5
right_bytes = ap length right_sent

pub return_and_right : Sends byte_costs s (held_at 0 79) (from 0 79) (0x0d ∷ 0x1b ∷ 0x5b ∷ 0x37 ∷ 0x39 ∷ 0x43 ∷ [])
unfolding level
return_and_right =
    let returned = onward far_bounds 0 (place_of 0 0) (start far_bounds refl) refl refl far_return_first in
    let cheap = ap (λ b. nat_le (1 + b) 6) right_bytes in
    let righted = onward far_bounds 127 end returned refl cheap far_right_first in
    sends righted (ap (λ (l : List ℕ). 0x0d ∷ l) right_sent)
