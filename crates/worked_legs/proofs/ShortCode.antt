-- The worked legs on the short-code panel. Assumes nothing.
--     Up, Right, Home, Address
--                      the motion n, which takes t milliseconds and sends b bytes, leads from the place d to the place
--                      p as the motion of that name does
--     Moves n d p t b  the same as one of the panel's motions does, or as the retype
--     away, line_away  what a place is away at least, by each cost
use Rattle.std.proofs.Common.{◌≡◌, ◌⊎◌, ℕ, ◌+◌, ◌*◌, ◌<◌, min, Some, [], ◌∷◌, arith, refl}
use Rattle.std.proofs.lemmas.Bool.Decides.{nat_tests}
use Rattle.cost.specs.Bytes.{byte_costs, byte_laws}
use Rattle.cost.specs.Line.{Line, line, line_costs, line_laws}
use Rattle.display.specs.Surface.{place_of}
use Rattle.display.specs.declared.place.Cursor.{Cursor}
use Rattle.display.specs.declared.place.Place.{Place}
use Rattle.legs.specs.Scene.{Scene, lands}
use Rattle.worked_legs.specs.Established.{Sends}
use Rattle.worked_legs.specs.Scenes.{blank_scene}
use Rattle.worked_legs.specs.Table.{from}
use Rattle.worked_legs.specs.declared.row.PanelKind.TheVariants.{ShortCode}
use Rattle.worked_legs.proofs.Landings.{Bounds, First, onward, sends, start}
use Rattle.worked_legs.proofs.Moves.{Back, Feed, Retype, Return, bytes, line_raises, milliseconds, untimed}

abbrev s : Scene
s = blank_scene ShortCode

record Up (n : ℕ) (d p : Place) (t b : ℕ) : Type 0 where
  pub number : n ≡ 3
  pub row : p.row + 1 ≡ d.row
  pub column : p.column ≡ d.column
  pub time : t ≡ 0
  pub byte : b ≡ 1

record Right (n : ℕ) (d p : Place) (t b : ℕ) : Type 0 where
  pub number : n ≡ 4
  pub row : p.row ≡ d.row
  pub column : p.column ≡ d.column + 1
  pub time : t ≡ 0
  pub byte : b ≡ 1

record Home (n : ℕ) (p : Place) (t b : ℕ) : Type 0 where
  pub number : n ≡ 5
  pub row : p.row ≡ 0
  pub column : p.column ≡ 0
  pub time : t ≡ 0
  pub byte : b ≡ 1

record Address (n : ℕ) (p : Place) (t b : ℕ) : Type 0 where
  pub number : n ≡ 6 + (p.row * 80 + p.column)
  pub time : t ≡ 3
  pub bytes : b ≡ 4

abbrev Moves : ℕ → Place → Place → ℕ → ℕ → Type 0
Moves n d p t b =
    Return n d p t b ⊎ (Back n d p t b ⊎ (Feed n d p t b ⊎ (Up n d p t b ⊎ (Right n d p t b ⊎ (Home n p t b
    ⊎ (Address n p t b ⊎ Retype 1926 n d p t b))))))

moves : (n : ℕ) (k : Cursor) (p : Place) → lands s n k ≡ Some p
    → Moves n k.place p (milliseconds s n) (bytes s n)
moves n k p e = grind (arith, nat_tests)

-- from (0, 0) each row and each column costs a byte, up to four
abbrev away : Cursor → ℕ
away k = min 4 (k.place.row + k.place.column)

bounds : Bounds byte_costs s (from 0 0) away
bounds = record {
  laws = byte_laws;
  zero = refl;
  raises = λ n d p ok l. let m = moves n d p l in grind (arith, nat_tests);
}

first : First byte_costs s (from 0 0) away 169 (from 0 0) (place_of 2 3)
first m e ok l q = let a = moves m e (place_of 2 3) l in grind (arith, nat_tests)

pub addressed : Sends byte_costs s (from 0 0) (from 2 3) (0x1b ∷ 0x3d ∷ 0x22 ∷ 0x23 ∷ [])
addressed = sends (onward bounds 169 (place_of 2 3) (start bounds refl) refl refl first) refl

-- with the line cost the same, up to five, since an address takes time
abbrev distance : Place → ℕ
distance p = min 5 (p.row + p.column)

abbrev line_away : Cursor → Line
line_away k = line 0 (distance k.place)

line_bounds : Bounds line_costs s (from 0 0) line_away
line_bounds = record {
  laws = line_laws;
  zero = refl;
  raises = λ n d p ok l.
      let m = moves n d p l in
      line_raises s n (distance p) (distance d.place) (grind (arith, nat_tests));
}

-- on the first row Right comes first, up to column 3
right_first : (c : ℕ) → c < 3 → First line_costs s (from 0 0) line_away 4 (from 0 c) (place_of 0 (c + 1))
right_first c few m e ok l q =
    let a = moves m e (place_of 0 (c + 1)) l in
    let u = untimed s m (distance (place_of 0 (c + 1))) (distance e.place) q in
    grind (arith, nat_tests)

feed_first : (r : ℕ) → r < 2 → First line_costs s (from 0 0) line_away 2 (from r 3) (place_of (r + 1) 3)
feed_first r few m e ok l q =
    let a = moves m e (place_of (r + 1) 3) l in
    let u = untimed s m (distance (place_of (r + 1) 3)) (distance e.place) q in
    grind (arith, nat_tests)

pub rights_and_feeds : Sends line_costs s (from 0 0) (from 2 3) (0x0c ∷ 0x0c ∷ 0x0c ∷ 0x0a ∷ 0x0a ∷ [])
rights_and_feeds =
    let one = onward line_bounds 4 (place_of 0 1) (start line_bounds refl) refl refl (right_first 0 (omega arith)) in
    let two = onward line_bounds 4 (place_of 0 2) one refl refl (right_first 1 (omega arith)) in
    let three = onward line_bounds 4 (place_of 0 3) two refl refl (right_first 2 (omega arith)) in
    let four = onward line_bounds 2 (place_of 1 3) three refl refl (feed_first 0 (omega arith)) in
    let five = onward line_bounds 2 (place_of 2 3) four refl refl (feed_first 1 (omega arith)) in
    sends five refl
