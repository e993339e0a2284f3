-- What all panels' motions do, in plain numbers. Assumes nothing.
--     milliseconds s n, bytes s n
--                       what the motion n costs in the scene s
--     Return, Back, Feed, Retype
--                       the motion n, which takes t milliseconds and sends b bytes, leads from the place d to the place
--                       p as the motion of that name does. The number of the retype is that of the panel's own motions
use Rattle.std.proofs.Common.{◌≡◌, ◌⊎◌, ℕ, ◌+◌, ◌≤◌, Bool, true, false, cond, ◌==◌, length, refl, arith}
use Rattle.std.proofs.lemmas.Bool.Decides.{nat_tests}
use Rattle.cost.specs.Bytes.{byte_costs}
use Rattle.cost.specs.Line.{line, line_at_most, line_costs}
use Rattle.display.specs.declared.place.Place.{Place}
use Rattle.legs.specs.Scene.{Scene, priced}

abbrev pub bytes : Scene → ℕ → ℕ
bytes s n = priced byte_costs s.answers n

abbrev pub milliseconds : Scene → ℕ → ℕ
milliseconds s n = cond (n == s.answers.motions) 0 (s.answers.delay n)

pub on_line : (s : Scene) (n : ℕ) → priced line_costs s.answers n ≡ line (milliseconds s n) (bytes s n)
on_line s n = by_cases (n == s.answers.motions)
  where
    by_cases : (b : Bool) → cond b (line 0 1) (line (s.answers.delay n) (length (s.answers.motion_bytes n)))
        ≡ line (cond b 0 (s.answers.delay n)) (cond b 1 (length (s.answers.motion_bytes n)))
    by_cases true = refl
    by_cases false = refl

-- a motion that takes time outweighs all bytes
pub line_raises : (s : Scene) (n x y : ℕ) → (1 ≤ milliseconds s n) ⊎ (x ≤ y + bytes s n)
    → line_costs.at_most (line 0 x) (line_costs.plus (line 0 y) (priced line_costs s.answers n)) ≡ true
line_raises s n x y h = rw (on_line s n) (plain (milliseconds s n) (bytes s n) x y h)
  where
    plain : (t b x y : ℕ) → (1 ≤ t) ⊎ (x ≤ y + b) → line_at_most (line 0 x) (line (0 + t) (y + b)) ≡ true
    plain t b x y h = grind (arith, nat_tests)

pub record Untimed (t b x y : ℕ) : Type 0 where
  pub time : t ≡ 0
  pub bytes : y + b ≤ x

pub untimed : (s : Scene) (n x y : ℕ)
    → line_costs.at_most (line_costs.plus (line 0 y) (priced line_costs s.answers n)) (line 0 x) ≡ true
    → Untimed (milliseconds s n) (bytes s n) x y
untimed s n x y h = plain (milliseconds s n) (bytes s n) x y (rw (on_line s n) at h)
  where
    plain : (t b x y : ℕ) → line_at_most (line (0 + t) (y + b)) (line 0 x) ≡ true → Untimed t b x y
    plain t b x y h = grind (arith, nat_tests)

pub record Return (n : ℕ) (d p : Place) (t b : ℕ) : Type 0 where
  pub number : n ≡ 0
  pub row : p.row ≡ d.row
  pub column : p.column ≡ 0
  pub time : t ≡ 0
  pub byte : b ≡ 1

pub record Back (n : ℕ) (d p : Place) (t b : ℕ) : Type 0 where
  pub number : n ≡ 1
  pub row : p.row ≡ d.row
  pub column : p.column + 1 ≡ d.column
  pub time : t ≡ 0
  pub byte : b ≡ 1

pub record Feed (n : ℕ) (d p : Place) (t b : ℕ) : Type 0 where
  pub number : n ≡ 2
  pub row : p.row ≡ d.row + 1
  pub column : p.column ≡ d.column
  pub time : t ≡ 0
  pub byte : b ≡ 1

pub record Retype (own n : ℕ) (d p : Place) (t b : ℕ) : Type 0 where
  pub number : n ≡ own
  pub row : p.row ≡ d.row
  pub column : p.column ≡ d.column + 1
  pub time : t ≡ 0
  pub byte : b ≡ 1
