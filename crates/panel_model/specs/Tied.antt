-- What ties the answers of a panel of size z to the constants of its kind and to its kind's motions.
use Rattle.std.specs.Prelude.{◌≡◌, ℕ, Bool, List, [], None, Option}
use Rattle.display.specs.declared.place.Cursor.{Cursor}
use Rattle.display.specs.declared.place.Place.{Place}
use Rattle.display.specs.declared.size.Size.{Size}
use Rattle.panel.specs.Answers.{Answers, answered}

pub record Tied {M : Type 0} (z : Size) (P : ℕ) (safe : Bool) (numbered : ℕ → Option M)
    (offered : Cursor → M → Option Place) (spelled : M → List ℕ) (takes : M → ℕ) (a : Answers) : Type 0 where
  pub size : a.size ≡ z
  pub pens : a.pens ≡ P
  pub corner_safe : a.corner_safe ≡ safe
  pub lands : (n : ℕ) (k : Cursor) → a.lands n k ≡ answered None (offered k) (numbered n)
  pub motion_bytes : (n : ℕ) → a.motion_bytes n ≡ answered [] spelled (numbered n)
  pub delay : (n : ℕ) → a.delay n ≡ answered 0 takes (numbered n)
