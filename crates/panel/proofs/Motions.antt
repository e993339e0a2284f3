-- Panels whose motions have names: what holds of each motion holds of the answers for its number. Assumes nothing.
use Rattle.std.proofs.Common.{◌≡◌, ℕ, ◌<◌, ◌≤◌, List, [], length, Some, None, Option, refl, rules}
use Rattle.display.specs.Place.{On}
use Rattle.display.specs.Surface.{moved}
use Rattle.display.specs.declared.place.Cursor.{Cursor}
use Rattle.display.specs.declared.place.Place.{Place}
use Rattle.display.specs.declared.size.Size.{Size}
use Rattle.panel.specs.Answers.{answered}
use Rattle.panel.specs.Meaning.{Meaning, feeds, of}

-- by cases, with the case kept as a fact
pub by_case : {M : Type 0} (o : Option M) (P : Option M → Type 0) → ((m : M) → o ≡ Some m → P (Some m))
    → (o ≡ None → P None) → P o
by_case None P some none = none refl
by_case (Some m) P some none = some m refl

-- the motions of a panel of size z, numbered below N: each has a name, lands on the panel, and has 1 to 16 bytes
pub record Named {M : Type 0} (z : Size) (N : ℕ) (numbered : ℕ → Option M) (offered : Cursor → M → Option Place)
    (spelled : M → List ℕ) : Type 0 where
  pub some : (n : ℕ) → n < N → numbered n ≡ None → ⊥
  pub none : (n : ℕ) → N ≤ n → numbered n ≡ None
  pub on : (n : ℕ) (m : M) (k : Cursor) (p : Place) → numbered n ≡ Some m → On z k.place → offered k m ≡ Some p
      → On z p
  pub least : (n : ℕ) (m : M) → numbered n ≡ Some m → 1 ≤ length (spelled m)
  pub most : (n : ℕ) (m : M) → numbered n ≡ Some m → length (spelled m) ≤ 16

module _ {M : Type 0} {z : Size} {N : ℕ} {numbered : ℕ → Option M} {offered : Cursor → M → Option Place} {spelled : M
    → List ℕ}
    (named : Named z N numbered offered spelled) where
  pub named_past : (n : ℕ) (k : Cursor) → N ≤ n → answered None (offered k) (numbered n) ≡ None
  named_past n k past = search rules

  pub named_on : (n : ℕ) (k : Cursor) (p : Place) → On z k.place → answered None (offered k) (numbered n) ≡ Some p
      → On z p
  named_on n k p on e = search rules

  pub named_least : (n : ℕ) → n < N → 1 ≤ length (answered [] spelled (numbered n))
  named_least n h = search rules

  pub named_most : (n : ℕ) → n < N → length (answered [] spelled (numbered n)) ≤ 16
  named_most n h = search rules

-- the law of motions, from what each motion's bytes do to a ready panel
pub named_moves : {M Mode : Type 0} (ready : Mode) (numbered : ℕ → Option M) (offered : Cursor → M → Option Place)
    (spelled : M → List ℕ)
    (f : Meaning Mode → ℕ → Meaning Mode) (m : Meaning Mode) (n : ℕ)
    → ((motion : M) (p : Place) → numbered n ≡ Some motion → offered m.surface.cursor motion ≡ Some p
    → feeds f (of m.surface ready) (spelled motion) ≡ of (moved m.surface p) ready)
    → (p : Place) → m.mode ≡ ready → answered None (offered m.surface.cursor) (numbered n) ≡ Some p
    → feeds f m (answered [] spelled (numbered n)) ≡ of (moved m.surface p) ready
named_moves ready numbered offered spelled f m n each p is e = search rules
