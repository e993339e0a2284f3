-- What is told of a refusal gives it back; and a picture has one first cell that cannot be put, since of two the one
-- before could be put.
use Rattle.std.proofs.Common.{◌≡◌, ℕ, ◌<◌, Bool, List, None, Some, Option, ◌⊎◌, refl, ap, inl, inr, arith}
use Rattle.std.proofs.lemmas.Bool.{cases_order}
use Rattle.display.specs.declared.cell.Glyph.{Glyph}
use Rattle.faults.specs.Causes.{AllGood, FirstBad, cell_cause}
use Rattle.faults.specs.Told.{Told, told}
use Rattle.faults.specs.declared.fault.Fault.{Fault}
use Rattle.faults.specs.declared.fault.Fault.TheVariants.{Outside, NotCode, NotPen, UnsafeCorner, NotDrawn, NoSequence, OutputTooShort, TooSmall}
use Rattle.panel.specs.Answers.{Answers}

apart : (x y : Fault) → (told x).number ≡ (told y).number → (told x).values ≡ (told y).values → x ≡ y
apart (Outside r c) (Outside s d) n v = cc
apart (NotCode r c) (NotCode s d) n v = cc
apart (NotPen r c) (NotPen s d) n v = cc
apart (UnsafeCorner r c) (UnsafeCorner s d) n v = cc
apart NotDrawn NotDrawn n v = refl
apart (NoSequence r c) (NoSequence s d) n v = cc
apart (OutputTooShort m) (OutputTooShort k) n v = cc
apart TooSmall TooSmall n v = refl
apart x y n v = absurd (omega arith)

pub told_apart : (x y : Fault) → told x ≡ told y → x ≡ y
told_apart x y e = apart x y (ap (λ (t : Told). t.number) e) (ap (λ (t : Told). t.values) e)

-- a place before the first one with a cause has none
not_before : {Y : Type 0} (f : ℕ → Option Y) (m n : ℕ) (y : Y) → f m ≡ Some y → m < n
    → ((k : ℕ) → k < n → f k ≡ None) → ⊥
not_before f m n y e i h = let g = h m i in cc

module _ (a : Answers) (A : ℕ → ℕ → Bool) (gs : List Glyph) where
  pub first_bad_one : (t u : Told) → FirstBad a A gs t → FirstBad a A gs u → t ≡ u
  first_bad_one t u x y = by_cases (cases_order x.number y.number)
    where
      by_cases : (x.number ≡ y.number) ⊎ ((x.number < y.number) ⊎ (y.number < x.number)) → t ≡ u
      by_cases (inl e) = let f = x.is in let g = y.is in cc
      by_cases (inr (inl i)) = absurd (not_before (cell_cause a A gs) x.number y.number t x.is i y.first)
      by_cases (inr (inr i)) = absurd (not_before (cell_cause a A gs) y.number x.number u y.is i x.first)

  pub bad_not_good : (t : Told) → FirstBad a A gs t → AllGood a A gs → ⊥
  bad_not_good t x h = let e = h.good x.number x.below in let f = x.is in cc
