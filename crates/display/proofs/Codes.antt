-- The tests for a printable code and for a picture of them. Assumes nothing.
use Rattle.std.proofs.Common.{◌≡◌, ℕ, true, false, List, Decides, refl, rules}
use Rattle.std.specs.List.{AllByRecursion}
use Rattle.std.proofs.ByRecursion.{Decides-by_and}
use Rattle.display.specs.Cell.{Code, is_code}
use Rattle.display.specs.Surface.{Printed, all_printed, is_printed}
use Rattle.display.specs.declared.cell.Glyph.{Glyph}

pub code_true : (n : ℕ) → Code n → is_code n ≡ true
code_true n h = search rules

pub true_code : (n : ℕ) → is_code n ≡ true → Code n
true_code n e = search rules

pub not_code : (n : ℕ) → (Code n → ⊥) → is_code n ≡ false
not_code n h = search rules

decides_code : (n : ℕ) → Decides (is_code n) (Code n)
decides_code n = search rules

decides_printed : (P : ℕ) (g : Glyph) → Decides (is_printed P g) (Printed P g)
decides_printed P g = search rules

-- the test of a picture says that every cell is a printable code in one of the pens
pub decides_all_printed : (P : ℕ) (gs : List Glyph) → Decides (all_printed P gs) (AllByRecursion (Printed P) gs)
decides_all_printed P gs =
    Decides-by_and (is_printed P) (Printed P) (all_printed P) (decides_printed P) refl (λ _ _. refl) gs
