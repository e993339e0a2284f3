-- The cells of a picture are those of its rows: each number is that of a row and a column, and there the causes are the
-- same.
use Rattle.std.proofs.Common.{◌≡◌, ◌∙◌, ℕ, ◌+◌, ◌*◌, ◌/◌, ◌%◌, ◌<◌, Bool, List, None, ◌⊎◌, inl, inr, ap, arith, slice_index_or}
use Rattle.std.proofs.Math.Nat.{div-add-mod}
use Rattle.std.proofs.lemmas.Bool.{cases_order}
use Rattle.std.proofs.lemmas.Nat.{div-mul-add, div_below, mod-mul-add, mod_below}
use Rattle.display.proofs.Places.{number_below}
use Rattle.display.specs.Cell.{blank}
use Rattle.display.specs.Place.{number}
use Rattle.display.specs.Surface.{place_of}
use Rattle.display.specs.declared.cell.Glyph.{Glyph}
use Rattle.faults.specs.Causes.{AllGood, FirstBad, cell_cause, put_cause}
use Rattle.faults.specs.Rows.{BadRow, GoodRow, place_cause}
use Rattle.faults.specs.Told.{Told}
use Rattle.panel.specs.Answers.{Answers}

no_later_row : (n r c columns : ℕ) → c < columns → n < r * columns + c → n / columns < r + 1
no_later_row n r c columns inside below =
    let i : n < (r + 1) * columns = omega arith in div_below n columns (r + 1) (omega arith) i

module _ (a : Answers) (A : ℕ → ℕ → Bool) (gs : List Glyph) where
  some_columns : 0 < a.size.columns
  some_columns = let w = a.size.columns_least in omega arith

  at_number : (n : ℕ)
      → cell_cause a A gs n ≡ place_cause a A gs (place_of (n / a.size.columns) (n % a.size.columns))
  at_number n =
      let e : n ≡ number a.size (place_of (n / a.size.columns) (n % a.size.columns)) =
      omega (arith, div-add-mod n a.size.columns) in
      ap (λ (m : ℕ). put_cause a A (n / a.size.columns) (n % a.size.columns) (slice_index_or gs m blank).code
      (slice_index_or gs m blank).pen) e

  in_good_row : (n : ℕ) → GoodRow a A gs (n / a.size.columns) → cell_cause a A gs n ≡ None
  in_good_row n row = at_number n ∙ row.good (n % a.size.columns) (mod_below n a.size.columns some_columns)

  pub all_good : ((r : ℕ) → r < a.size.rows → GoodRow a A gs r) → AllGood a A gs
  all_good rows = record {
    good = λ n below.
        in_good_row n
        (rows (n / a.size.columns) (div_below n a.size.columns a.size.rows some_columns below));
  }

  module _ (r : ℕ) (t : Told) (before : (q : ℕ) → q < r → GoodRow a A gs q) (bad : BadRow a A gs r t) where
    abbrev first : ℕ
    first = number a.size (place_of r bad.column)

    -- a cell before the first bad one of the row is in a row before it, or before that cell in the row
    earlier : (n : ℕ) → n < first
        → (n / a.size.columns ≡ r) ⊎ ((n / a.size.columns < r) ⊎ (r < n / a.size.columns))
        → cell_cause a A gs n ≡ None
    earlier n below (inl e) =
        let i : n % a.size.columns < bad.column =
        let d = div-add-mod n a.size.columns in
        let f = ap (λ (q : ℕ). q * a.size.columns) e in omega arith in
        at_number n
        ∙ (ap (λ (q : ℕ). place_cause a A gs (place_of q (n % a.size.columns))) e
        ∙ bad.first (n % a.size.columns) i)
    earlier n below (inr (inl i)) = in_good_row n (before (n / a.size.columns) i)
    earlier n below (inr (inr i)) = absurd (
        let d = no_later_row n r bad.column a.size.columns bad.below below in omega arith)

    pub first_bad : r < a.size.rows → FirstBad a A gs t
    first_bad on = record {
      number = first;
      below = number_below a.size (place_of r bad.column) (record { row = on; column = bad.below });
      is = at_number first
          ∙ (ap (λ (q : ℕ). place_cause a A gs (place_of q (first % a.size.columns)))
          (div-mul-add r a.size.columns bad.column bad.below)
          ∙ (ap (λ (q : ℕ). place_cause a A gs (place_of r q)) (mod-mul-add r a.size.columns bad.column bad.below)
          ∙ bad.is));
      first = λ n below. earlier n below (cases_order (n / a.size.columns) r);
    }
