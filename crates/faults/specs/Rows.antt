-- What is asked of a picture row by row.
--     place_cause a A gs p  the first cause of the cell at the place p in the picture gs, on a panel with the answers a;
--                           A says which codes and pens the cells admit
--     BadRow a A gs r t     t tells why the first cell of the row r that cannot be put, by its column, cannot
--     GoodRow a A gs r      every cell of the row r can be put
--     ChecksRow a A gs r o  o is the answer for the row r: why its first bad cell cannot be put, or nothing
use Rattle.std.specs.Prelude.{◌≡◌, ℕ, ◌<◌, Bool, List, Some, None, Option, slice_index_or}
use Rattle.display.specs.Cell.{blank}
use Rattle.display.specs.Place.{number}
use Rattle.display.specs.Surface.{place_of}
use Rattle.display.specs.declared.cell.Glyph.{Glyph}
use Rattle.display.specs.declared.place.Place.{Place}
use Rattle.faults.specs.Causes.{put_cause}
use Rattle.faults.specs.Told.{Told, told}
use Rattle.faults.specs.declared.fault.Fault.{Fault}
use Rattle.panel.specs.Answers.{Answers}

module _ (a : Answers) (A : ℕ → ℕ → Bool) (gs : List Glyph) where
  abbrev pub place_cause : Place → Option Told
  place_cause p = put_cause a A p.row p.column (slice_index_or gs (number a.size p) blank).code
      (slice_index_or gs (number a.size p) blank).pen

  pub record BadRow (r : ℕ) (t : Told) : Type 0 where
    pub column : ℕ
    pub below : column < a.size.columns
    pub is : place_cause (place_of r column) ≡ Some t
    pub first : (c : ℕ) → c < column → place_cause (place_of r c) ≡ None

  pub record GoodRow (r : ℕ) : Type 0 where
    pub good : (c : ℕ) → c < a.size.columns → place_cause (place_of r c) ≡ None

  abbrev pub ChecksRow : ℕ → Option Fault → Type 0
  ChecksRow r None = GoodRow r
  ChecksRow r (Some why) = BadRow r (told why)
