-- What a plan does to a panel.
--     stands z gs k p       the surface of size z with the picture gs, the cursor k and the pen p
--     Apt a gs              gs has a cell for each place of a panel with the answers a, and a blank in its corner if
--                           that is not safe
--     Printable a gs        and each of its cells is a printable code in one of the panel's pens
use Rattle.std.specs.Prelude.{◌≡◌, ℕ, ◌-◌, ◌*◌, ◌<◌, false, List, length, slice_index_or}
use Rattle.display.specs.Cell.{blank}
use Rattle.display.specs.Surface.{Printed, Surface}
use Rattle.display.specs.declared.cell.Glyph.{Glyph}
use Rattle.display.specs.declared.place.Cursor.{Cursor}
use Rattle.display.specs.declared.size.Size.{Size}
use Rattle.panel.specs.Answers.{Answers}

abbrev pub stands : Size → List Glyph → Cursor → ℕ → Surface
stands z gs k p = record { size = z; picture = gs; cursor = k; pen = p }

pub record Apt (a : Answers) (gs : List Glyph) : Type 0 where
  pub filled : length gs ≡ a.size.rows * a.size.columns
  pub corner : a.corner_safe ≡ false → slice_index_or gs (a.size.rows * a.size.columns - 1) blank ≡ blank

pub record Printable (a : Answers) (gs : List Glyph) : Type 0 where
  pub apt : Apt a gs
  pub cells : (n : ℕ) → n < a.size.rows * a.size.columns → Printed a.pens (slice_index_or gs n blank)
