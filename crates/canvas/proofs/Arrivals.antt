-- A move to a place of the panel gets there. Assumes nothing.
use Rattle.std.proofs.Common.{◌≡◌, Some, Option, rules}
use Rattle.display.specs.Place.{On}
use Rattle.display.specs.Steps.{below}
use Rattle.display.specs.Surface.{Surface, at_cursor, moved, place_of, stepped}
use Rattle.display.specs.declared.place.Cursor.{Cursor}
use Rattle.display.specs.declared.place.Place.{Place}
use Rattle.canvas.specs.Drawing.{goto, line_fed, onward, went}

module _ (s : Surface) where
  pub goto_on : (p : Place) → On s.size p → goto s p.row p.column ≡ moved s p
  goto_on p on = search rules

  pub went_on : (o : Option Place) (p : Place) → o ≡ Some p → On s.size p → went s o ≡ moved s p
  went_on o p e on = search rules

  pub line_fed_below : (p : Place) → below s.size s.cursor.place 1 ≡ Some p → line_fed s ≡ moved s p
  line_fed_below p e = search rules

  pub goto_return : On s.size s.cursor.place
      → goto s s.cursor.place.row 0 ≡ moved s (place_of s.cursor.place.row 0)
  goto_return on = search rules

  -- a step to the right takes the cursor that it says
  pub onward_stepped : (k : Cursor) → onward s (at_cursor s k) ≡ at_cursor s (stepped s.size s.cursor.place k)
  onward_stepped k = search rules
