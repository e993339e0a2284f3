-- What a canvas holds.
--     surface c      the surface that the canvas c holds
--     Placed c       its picture fills the panel, and its cursor is on the panel
--     Whole s        the same of a surface
use Rattle.std.specs.Prelude.{◌≡◌, ◌*◌, length, vec_items, vec_len}
use Rattle.display.specs.Place.{On}
use Rattle.display.specs.Surface.{Surface}
use Rattle.canvas.specs.declared.canvas.Canvas.TheInside.{Inside}

abbrev pub surface : Inside → Surface
surface c = record { size = c.size; picture = vec_items c.cells; cursor = c.cursor; pen = c.pen }

pub record Placed (c : Inside) : Type 0 where
  pub filled : vec_len c.cells ≡ c.size.rows * c.size.columns
  pub on : On c.size c.cursor.place

pub record Whole (s : Surface) : Type 0 where
  pub filled : length s.picture ≡ s.size.rows * s.size.columns
  pub on : On s.size s.cursor.place
