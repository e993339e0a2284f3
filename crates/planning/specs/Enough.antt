-- What is enough for the plans of a panel.
--     Enough z ls ws     on a panel of size z, so many labels and wanted cells are enough: a label for each place and
--                        one more, and a cell for each place
use Rattle.std.specs.Prelude.{ℕ, ◌*◌, ◌<◌, ◌≤◌}
use Rattle.display.specs.declared.size.Size.{Size}

pub record Enough (z : Size) (labels cells : ℕ) : Type 0 where
  pub memory : z.rows * z.columns < labels
  pub picture : z.rows * z.columns ≤ cells
