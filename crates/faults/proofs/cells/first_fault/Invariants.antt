-- Every cell of the rows before the present one can be put.
use Rattle.std.proofs.Common.{map, ℕ, ◌<◌}
use Rattle.faults.specs.Rows.{GoodRow}
use Rattle.faults.proofs.cells.first_fault.Given as goal

abbrev pub invariant-loop-row : goal.invariant-loop-row
invariant-loop-row g l =
    (r : ℕ) → r < l.row → GoodRow (g.P.Panel.answers l.panel) g.C.Cell.admits (map g.C.Cell.glyph l.picture) r
