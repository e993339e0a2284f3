-- No cell of the row before the present column has a cause.
use Rattle.std.proofs.Common.{◌≡◌, map, ℕ, ◌<◌, None}
use Rattle.display.specs.Surface.{place_of}
use Rattle.faults.specs.Rows.{place_cause}
use Rattle.faults.proofs.cells.row_fault.Given as goal

abbrev pub invariant-loop-column : goal.invariant-loop-column
invariant-loop-column g l =
    (c : ℕ) → c < l.column
    → place_cause (g.P.Panel.answers l.panel) g.C.Cell.admits (map g.C.Cell.glyph l.picture) (place_of l.row c) ≡ None
