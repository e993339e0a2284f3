-- The cells so far are drawn.
use Rattle.std.proofs.Common.{map, take}
use Rattle.planning.specs.Pours.{Draws}
use Rattle.planning.proofs.draw.draw_run.Given as goal

abbrev pub invariant-loop-cell : goal.invariant-loop-cell
invariant-loop-cell g l =
    Draws (g.P.Panel.answers l.panel) (map g.C.Cell.glyph (take l.cell-index l.cell-items)) l.pen l.fn.output l.output
    l.count l.inked
