-- One cell more is drawn behind those so far, and in the end all are those of the run.
use Rattle.planning.proofs.Pours.{draws_cell, draws_cells}
use Rattle.planning.proofs.draw.draw_run.Goals as goal

pub loop-cell-preserved : goal.loop-cell-preserved
loop-cell-preserved g c =
    draws_cell g.C.Cell.glyph (g.P.Panel.answers c.args.panel.now) c.args.pen c.args.output.now c.args.count _
    c.loop-cell.cell-index c.cell-item.result c.glyph_of-glyph.result c.loop-cell.output c.draw_glyph.new.output
    c.loop-cell.inked c.draw_glyph.result c.loop-cell-test.true c.cell-item.is c.glyph_of-glyph.ensures
    c.loop-cell.invariant c.draw_glyph.ensures.pours c.draw_glyph.ensures.few

pub returns : goal.returns
returns g c =
    draws_cells g.C.Cell.glyph (g.P.Panel.answers c.args.panel.now) c.args.pen c.args.output.now c.args.count
    c.args.wanted.now c.args.run c.loop-cell.cell-index c.loop-cell.output c.loop-cell.inked c.loop-cell-test.false
    c.loop-cell.invariant
