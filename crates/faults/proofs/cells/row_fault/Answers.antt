-- Nor has the present one, where its fault is none.
use Rattle.std.proofs.Common.{◌≡◌, None, map, sym, below_more}
use Rattle.display.specs.Surface.{place_of}
use Rattle.faults.specs.Rows.{place_cause}
use Rattle.faults.proofs.cells.row_fault.Goals as goal

pub loop-column-preserved : goal.loop-column-preserved
loop-column-preserved g c =
    below_more
    (λ n. place_cause (g.P.Panel.answers c.args.panel.now) g.C.Cell.admits
    (map g.C.Cell.glyph c.args.picture.now) (place_of c.args.row n) ≡ None)
    _ c.loop-column.invariant (sym c.in_default.ensures)
