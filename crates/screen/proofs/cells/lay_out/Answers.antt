-- The next cell is laid out behind the others.
use Rattle.std.proofs.Common.{◌∙◌, List, ap, arith, slice_set}
use Rattle.screen.proofs.Laid.{laid_more}
use Rattle.screen.proofs.cells.lay_out.Goals as goal

pub loop-place-preserved : goal.loop-place-preserved
loop-place-preserved g c = (
  omega arith,
  ap (λ (xs : List g.row.C.Denot). slice_set xs c.loop-place.place c.args.cell) c.loop-place.invariant.1
      ∙ laid_more c.loop-place.place c.args.picture.now c.args.cell (omega arith),
)
