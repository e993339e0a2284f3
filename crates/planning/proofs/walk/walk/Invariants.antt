-- The runs before a number are sent.
use Rattle.std.proofs.Common.{◌*◌, ◌-◌, map}
use Rattle.planning.specs.Walks.{Walking}
use Rattle.planning.proofs.walk.walk.Given as goal

abbrev pub invariant-loop-run : goal.invariant-loop-run
invariant-loop-run g l =
    Walking g.K.Cost.costs (g.P.Panel.answers l.charted) (map g.C.Cell.glyph l.pictures.shown.now)
    (map g.C.Cell.glyph l.pictures.wanted.now) l.rest l.fn.start l.count l.fn.output l.from l.progress l.output

abbrev pub decreases-loop-run : goal.decreases-loop-run
decreases-loop-run g l = l.size.rows * l.size.columns - l.from
