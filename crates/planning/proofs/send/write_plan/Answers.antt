-- The plan is walked behind the bytes ahead of it.
use Rattle.std.proofs.Common.{map, refl}
use Rattle.panel.specs.Bytes.{bytes_of}
use Rattle.planning.proofs.Plans.{walks_ahead}
use Rattle.planning.proofs.send.write_plan.Goals as goal

pub returns-clause-walks : goal.returns-clause-walks
returns-clause-walks g c =
    walks_ahead g.K.Cost.costs (g.P.Panel.answers c.args.charted.now) (map g.C.Cell.glyph c.args.pictures.shown.now)
    (map g.C.Cell.glyph c.args.pictures.wanted.now) c.args.rest c.args.start (bytes_of c.args.head)
    c.as_slice.result.now c.args.output.now c.pour-count.new.output c.walk.new.output c.pour-count.result
    c.pour-count.result c.as_slice.ensures.is c.pour-count.ensures refl c.walk.result c.walk.ensures.walks
