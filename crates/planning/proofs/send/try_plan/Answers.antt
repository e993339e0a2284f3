-- What is written into the bytes that are put by is written into the output.
use Rattle.std.proofs.Common.{map, arith}
use Rattle.panel.specs.Bytes.{bytes_of}
use Rattle.planning.proofs.Plans.{wrote}
use Rattle.planning.proofs.send.try_plan.Goals as goal

pub returns-then-sent-room-clause-tries : goal.returns-then-sent-room-clause-tries
returns-then-sent-room-clause-tries g c =
    wrote g.K.Cost.costs (g.P.Panel.answers c.args.charted.now) (map g.C.Cell.glyph c.args.pictures.shown.now)
    (map g.C.Cell.glyph c.args.pictures.wanted.now) c.args.rest c.args.start (bytes_of c.args.head) c.args.output.now
    c.write_plan.new.output c.min-room.result c.in-Ok.sent c.in-Ok.ensures.walks
    (let e = c.min-room.ensures in omega arith) (let e = c.if-sent-room.true in omega arith)
