-- The two walks are of the same two pictures: the first cells of those that are given.
use Rattle.std.proofs.Common.{rules, ◌∙◌, map, ap, arith}
use Rattle.panel.specs.Bytes.{bytes_of}
use Rattle.planning.proofs.Plans.{not_blocked, planned}
use Rattle.planning.proofs.send.send_plan.Goals as goal

pub unreachable-requires : goal.unreachable-requires
unreachable-requires g c =
    not_blocked g.K.Cost.costs (g.P.Panel.answers c.args.charted.now)
    (map g.C.Cell.glyph c.cut-pictures.result.shown.now) (map g.C.Cell.glyph c.cut-pictures.result.wanted.now)
    c.args.rest c.args.start (bytes_of c.args.head) c.args.output.now c.try_plan.new.output c.in-Counted.needed
    c.in-Counted.ensures.tries c.in-Err.field-0 c.in-Err.ensures.walks

pub returns : goal.returns
returns g c =
    planned g.K.Cost.costs (g.P.Panel.answers c.args.charted.now) g.C.Cell.glyph c.args.pictures.shown.now
    c.args.pictures.wanted.now (bytes_of c.args.head) c.args.start c.args.rest c.args.labels.now c.write_plan.new.labels
    c.size-size.result (c.size-size.ensures ∙ ap (λ p. (g.P.Panel.answers p).size) c.panel.ensures)
    c.places.result c.places.ensures c.cut-pictures.result.shown.now c.cut-pictures.result.wanted.now
    c.cut-pictures.ensures.shown c.cut-pictures.ensures.wanted c.args.output.now c.try_plan.new.output
    c.write_plan.new.output c.in-Counted.needed c.in-Ok.sent (search rules) c.in-Counted.ensures.tries
    c.in-Ok.ensures.walks (let e = c.if-output-needed.false in omega arith)
