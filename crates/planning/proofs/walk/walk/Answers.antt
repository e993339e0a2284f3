-- Each step of the walk is a run taken, and the last one is the leg to the rest place.
use Rattle.std.proofs.Common.{◌∙◌, map, sym, ap, subst}
use Rattle.std.proofs.lemmas.Result.{err_from_is_err_and}
use Rattle.planning.specs.Walks.{Walking}
use Rattle.planning.proofs.Walks.{blocked_here, blocked_last, walked, walking_more, walking_none}
use Rattle.planning.proofs.walk.walk.Goals as goal

pub loop-run-init : goal.loop-run-init
loop-run-init g c =
    let a = g.P.Panel.answers c.args.charted.now in
    let gs = map g.C.Cell.glyph c.args.pictures.shown.now in
    let hs = map g.C.Cell.glyph c.args.pictures.wanted.now in
    subst (λ x. Walking g.K.Cost.costs a gs hs c.args.rest c.args.start c.args.count c.args.output.now 0
    (record { cursor = x; pen = c.args.start.pen; count = c.args.count }) c.args.output.now)
    (sym c.from.ensures)
    (walking_none g.K.Cost.costs a gs hs c.args.rest c.args.start c.args.count c.args.output.now c.requires.start)

pub returns-in_err-progress-clause-walks : goal.returns-in_err-progress-clause-walks
returns-in_err-progress-clause-walks g c =
    let p = err_from_is_err_and c.from_residual.result c.from_residual.ensures.1 in
    let blocked = blocked_here g.K.Cost.costs (g.P.Panel.answers c.args.charted.now)
    (map g.C.Cell.glyph c.args.pictures.shown.now) (map g.C.Cell.glyph c.args.pictures.wanted.now) c.args.rest
    c.args.start c.args.count c.args.output.now c.loop-run.from c.loop-run.progress c.loop-run.output
    c.loop-run.invariant c.size-size.result
    (c.size-size.ensures ∙ ap (λ p. (g.P.Panel.answers p).size) c.panel.ensures)
    c.in-Some.run' c.in-Some.ensures
    c.in_err-progress.field-0.0 c.in_err-progress.ensures.taken.0 c.in_err-progress.ensures.taken.1 in
    rw (p.1, p.2) blocked

pub loop-run-preserved : goal.loop-run-preserved
loop-run-preserved g c =
    walking_more g.K.Cost.costs (g.P.Panel.answers c.args.charted.now)
    (map g.C.Cell.glyph c.args.pictures.shown.now) (map g.C.Cell.glyph c.args.pictures.wanted.now) c.args.rest
    c.args.start c.args.count c.args.output.now c.loop-run.from c.loop-run.progress c.loop-run.output
    c.loop-run.invariant c.size-size.result
    (c.size-size.ensures ∙ ap (λ p. (g.P.Panel.answers p).size) c.panel.ensures)
    c.in-Some.run' c.in-Some.ensures
    (g.met.P.Panel.lawful c.args.charted.now).bounded c.in_ok-progress.progress c.take_run.new.output
    c.in_ok-progress.ensures.taken

pub returns-in_default-go-clause-walks : goal.returns-in_default-go-clause-walks
returns-in_default-go-clause-walks g c =
    blocked_last g.K.Cost.costs (g.P.Panel.answers c.args.charted.now)
    (map g.C.Cell.glyph c.args.pictures.shown.now) (map g.C.Cell.glyph c.args.pictures.wanted.now) c.args.rest
    c.args.start c.args.count c.args.output.now c.loop-run.from c.loop-run.progress c.loop-run.output
    c.loop-run.invariant c.size-size.result
    (c.size-size.ensures ∙ ap (λ p. (g.P.Panel.answers p).size) c.panel.ensures)
    c.in_default.ensures c.places.result c.places.ensures c.in_default-go.ensures.goes.0

pub returns-clause-walks : goal.returns-clause-walks
returns-clause-walks g c =
    walked g.K.Cost.costs (g.P.Panel.answers c.args.charted.now)
    (map g.C.Cell.glyph c.args.pictures.shown.now) (map g.C.Cell.glyph c.args.pictures.wanted.now) c.args.rest
    c.args.start c.args.count c.args.output.now c.loop-run.from c.loop-run.progress c.loop-run.output
    c.loop-run.invariant c.size-size.result
    (c.size-size.ensures ∙ ap (λ p. (g.P.Panel.answers p).size) c.panel.ensures)
    c.in_default.ensures c.places.result c.places.ensures c.go.new.output c.in-Some-go.count c.in-Some-go.ensures.goes
