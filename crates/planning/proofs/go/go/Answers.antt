-- The search tells the leg of the plan, or that there is none.
use Rattle.std.proofs.Common.{ap}
use Rattle.planning.proofs.Legs.{few_sent, goes_nowhere, gone}
use Rattle.planning.proofs.go.go.Goals as goal

pub returns-in_err-leg-in-Ok-clause-goes : goal.returns-in_err-leg-in-Ok-clause-goes
returns-in_err-leg-in-Ok-clause-goes g c =
    goes_nowhere g.K.Cost.costs g.K.Cost.value (g.P.Panel.answers c.args.charted.now) g.C.Cell.glyph
    c.args.pictures.shown.now c.args.pictures.wanted.now c.args.split c.args.progress c.args.goal c.find.new.labels
    c.in-Ok.leg c.in_err-leg-in-Ok.was c.in-Ok.ensures.answered c.args.output.now c.from_residual.result
    c.from_residual.ensures

pub pour_leg-requires-clause-few : goal.pour_leg-requires-clause-few
pour_leg-requires-clause-few g c =
    few_sent g.K.Cost.costs g.K.Cost.value (g.P.Panel.answers c.args.charted.now) g.C.Cell.glyph
    c.args.pictures.shown.now c.args.pictures.wanted.now c.args.split c.args.progress c.args.goal c.find.new.labels
    c.in_ok-leg-in-Ok.leg c.in-Ok.leg c.in_ok-leg-in-Ok.was c.in-Ok.ensures.answered c.steps.result.now
    c.steps.ensures (g.P.Panel.answers c.panel.result.now) (ap g.P.Panel.answers c.panel.ensures)
    (g.met.P.Panel.lawful c.args.charted.now).bounded

pub returns-clause-goes : goal.returns-clause-goes
returns-clause-goes g c =
    gone g.K.Cost.costs g.K.Cost.value (g.P.Panel.answers c.args.charted.now) g.C.Cell.glyph
    c.args.pictures.shown.now c.args.pictures.wanted.now c.args.split c.args.progress c.args.goal c.find.new.labels
    c.in_ok-leg-in-Ok.leg c.in-Ok.leg c.in_ok-leg-in-Ok.was c.in-Ok.ensures.answered c.steps.result.now
    c.steps.ensures (g.P.Panel.answers c.panel.result.now) (ap g.P.Panel.answers c.panel.ensures)
    (g.met.P.Panel.lawful c.args.charted.now).bounded c.args.output.now c.pour_leg.new.output c.pour_leg.result
    c.pour_leg.ensures
