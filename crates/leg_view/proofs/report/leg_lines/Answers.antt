-- The labels hold the motions of the leg. By hand: the search does not find that they are those of one sequence.
use Rattle.std.proofs.Common.{◌∙◌, ap, map, sym}
use Rattle.std.proofs.lemmas.Result.{IfOk-weaker}
use Rattle.labels.specs.Label.{step_of}
use Rattle.leg_view.proofs.Tellings.{told}
use Rattle.legs.specs.Scene.{sent}
use Rattle.legs.specs.Seen.{scened}
use Rattle.legs.specs.Sequence.{sequence}
use Rattle.leg_view.proofs.report.leg_lines.Goals as goal

pub returns : goal.returns
returns g c =
    let s = scened g.P.Panel.answers g.C.Cell.glyph c.args.scene.now in
    let bytes = c.deref.ensures.value ∙ (c.in_ok-bytes.ensures
    ∙ ap (λ ls. sent s c.args.start (sequence (map step_of ls))) (sym c.steps.ensures)) in
    IfOk-weaker c.write_lines.result _ _
    (λ v h. told g.K.Cost.costs g.K.Cost.value s c.args.start c.args.goal c.args.labels.now c.args.leg c.requires
    c.steps.result.now c.steps.ensures g.K.Worded.worded c.deref.result.now v.items bytes h)
    c.write_lines.ensures
