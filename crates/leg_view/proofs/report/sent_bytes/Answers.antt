-- The labels hold the motions of the leg, and a motion has at most sixteen bytes.
use Rattle.std.proofs.Common.{◌≡◌, ◌∙◌, ◌*◌, length, ap, arith}
use Rattle.display.specs.declared.size.Size.{Size}
use Rattle.leg_view.proofs.Tellings.{has_room}
use Rattle.legs.specs.Seen.{scened}
use Rattle.leg_view.proofs.report.sent_bytes.Goals as goal

pub unreachable-requires : goal.unreachable-requires
unreachable-requires g c =
    let z = (g.P.Panel.answers c.args.scene.now.panel.now).size in
    let places : c.places.result ≡ z.rows * z.columns =
    c.places.ensures ∙ ap (λ (x : Size). x.rows * x.columns) c.size.ensures in
    let here = c.in_ok-output.ensures.len in
    let there = c.deref_mut.ensures.len in
    has_room g.K.Cost.costs g.K.Cost.value (scened g.P.Panel.answers g.C.Cell.glyph c.args.scene.now) c.args.start
    c.args.goal c.args.labels.now c.args.leg c.requires c.steps.result.now c.steps.ensures
    (g.met.P.Panel.lawful c.args.scene.now.panel.now).bounded (length c.deref_mut.result.now)
    (omega (arith, here, there, places)) c.in-None.ensures.0
