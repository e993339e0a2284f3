-- The scene of the search is that of the panel as it stands. By hand: the search does not find which scenes are one.
use Rattle.std.proofs.Common.{◌≡◌, ◌∙◌, ◌*◌, inl, length, ap, arith}
use Rattle.std.proofs.lemmas.Result.{IfOk-weaker}
use Rattle.display.specs.declared.size.Size.{Size}
use Rattle.leg_view.proofs.Tellings.{covers, no_way, not_refused, scene_same, stands}
use Rattle.leg_view.proofs.report.leg_text.Goals as goal

pub returns-in-Ok-None : goal.returns-in-Ok-None
returns-in-Ok-None g c =
    let panel = c.panel-panel.result.now in
    let same = scene_same g.P.Panel.answers (λ p. (g.P.Panel.meaning p).surface) _ c.scene_over-scene.result panel
    c.args.charted.now c.scene_over-scene.ensures.panel c.panel-panel.ensures c.scene_over-scene.ensures.scene in
    let cursor = c.cursor-start.ensures ∙ ap (λ p. (g.P.Panel.meaning p).surface.cursor) c.panel-panel.ensures in
    let none = no_way g.K.Cost.costs g.K.Cost.value _ c.cursor-start.result c.args.goal c.find.new.labels
    c.in-Ok-None.field-0 _ _ c.in-Ok-None.field-0-is same cursor c.in-Ok-None.ensures.answered in
    IfOk-weaker c.write_no_sequence.result _ _ (λ v h. inl (none, h)) c.write_no_sequence.ensures

pub unreachable-requires : goal.unreachable-requires
unreachable-requires g c =
    let panel = c.panel-panel.result.now in
    let surface = (g.P.Panel.meaning panel).surface in
    let z = (g.P.Panel.answers c.args.charted.now).size in
    let sound = g.met.P.Panel.sound panel in
    let sized = sound.sized ∙ ap (λ p. (g.P.Panel.answers p).size) c.panel-panel.ensures in
    let places : c.places.result ≡ z.rows * z.columns = c.places.ensures
    ∙ ap (λ (x : Size). x.rows * x.columns)
    (c.size.ensures ∙ ap (λ p. (g.P.Panel.answers p).size) c.panel-panel.ensures) in
    let labels = c.in_ok-labels.ensures.len in
    let lent = c.deref_mut.ensures.len in
    let covered = covers z (length c.deref_mut.result.now) (omega (arith, places, labels, lent)) in
    not_refused g.K.Cost.costs g.K.Cost.value _ c.cursor-start.result c.args.goal _ _ _ covered
    (stands _ surface sound.within z sized c.cursor-start.result c.cursor-start.ensures) c.requires c.in-Err.ensures
