-- The bytes of one motion more are laid behind those of the ones so far, and all are counted in the end; the sum stays
-- small, since the whole leg has no fewer bytes.
use Rattle.std.proofs.Common.{◌∙◌, List, length, map, refl, sym, ap, arith}
use Rattle.std.proofs.lemmas.List.{take_all}
use Rattle.labels.specs.Label.{step_of}
use Rattle.labels.specs.declared.label.Label.{Label}
use Rattle.leg_search.proofs.Sends.{ends_turn, first, lengths_turn, sent_turn}
use Rattle.legs.specs.Scene.{sent}
use Rattle.legs.specs.Seen.{scened}
use Rattle.legs.specs.Sequence.{sequence}
use Rattle.planning.proofs.Pours.{pours_as, pours_more, pours_none}
use Rattle.planning.proofs.pour.pour_leg.Goals as goal

pub loop-label-init : goal.loop-label-init
loop-label-init g c = (refl, pours_none c.args.output.now c.args.count)

pub pour-count-requires : goal.pour-count-requires
pour-count-requires g c =
    let a = lengths_turn (scened g.P.Panel.answers g.C.Cell.glyph c.args.scene.now) c.args.start c.args.steps.now
    c.loop-label.label-index c.as_slice.result.now
    (length (sent (scened g.P.Panel.answers g.C.Cell.glyph c.args.scene.now) c.args.start
    (first c.args.steps.now c.loop-label.label-index))) refl
    (sent_turn (scened g.P.Panel.answers g.C.Cell.glyph c.args.scene.now) c.args.start c.args.steps.now
    c.loop-label.label-index c.label-item.result c.loop-label.cursor c.as_slice.result.now c.step-motion.result
    c.loop-label-test.true c.label-item.is c.loop-label.invariant.0 c.step-motion.ensures
    (c.as_slice.ensures.is ∙ c.motion_bytes-bytes.ensures)) in
    let few = c.requires.few in let small = c.requires.count in let end = c.loop-label.invariant.1.end in omega arith

pub loop-label-preserved : goal.loop-label-preserved
loop-label-preserved g c = (
  ends_turn (scened g.P.Panel.answers g.C.Cell.glyph c.args.scene.now) c.args.start c.args.steps.now
      c.loop-label.label-index c.label-item.result c.loop-label.cursor c.next_cursor-cursor.result c.step-motion.result
      c.loop-label-test.true c.label-item.is c.loop-label.invariant.0 c.step-motion.ensures
      c.next_cursor-cursor.ensures,
  pours_as _ _ c.args.output.now c.pour-count.new.output c.args.count c.pour-count.result
      (sym (sent_turn (scened g.P.Panel.answers g.C.Cell.glyph c.args.scene.now) c.args.start c.args.steps.now
      c.loop-label.label-index c.label-item.result c.loop-label.cursor c.as_slice.result.now c.step-motion.result
      c.loop-label-test.true c.label-item.is c.loop-label.invariant.0 c.step-motion.ensures
      (c.as_slice.ensures.is ∙ c.motion_bytes-bytes.ensures)))
      (pours_more _ c.as_slice.result.now c.args.output.now c.loop-label.output c.pour-count.new.output c.args.count
      c.loop-label.count c.pour-count.result c.loop-label.invariant.1 c.pour-count.ensures),
)

pub returns : goal.returns
returns g c =
    pours_as _ _ c.args.output.now c.loop-label.output c.args.count c.loop-label.count
    (ap (λ (ls : List (Label _)). sent (scened g.P.Panel.answers g.C.Cell.glyph c.args.scene.now) c.args.start
    (sequence (map step_of ls))) (take_all c.loop-label.label-index c.args.steps.now c.loop-label-test.false))
    c.loop-label.invariant.1
