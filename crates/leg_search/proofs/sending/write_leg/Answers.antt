-- One motion after another is laid behind the ones so far; there is room, since all of them have no fewer bytes.
use Rattle.std.proofs.Common.{◌∙◌, ◌++◌, ap, arith, drop, length, sym}
use Rattle.std.proofs.lemmas.List.{length-append}
use Rattle.leg_search.proofs.Sends.{ends_turn, first, laid_more, lengths_turn, sent_turn}
use Rattle.legs.specs.Scene.{sent}
use Rattle.legs.specs.Seen.{scened}
use Rattle.leg_search.proofs.sending.write_leg.Goals as goal

pub lay-count-requires : goal.lay-count-requires
lay-count-requires g c =
    let a = lengths_turn (scened g.P.Panel.answers g.C.Cell.glyph c.args.scene.now) c.args.start c.args.leg.now
    c.loop-label.label-index c.as_slice.result.now c.loop-label.count c.loop-label.invariant.1
    (sent_turn (scened g.P.Panel.answers g.C.Cell.glyph c.args.scene.now) c.args.start c.args.leg.now
    c.loop-label.label-index c.label-item.result c.loop-label.cursor c.as_slice.result.now c.step-motion.result
    c.loop-label-test.true c.label-item.is c.loop-label.invariant.0 c.step-motion.ensures
    (c.as_slice.ensures.is ∙ c.motion_bytes-bytes.ensures)) in
    let b = c.in_ok-length_within.ensures in omega arith

pub loop-label-preserved : goal.loop-label-preserved
loop-label-preserved g c =
    let t = sent_turn (scened g.P.Panel.answers g.C.Cell.glyph c.args.scene.now) c.args.start c.args.leg.now
    c.loop-label.label-index c.label-item.result c.loop-label.cursor c.as_slice.result.now c.step-motion.result
    c.loop-label-test.true c.label-item.is c.loop-label.invariant.0 c.step-motion.ensures
    (c.as_slice.ensures.is ∙ c.motion_bytes-bytes.ensures) in (
      ends_turn (scened g.P.Panel.answers g.C.Cell.glyph c.args.scene.now) c.args.start c.args.leg.now
          c.loop-label.label-index c.label-item.result c.loop-label.cursor c.next_cursor-cursor.result
          c.step-motion.result c.loop-label-test.true c.label-item.is c.loop-label.invariant.0 c.step-motion.ensures
          c.next_cursor-cursor.ensures,
      (let a = c.lay-count.ensures.end in let i = c.loop-label.invariant.1 in let u = ap length t in
          let d = length-append (sent (scened g.P.Panel.answers g.C.Cell.glyph c.args.scene.now) c.args.start
          (first c.args.leg.now c.loop-label.label-index)) c.as_slice.result.now in omega arith),
      c.lay-count.ensures.laid ∙ (laid_more _ c.as_slice.result.now c.args.output.now c.loop-label.output
          c.loop-label.count c.lay-count.result c.loop-label.invariant.1 c.lay-count.ensures.end
          c.loop-label.invariant.2
          ∙ ap (λ xs. xs ++ drop c.lay-count.result c.args.output.now) (sym t)),
    )
