-- The motions so far and one more have too many bytes, and all of them have no fewer.
use Rattle.std.proofs.Common.{◌∙◌, arith}
use Rattle.leg_search.proofs.Sends.{lengths_turn, sent_turn}
use Rattle.legs.specs.Seen.{scened}
use Rattle.leg_search.proofs.sending.length_within.Goals as goal

pub returns-then-length-room : goal.returns-then-length-room
returns-then-length-room g c =
    let a = lengths_turn (scened g.P.Panel.answers g.C.Cell.glyph c.args.scene.now) c.args.start c.args.leg.now
    c.loop-label.label-index c.as_slice-length.result.now c.loop-label.count c.loop-label.invariant.1
    (sent_turn (scened g.P.Panel.answers g.C.Cell.glyph c.args.scene.now) c.args.start c.args.leg.now
    c.loop-label.label-index c.label-item.result c.loop-label.cursor c.as_slice-length.result.now c.step-motion.result
    c.loop-label-test.true c.label-item.is c.loop-label.invariant.0 c.step-motion.ensures
    (c.as_slice-length.ensures.is ∙ c.motion_bytes-bytes.ensures)) in
    omega arith
