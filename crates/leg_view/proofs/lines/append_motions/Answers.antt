-- By hand: the search does not find that the motion of one label more is the next one.
use Rattle.std.proofs.Common.{vec_items, rules}
use Rattle.leg_view.proofs.Motions.{motions_more}
use Rattle.leg_view.proofs.lines.append_motions.Goals as goal

pub loop-label-preserved : goal.loop-label-preserved
loop-label-preserved g c =
    motions_more c.args.steps.now c.loop-label.label-index c.label-item.result (vec_items c.extend_from_slice.new.self)
    (vec_items c.loop-label.out) (vec_items c.append_motion.new.out) c.loop-label-test.true
    c.label-item.is c.loop-label.invariant (search rules)
