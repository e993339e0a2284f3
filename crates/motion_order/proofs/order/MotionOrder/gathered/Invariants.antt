use Rattle.motion_order.specs.Gathered.{Gathered}
use Rattle.motion_order.proofs.order.MotionOrder.gathered.Given as goal

abbrev pub invariant-loop-motion : goal.invariant-loop-motion
invariant-loop-motion g l = Gathered (g.P.Panel.answers l.panel) l.motion l.order
