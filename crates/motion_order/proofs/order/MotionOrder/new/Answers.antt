-- By hand: the search gives up at one of its limits.
use Rattle.motion_order.proofs.Gathering.{in_order}
use Rattle.motion_order.proofs.order.MotionOrder.new.Goals as goal

pub returns : goal.returns
returns g c =
    in_order g.K.Cost.costs g.met.K.Cost.laws (g.P.Panel.answers c.args.panel.now) _ _ c.gathered-order.ensures
    c.sort.ensures.same c.sort.ensures.sorted
