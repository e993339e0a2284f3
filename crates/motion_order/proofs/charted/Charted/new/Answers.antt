-- By hand: the search gives up at one of its limits.
use Rattle.motion_order.proofs.Classing.{in_classes}
use Rattle.motion_order.proofs.charted.Charted.new.Goals as goal

pub invariant_of-result : goal.invariant_of-result
invariant_of-result g c =
    let same = c.offers.ensures.same in
    in_classes g.K.Cost.costs g.met.K.Cost.laws _ _ _ c.new-order.ensures
    (rw same at c.offers.ensures.few) (rw same at c.mark_ends-ends.ensures)
