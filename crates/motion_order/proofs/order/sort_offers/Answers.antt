-- By hand: the search does not guess by which test the closure answers.
use Rattle.std.proofs.Common.{rules}
use Rattle.motion_order.proofs.Sorting.{sorted}
use Rattle.motion_order.proofs.order.sort_offers.Goals as goal

pub returns-clause-sorted : goal.returns-clause-sorted
returns-clause-sorted g c =
    sorted g.K.Cost.costs g.met.K.Cost.laws _ c.sort_unstable_by.ensures.sorted (λ f a r f' called. search rules)
