-- The best so far is the cheapest of the states so far.
use Rattle.labels.specs.Label.{noted}
use Rattle.leg_search.specs.AtOnce.{Best}
use Rattle.leg_search.proofs.at_once.cheapest.Given as goal

abbrev pub invariant-loop-state : goal.invariant-loop-state
invariant-loop-state g l = Best g.K.Cost.costs (noted g.K.Cost.value g.K.Cost.costs.zero l.labels) l.state l.best
