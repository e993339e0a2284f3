-- The labels so far are ready.
use Rattle.labels.specs.Label.{noted}
use Rattle.leg_search.specs.Memory.{Cleared}
use Rattle.leg_search.proofs.memory.prepare.Given as goal

abbrev pub invariant-loop-state : goal.invariant-loop-state
invariant-loop-state g l = Cleared (noted g.K.Cost.value g.K.Cost.costs.zero l.labels) l.state
