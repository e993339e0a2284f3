-- The way back so far has told the last motions, and room is left for the others.
use Rattle.labels.specs.Label.{noted}
use Rattle.leg_search.specs.Memory.{Tracing, held}
use Rattle.leg_search.proofs.memory.trace.Given as goal

abbrev pub invariant-loop-state : goal.invariant-loop-state
invariant-loop-state g l =
    Tracing (noted g.K.Cost.value g.K.Cost.costs.zero l.fn.labels) (noted g.K.Cost.value g.K.Cost.costs.zero l.labels)
    l.beginning l.goal l.places l.first l.state (held l.labels l.first l.places)

abbrev pub decreases-loop-state : goal.decreases-loop-state
decreases-loop-state g l = l.first
