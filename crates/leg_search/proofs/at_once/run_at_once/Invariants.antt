-- Each turn keeps the frontier, and settles one state more.
use Rattle.std.proofs.Common.{◌≡◌, length}
use Rattle.labels.specs.Label.{noted}
use Rattle.leg_search.specs.AtOnce.{Idle, unsettled}
use Rattle.leg_search.specs.Reading.{task_of}
use Rattle.leg_search.proofs.at_once.run_at_once.Given as goal

abbrev pub invariant-loop-state : goal.invariant-loop-state
invariant-loop-state g l =
    (length l.labels ≡ length l.fn.labels)
    × Idle (task_of g.P.Panel.answers g.C.Cell.glyph g.K.Cost.costs l.task)
    (noted g.K.Cost.value g.K.Cost.costs.zero l.labels)

abbrev pub decreases-loop-state : goal.decreases-loop-state
decreases-loop-state g l = unsettled l.labels
