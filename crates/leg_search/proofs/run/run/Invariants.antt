-- The search goes on, the queue has the classes, and places of the line are left to take them from. The turns are counted.
use Rattle.std.proofs.Common.{◌≡◌, ◌≤◌, length, nat_lt}
use Rattle.leg_search.specs.Reach.{Searching}
use Rattle.leg_search.specs.Reading.{reach_of, task_of}
use Rattle.leg_search.specs.Run.{Queued}
use Rattle.leg_search.specs.Task.{places}
use Rattle.leg_search.specs.Turn.{remaining}
use Rattle.leg_search.proofs.run.run.Given as goal

abbrev pub invariant-loop-due : goal.invariant-loop-due
invariant-loop-due g l =
    (length l.labels ≡ length l.fn.labels)
    × Searching (task_of g.P.Panel.answers g.C.Cell.glyph g.K.Cost.costs l.task)
    (reach_of g.K.Cost.value g.K.Cost.costs.zero l.labels l.front)
    × Queued (task_of g.P.Panel.answers g.C.Cell.glyph g.K.Cost.costs l.task)
    (reach_of g.K.Cost.value g.K.Cost.costs.zero l.labels l.front) l.queue (nat_lt l.seen l.front.count)
    × (l.turns ≤ 49152)

abbrev pub decreases-loop-due : goal.decreases-loop-due
decreases-loop-due g l = remaining (places (task_of g.P.Panel.answers g.C.Cell.glyph g.K.Cost.costs l.task)) l.front
