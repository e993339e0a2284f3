-- The class is taken from the states so far; it is the turn of its cost still.
use Rattle.std.proofs.Common.{◌≡◌, ◌⊎◌, ◌<◌, ◌≤◌, length, slice_index_or}
use Rattle.leg_search.specs.Reading.{reach_of, task_of}
use Rattle.leg_search.specs.Task.{places}
use Rattle.leg_search.specs.Turn.{Turned, remaining}
use Rattle.leg_search.proofs.turn.turn.Given as goal

abbrev pub invariant-loop-position : goal.invariant-loop-position
invariant-loop-position g l =
    (length l.labels ≡ length l.fn.labels)
    × Turned (task_of g.P.Panel.answers g.C.Cell.glyph g.K.Cost.costs l.task)
    (reach_of g.K.Cost.value g.K.Cost.costs.zero l.fn.labels l.fn.front)
    (reach_of g.K.Cost.value g.K.Cost.costs.zero l.labels l.front) (g.K.Cost.value l.due.cost) l.due.class
    × (slice_index_or l.front.next l.due.class 0 ≡ l.position)
    × (remaining (places (task_of g.P.Panel.answers g.C.Cell.glyph g.K.Cost.costs l.task)) l.front
    ≤ remaining (places (task_of g.P.Panel.answers g.C.Cell.glyph g.K.Cost.costs l.task)) l.fn.front)
    × ((l.position ≡ l.first)
    ⊎ (remaining (places (task_of g.P.Panel.answers g.C.Cell.glyph g.K.Cost.costs l.task)) l.front
    < remaining (places (task_of g.P.Panel.answers g.C.Cell.glyph g.K.Cost.costs l.task)) l.fn.front))
