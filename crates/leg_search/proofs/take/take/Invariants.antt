-- The motions so far are dealt with.
use Rattle.std.proofs.Common.{◌≡◌, length}
use Rattle.leg_search.specs.Reading.{reach_of, task_of}
use Rattle.leg_search.specs.Take.{Takes}
use Rattle.leg_search.proofs.take.take.Given as goal

abbrev pub invariant-loop-offer : goal.invariant-loop-offer
invariant-loop-offer g l =
    (length l.labels ≡ length l.fn.labels)
    × (l.front.next ≡ l.fn.front.next)
    × Takes (task_of g.P.Panel.answers g.C.Cell.glyph g.K.Cost.costs l.task)
    (reach_of g.K.Cost.value g.K.Cost.costs.zero l.fn.labels l.fn.front)
    (reach_of g.K.Cost.value g.K.Cost.costs.zero l.labels l.front) l.class l.offer-index
    (g.K.Cost.value l.departure.cost) l.departure.cursor
