-- The motions so far are dealt with.
use Rattle.std.proofs.Common.{◌≡◌, length}
use Rattle.labels.specs.Label.{noted}
use Rattle.leg_search.specs.AtOnce.{AtOnce, RestIn, unsettled}
use Rattle.leg_search.specs.Reading.{task_of}
use Rattle.leg_search.proofs.at_once.note_class.Given as goal

abbrev pub invariant-loop-offer : goal.invariant-loop-offer
invariant-loop-offer g l =
    (length l.labels ≡ length l.fn.labels)
    × (unsettled l.labels ≡ unsettled l.fn.labels)
    × AtOnce (task_of g.P.Panel.answers g.C.Cell.glyph g.K.Cost.costs l.task)
    (noted g.K.Cost.value g.K.Cost.costs.zero l.labels) l.fn.from.cursor l.fn.from.number (g.K.Cost.value l.fn.from.cost)
    (RestIn (task_of g.P.Panel.answers g.C.Cell.glyph g.K.Cost.costs l.task) l.fn.from.number l.class
    l.offer-index)
