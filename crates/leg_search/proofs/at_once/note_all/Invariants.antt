-- The classes so far are dealt with.
use Rattle.std.proofs.Common.{◌≡◌, length}
use Rattle.labels.specs.Label.{noted}
use Rattle.leg_search.specs.AtOnce.{AtOnce, Rest, unsettled}
use Rattle.leg_search.specs.Reading.{task_of}
use Rattle.leg_search.proofs.at_once.note_all.Given as goal

abbrev pub invariant-loop-class : goal.invariant-loop-class
invariant-loop-class g l =
    (length l.labels ≡ length l.fn.labels)
    × (unsettled l.labels ≡ unsettled l.fn.labels)
    × AtOnce (task_of g.P.Panel.answers g.C.Cell.glyph g.K.Cost.costs l.task)
    (noted g.K.Cost.value g.K.Cost.costs.zero l.labels) l.from.cursor l.from.number (g.K.Cost.value l.from.cost)
    (Rest (task_of g.P.Panel.answers g.C.Cell.glyph g.K.Cost.costs l.task) l.from.number l.class)
