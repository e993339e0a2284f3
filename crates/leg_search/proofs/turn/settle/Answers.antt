-- Settling the label settles its note, and the label holds what it held.
use Rattle.std.proofs.Common.{◌∙◌, ap, sym}
use Rattle.labels.specs.Note.{Note}
use Rattle.labels.proofs.Memory.{noted_at}
use Rattle.leg_search.proofs.Unsettled.{unsettled_less}
use Rattle.leg_search.proofs.Fronts.{same_line}
use Rattle.leg_search.proofs.Writes.{settles}
use Rattle.leg_search.specs.Turn.{turned}
use Rattle.leg_search.proofs.turn.settle.Goals as goal

pub returns-then-is_reached-clause-line : goal.returns-then-is_reached-clause-line
returns-then-is_reached-clause-line g c = same_line c.args.labels.now c.args.state c.settle.new.self
    c.index-labels-state.result c.settle.ensures.step

pub returns-then-is_reached-clause-settles : goal.returns-then-is_reached-clause-settles
returns-then-is_reached-clause-settles g c = turned (c.is_reached.ensures.0 c.if-is_reached.true)
    (settles g.K.Cost.value g.K.Cost.costs.zero c.args.labels.now c.args.state c.index-labels-state.result
    c.settle.new.self c.requires c.index-labels-state.is c.settle.ensures.note)

pub returns-then-is_reached-clause-less : goal.returns-then-is_reached-clause-less
returns-then-is_reached-clause-less g c = λ h. unsettled_less c.args.labels.now c.args.state c.index-labels-state.result
    c.settle.new.self c.requires c.index-labels-state.is
    (sym (ap (λ (a : Note _). a.stage)
    (noted_at g.K.Cost.value g.K.Cost.costs.zero c.args.labels.now c.args.state c.index-labels-state.result c.requires
    c.index-labels-state.is)) ∙ h)
    (ap (λ (a : Note _). a.stage) c.settle.ensures.note)
