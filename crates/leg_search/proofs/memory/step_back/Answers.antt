-- Holding a motion changes no note.
use Rattle.std.proofs.Common.{◌∙◌, ap, sym}
use Rattle.labels.specs.Note.{Note}
use Rattle.labels.specs.declared.label.Label.{Label}
use Rattle.labels.proofs.Memory.{noted_at}
use Rattle.leg_search.proofs.Memories.{holds_more, same_notes}
use Rattle.leg_search.proofs.memory.step_back.Goals as goal

pub returns-clause-from : goal.returns-clause-from
returns-clause-from g c = c.from.ensures ∙ (c.from-from.ensures
    ∙ (ap (λ (l : Label _). l.from) (sym c.index-labels-state-2.is)
    ∙ ap (λ (a : Note _). a.from) (sym (noted_at g.K.Cost.value g.K.Cost.costs.zero c.args.labels.now c.args.state
    c.index-labels-state-2.result c.requires.state c.index-labels-state-2.is))))

pub returns-clause-notes : goal.returns-clause-notes
returns-clause-notes g c = same_notes g.K.Cost.value g.K.Cost.costs c.args.labels.now c.args.slot c.hold.new.self
    c.index-labels-slot.result c.hold.ensures.note

pub returns-clause-holds : goal.returns-clause-holds
returns-clause-holds g c = holds_more c.args.labels.now c.args.slot _ c.hold.new.self
    (c.hold.ensures.step ∙ (c.motion-motion.ensures
    ∙ (ap (λ (l : Label _). l.motion) (sym c.index-labels-state.is)
    ∙ ap (λ (a : Note _). a.motion) (sym (noted_at g.K.Cost.value g.K.Cost.costs.zero c.args.labels.now c.args.state
    c.index-labels-state.result c.requires.state c.index-labels-state.is)))))
