-- The cheapest is settled, and then its motions are due.
use Rattle.std.proofs.Common.{◌≡◌, ◌∙◌, ℕ, ap, subst, sym}
use Rattle.display.specs.Place.{number}
use Rattle.display.specs.declared.place.Cursor.{Cursor}
use Rattle.display.specs.declared.size.Size.{Size}
use Rattle.labels.specs.Label.{noted}
use Rattle.leg_search.proofs.AtOnce.{turned_at_once}
use Rattle.leg_search.specs.AtOnce.{AtOnce, Rest}
use Rattle.leg_search.specs.Reading.{task_of}
use Rattle.leg_search.proofs.at_once.turn_at_once.Goals as goal

pub note_all-requires-clause-at_once : goal.note_all-requires-clause-at_once
note_all-requires-clause-at_once g c = subst (λ (u : Cursor). AtOnce (task_of g.P.Panel.answers g.C.Cell.glyph g.K.Cost.costs c.args.task.now)
    (noted g.K.Cost.value g.K.Cost.costs.zero c.settle.new.labels) u c.number-state.result
    (g.K.Cost.value c.cost_of.result)
    (Rest (task_of g.P.Panel.answers g.C.Cell.glyph g.K.Cost.costs c.args.task.now) c.number-state.result 0))
    (sym c.from.ensures)
    (turned_at_once (task_of g.P.Panel.answers g.C.Cell.glyph g.K.Cost.costs c.args.task.now) g.met.K.Cost.laws
    (g.met.P.Panel.lawful c.args.task.now.scene.panel.now).bounded c.requires.asks
    (noted g.K.Cost.value g.K.Cost.costs.zero c.args.labels.now) c.requires.idle c.args.place c.requires.on
    c.requires.least c.requires.before_goal (noted g.K.Cost.value g.K.Cost.costs.zero c.settle.new.labels)
    c.number-state.result (c.number-state.ensures ∙ ap (λ (z : Size). number z c.args.place) c.size.ensures)
    (g.K.Cost.value c.cost_of.result) c.cost_of.ensures c.settle.ensures.settles)
