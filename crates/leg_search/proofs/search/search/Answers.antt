-- The search begins, goes on turn by turn, and tells what it has found.
use Rattle.std.proofs.Common.{◌∙◌, ◌*◌, ◌≤◌, ap, arith, length, sym}
use Rattle.display.specs.declared.size.Size.{Size}
use Rattle.labels.specs.Label.{noted}
use Rattle.leg_search.proofs.Memories.{held_none}
use Rattle.leg_search.proofs.Found.{found_none, found_told, found_trailed}
use Rattle.leg_search.proofs.Searches.{stays, tells}
use Rattle.leg_search.proofs.Standing.{most_places, number_in}
use Rattle.leg_search.specs.Reading.{task_of}
use Rattle.legs.specs.Scene.{numbered}
use Rattle.legs.specs.Seen.{scened}
use Rattle.legs.specs.Sequence.{none}
use Rattle.leg_search.proofs.search.search.Goals as goal

pub returns-then-beginning-task-clause-answered : goal.returns-then-beginning-task-clause-answered
returns-then-beginning-task-clause-answered g c =
    let fits : c.places-places.result ≤ length c.args.labels.now = let e = (c.places-places.ensures ∙ ap (λ (z : Size). z.rows * z.columns) c.size-size.ensures) in
    let m = c.requires.memory in omega arith in
    tells g.K.Cost.costs g.met.K.Cost.laws (scened g.P.Panel.answers g.C.Cell.glyph c.args.task.now.scene)
    (g.met.P.Panel.lawful c.args.task.now.scene.panel.now).bounded c.args.task.now.start c.requires.asks.start
    g.K.Cost.value c.args.labels.now _ c.args.goal none
    (stays g.K.Cost.costs g.met.K.Cost.laws (scened g.P.Panel.answers g.C.Cell.glyph c.args.task.now.scene)
    (g.met.P.Panel.lawful c.args.task.now.scene.panel.now).bounded c.args.task.now.start c.requires.asks.start
    (noted g.K.Cost.value g.K.Cost.costs.zero c.args.labels.now) c.args.goal c.requires.goal
    (sym (c.state_of-beginning.ensures ∙ ap (λ (z : Size). numbered z c.args.task.now.start) c.size-size.ensures)
    ∙ (c.if-beginning-task.true ∙ c.requires.number)))
    (omega arith) fits (held_none c.args.labels.now c.places-places.result fits) c.zero.ensures

pub explore-requires-clause-within : goal.explore-requires-clause-within
explore-requires-clause-within g c =
    let e = (c.state_of-beginning.ensures ∙ ap (λ (z : Size). numbered z c.args.task.now.start) c.size-size.ensures) in
    let a = number_in (g.P.Panel.answers c.args.task.now.scene.panel.now).size c.args.task.now.start
    c.requires.asks.start in
    let m = c.requires.memory in omega arith

pub overflow_cast-beginning : goal.overflow_cast-beginning
overflow_cast-beginning g c =
    let e = (c.state_of-beginning.ensures ∙ ap (λ (z : Size). numbered z c.args.task.now.start) c.size-size.ensures) in
    let a = number_in (g.P.Panel.answers c.args.task.now.scene.panel.now).size c.args.task.now.start
    c.requires.asks.start in
    let b = most_places (g.P.Panel.answers c.args.task.now.scene.panel.now).size in omega arith

pub returns-then-not-is_reached-clause-answered : goal.returns-then-not-is_reached-clause-answered
returns-then-not-is_reached-clause-answered g c = found_none (task_of g.P.Panel.answers g.C.Cell.glyph g.K.Cost.costs c.args.task.now) g.met.K.Cost.laws
    (g.met.P.Panel.lawful c.args.task.now.scene.panel.now).bounded c.requires.asks
    (noted g.K.Cost.value g.K.Cost.costs.zero c.explore.new.labels) c.args.goal c.requires.goal c.requires.number
    c.explore.ensures.ends
    (λ h. let a = c.is_reached.ensures.1 h in let b = c.if-not-is_reached.true in absurd cc)

pub trace-requires-clause-trailed : goal.trace-requires-clause-trailed
trace-requires-clause-trailed g c = found_trailed (task_of g.P.Panel.answers g.C.Cell.glyph g.K.Cost.costs c.args.task.now) g.met.K.Cost.laws
    (g.met.P.Panel.lawful c.args.task.now.scene.panel.now).bounded c.requires.asks
    (noted g.K.Cost.value g.K.Cost.costs.zero c.explore.new.labels) c.args.goal c.requires.goal c.requires.number
    (c.is_reached.ensures.0 c.if-not-is_reached.false) _ _
    (c.state_of-beginning.ensures ∙ ap (λ (z : Size). numbered z c.args.task.now.start) c.size-size.ensures)
    (c.places-places.ensures ∙ ap (λ (z : Size). z.rows * z.columns) c.size-size.ensures)
    c.explore.ensures.ends

pub returns-clause-answered : goal.returns-clause-answered
returns-clause-answered g c = found_told (task_of g.P.Panel.answers g.C.Cell.glyph g.K.Cost.costs c.args.task.now) g.met.K.Cost.laws
    (g.met.P.Panel.lawful c.args.task.now.scene.panel.now).bounded c.requires.asks
    (noted g.K.Cost.value g.K.Cost.costs.zero c.explore.new.labels) c.args.goal c.requires.goal c.requires.number
    (c.is_reached.ensures.0 c.if-not-is_reached.false) _ _
    (c.state_of-beginning.ensures ∙ ap (λ (z : Size). numbered z c.args.task.now.start) c.size-size.ensures)
    (c.places-places.ensures ∙ ap (λ (z : Size). z.rows * z.columns) c.size-size.ensures)
    g.K.Cost.value c.trace.new.labels _ c.explore.ensures.ends c.trace.ensures.first
    (let e = (c.places-places.ensures ∙ ap (λ (z : Size). z.rows * z.columns) c.size-size.ensures) in
    let m = c.requires.memory in omega arith) c.trace.ensures.traces c.cost_of.ensures
