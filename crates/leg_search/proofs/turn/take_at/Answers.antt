-- The state at the place of the line has a label and a cursor; it is settled and counted, and then its motions are taken.
use Rattle.std.proofs.Common.{◌∙◌, ◌<◌, ℕ, ap, arith, refl, subst, sym}
use Rattle.labels.specs.Label.{noted}
use Rattle.leg_search.proofs.Standing.{few_in_line, line_below, most_places, standing_as}
use Rattle.leg_search.proofs.Turns.{taken_at, takes_at, turned_at}
use Rattle.leg_search.specs.Reading.{reach_of, task_of}
use Rattle.leg_search.specs.Task.{places, price}
use Rattle.leg_search.specs.Turn.{Rests, Settles}
use Rattle.leg_search.proofs.turn.take_at.Goals as goal

pub state_at-number-requires : goal.state_at-number-requires
state_at-number-requires g c =
    let a = few_in_line (task_of g.P.Panel.answers g.C.Cell.glyph g.K.Cost.costs c.args.task.now) c.requires.asks
    (reach_of g.K.Cost.value g.K.Cost.costs.zero c.args.labels.now c.args.front.now) c.requires.in_turn.settled _
    c.requires.in_turn.stands in
    let m = c.requires.memory in omega arith

pub cost_at-requires-clause-position : goal.cost_at-requires-clause-position
cost_at-requires-clause-position g c =
    let a = few_in_line (task_of g.P.Panel.answers g.C.Cell.glyph g.K.Cost.costs c.args.task.now) c.requires.asks
    (reach_of g.K.Cost.value g.K.Cost.costs.zero c.args.labels.now c.args.front.now) c.requires.in_turn.settled _
    c.requires.in_turn.stands in
    let m = c.requires.memory in omega arith

pub cost_at-requires-clause-state : goal.cost_at-requires-clause-state
cost_at-requires-clause-state g c =
    let a = line_below (task_of g.P.Panel.answers g.C.Cell.glyph g.K.Cost.costs c.args.task.now) c.requires.asks
    (reach_of g.K.Cost.value g.K.Cost.costs.zero c.args.labels.now c.args.front.now) c.requires.in_turn.settled _
    c.requires.in_turn.stands c.args.position c.requires.within in
    let m = c.requires.memory in omega arith

pub returns-then-not-is_same-clause-left : goal.returns-then-not-is_same-clause-left
returns-then-not-is_same-clause-left g c = λ _. (
  refl,
  λ e. absurd (
      let a = c.is_same.ensures.1 (c.cost_at.ensures ∙ e) in let b = c.if-not-is_same.true in cc),
)

pub settle-requires : goal.settle-requires
settle-requires g c =
    let a = line_below (task_of g.P.Panel.answers g.C.Cell.glyph g.K.Cost.costs c.args.task.now) c.requires.asks
    (reach_of g.K.Cost.value g.K.Cost.costs.zero c.args.labels.now c.args.front.now) c.requires.in_turn.settled _
    c.requires.in_turn.stands c.args.position c.requires.within in
    let m = c.requires.memory in
    let i = c.from-state.ensures ∙ c.state_at-number.ensures in omega arith

pub overflow_cast-front : goal.overflow_cast-front
overflow_cast-front g c =
    let a = few_in_line (task_of g.P.Panel.answers g.C.Cell.glyph g.K.Cost.costs c.args.task.now) c.requires.asks
    (reach_of g.K.Cost.value g.K.Cost.costs.zero c.args.labels.now c.args.front.now) c.requires.in_turn.settled _
    c.requires.in_turn.stands in
    let b = most_places (g.P.Panel.answers c.args.task.now.scene.panel.now).size in omega arith

pub overflow_add-front : goal.overflow_add-front
overflow_add-front g c =
    let a = few_in_line (task_of g.P.Panel.answers g.C.Cell.glyph g.K.Cost.costs c.args.task.now) c.requires.asks
    (reach_of g.K.Cost.value g.K.Cost.costs.zero c.args.labels.now c.args.front.now) c.requires.in_turn.settled _
    c.requires.in_turn.stands in
    let b = most_places (g.P.Panel.answers c.args.task.now.scene.panel.now).size in omega arith

pub take-requires-clause-number : goal.take-requires-clause-number
take-requires-clause-number g c = c.state_at-number.ensures ∙ (standing_as (task_of g.P.Panel.answers g.C.Cell.glyph g.K.Cost.costs c.args.task.now) c.requires.asks
    (reach_of g.K.Cost.value g.K.Cost.costs.zero c.args.labels.now c.args.front.now) c.requires.in_turn.settled _
    c.requires.in_turn.stands c.args.position c.requires.within c.cursor_at.result c.cursor_at.ensures.first
    (λ ne h. subst (λ (n : ℕ). Rests (g.P.Panel.answers c.args.task.now.scene.panel.now).size n c.cursor_at.result)
    (c.from-state.ensures ∙ c.state_at-number.ensures) (c.cursor_at.ensures.later ne
    (subst (λ (n : ℕ). n < places (task_of g.P.Panel.answers g.C.Cell.glyph g.K.Cost.costs c.args.task.now))
    (sym (c.from-state.ensures ∙ c.state_at-number.ensures)) h)))).1

pub take-requires-clause-takes : goal.take-requires-clause-takes
take-requires-clause-takes g c =
    (takes_at g.K.Cost.value (task_of g.P.Panel.answers g.C.Cell.glyph g.K.Cost.costs c.args.task.now)
    g.met.K.Cost.laws (g.met.P.Panel.lawful c.args.task.now.scene.panel.now).bounded c.requires.asks
    c.args.labels.now c.settle.new.labels c.args.front.now (g.K.Cost.value c.args.due.cost) c.requires.in_turn
    c.args.due.class c.args.position c.requires.class (let a = c.requires.asks.classes.few in let b = c.requires.class in
    omega arith) c.requires.at c.requires.within
    (c.requires.level ∙ ap (λ (v : g.K.Cost.Value). g.K.Cost.costs.plus v
    (price (task_of g.P.Panel.answers g.C.Cell.glyph g.K.Cost.costs c.args.task.now) c.args.due.class))
    (sym (c.is_same.ensures.0 c.if-not-is_same.false) ∙ c.cost_at.ensures))
    c.cursor_at.result
    (standing_as (task_of g.P.Panel.answers g.C.Cell.glyph g.K.Cost.costs c.args.task.now) c.requires.asks
    (reach_of g.K.Cost.value g.K.Cost.costs.zero c.args.labels.now c.args.front.now) c.requires.in_turn.settled _
    c.requires.in_turn.stands c.args.position c.requires.within c.cursor_at.result c.cursor_at.ensures.first
    (λ ne h. subst (λ (n : ℕ). Rests (g.P.Panel.answers c.args.task.now.scene.panel.now).size n c.cursor_at.result)
    (c.from-state.ensures ∙ c.state_at-number.ensures) (c.cursor_at.ensures.later ne
    (subst (λ (n : ℕ). n < places (task_of g.P.Panel.answers g.C.Cell.glyph g.K.Cost.costs c.args.task.now))
    (sym (c.from-state.ensures ∙ c.state_at-number.ensures)) h))))
    c.settle.ensures.line
    (subst (λ (n : ℕ). Settles (noted g.K.Cost.value g.K.Cost.costs.zero c.args.labels.now)
    (noted g.K.Cost.value g.K.Cost.costs.zero c.settle.new.labels) n)
    (c.from-state.ensures ∙ c.state_at-number.ensures) c.settle.ensures.settles)).0

pub returns-clause-turned : goal.returns-clause-turned
returns-clause-turned g c =
    turned_at g.K.Cost.value (task_of g.P.Panel.answers g.C.Cell.glyph g.K.Cost.costs c.args.task.now)
    g.met.K.Cost.laws (g.met.P.Panel.lawful c.args.task.now.scene.panel.now).bounded c.requires.asks
    c.args.labels.now c.settle.new.labels c.args.front.now (g.K.Cost.value c.args.due.cost) c.requires.in_turn
    c.args.due.class c.args.position c.requires.class (let a = c.requires.asks.classes.few in let b = c.requires.class in
    omega arith) c.requires.at c.requires.within
    (c.requires.level ∙ ap (λ (v : g.K.Cost.Value). g.K.Cost.costs.plus v
    (price (task_of g.P.Panel.answers g.C.Cell.glyph g.K.Cost.costs c.args.task.now) c.args.due.class))
    (sym (c.is_same.ensures.0 c.if-not-is_same.false) ∙ c.cost_at.ensures))
    c.cursor_at.result
    (standing_as (task_of g.P.Panel.answers g.C.Cell.glyph g.K.Cost.costs c.args.task.now) c.requires.asks
    (reach_of g.K.Cost.value g.K.Cost.costs.zero c.args.labels.now c.args.front.now) c.requires.in_turn.settled _
    c.requires.in_turn.stands c.args.position c.requires.within c.cursor_at.result c.cursor_at.ensures.first
    (λ ne h. subst (λ (n : ℕ). Rests (g.P.Panel.answers c.args.task.now.scene.panel.now).size n c.cursor_at.result)
    (c.from-state.ensures ∙ c.state_at-number.ensures) (c.cursor_at.ensures.later ne
    (subst (λ (n : ℕ). n < places (task_of g.P.Panel.answers g.C.Cell.glyph g.K.Cost.costs c.args.task.now))
    (sym (c.from-state.ensures ∙ c.state_at-number.ensures)) h))))
    c.settle.ensures.line
    (subst (λ (n : ℕ). Settles (noted g.K.Cost.value g.K.Cost.costs.zero c.args.labels.now)
    (noted g.K.Cost.value g.K.Cost.costs.zero c.settle.new.labels) n)
    (c.from-state.ensures ∙ c.state_at-number.ensures) c.settle.ensures.settles)
    c.take.new.labels c.take.new.front c.take.ensures.in_turn c.take.ensures.grown c.take.ensures.next

pub returns-clause-taken : goal.returns-clause-taken
returns-clause-taken g c = λ _.
    taken_at g.K.Cost.value (task_of g.P.Panel.answers g.C.Cell.glyph g.K.Cost.costs c.args.task.now)
    g.met.K.Cost.laws (g.met.P.Panel.lawful c.args.task.now.scene.panel.now).bounded c.requires.asks
    c.args.labels.now c.settle.new.labels c.args.front.now (g.K.Cost.value c.args.due.cost) c.requires.in_turn
    c.args.due.class c.args.position c.requires.class (let a = c.requires.asks.classes.few in let b = c.requires.class in
    omega arith) c.requires.at c.requires.within
    (c.requires.level ∙ ap (λ (v : g.K.Cost.Value). g.K.Cost.costs.plus v
    (price (task_of g.P.Panel.answers g.C.Cell.glyph g.K.Cost.costs c.args.task.now) c.args.due.class))
    (sym (c.is_same.ensures.0 c.if-not-is_same.false) ∙ c.cost_at.ensures))
    c.cursor_at.result
    (standing_as (task_of g.P.Panel.answers g.C.Cell.glyph g.K.Cost.costs c.args.task.now) c.requires.asks
    (reach_of g.K.Cost.value g.K.Cost.costs.zero c.args.labels.now c.args.front.now) c.requires.in_turn.settled _
    c.requires.in_turn.stands c.args.position c.requires.within c.cursor_at.result c.cursor_at.ensures.first
    (λ ne h. subst (λ (n : ℕ). Rests (g.P.Panel.answers c.args.task.now.scene.panel.now).size n c.cursor_at.result)
    (c.from-state.ensures ∙ c.state_at-number.ensures) (c.cursor_at.ensures.later ne
    (subst (λ (n : ℕ). n < places (task_of g.P.Panel.answers g.C.Cell.glyph g.K.Cost.costs c.args.task.now))
    (sym (c.from-state.ensures ∙ c.state_at-number.ensures)) h))))
    c.settle.ensures.line
    (subst (λ (n : ℕ). Settles (noted g.K.Cost.value g.K.Cost.costs.zero c.args.labels.now)
    (noted g.K.Cost.value g.K.Cost.costs.zero c.settle.new.labels) n)
    (c.from-state.ensures ∙ c.state_at-number.ensures) c.settle.ensures.settles)
    (places (task_of g.P.Panel.answers g.C.Cell.glyph g.K.Cost.costs c.args.task.now)) c.take.new.front
    (let a = few_in_line (task_of g.P.Panel.answers g.C.Cell.glyph g.K.Cost.costs c.args.task.now) c.requires.asks
    (reach_of g.K.Cost.value g.K.Cost.costs.zero c.args.labels.now c.args.front.now) c.requires.in_turn.settled _
    c.requires.in_turn.stands in omega arith)
    c.take.ensures.next
