-- The class is taken from at least one state, since the first costs what it does.
use Rattle.std.proofs.Common.{◌≡◌, ◌⊎◌, inl, inr, ◌∙◌, ◌<◌, ℕ, arith, subst, sym}
use Rattle.labels.specs.Label.{noted}
use Rattle.leg_search.proofs.Standing.{few_in_line, line_below}
use Rattle.leg_search.proofs.Turns.{turned_more}
use Rattle.leg_search.specs.Reading.{lined, reach_of, task_of}
use Rattle.leg_search.specs.Task.{places}
use Rattle.leg_search.specs.Turn.{remaining}
use Rattle.leg_search.specs.declared.front.Front.{Front}
use Rattle.leg_search.proofs.turn.turn.Goals as goal

not_first : (A B : Type 0) → A ⊎ B → (A → ⊥) → B
not_first A B (inl h) ne = absurd (ne h)
not_first A B (inr h) ne = h

pub cost_at-level-requires-clause-position : goal.cost_at-level-requires-clause-position
cost_at-level-requires-clause-position g c =
    let a = few_in_line (task_of g.P.Panel.answers g.C.Cell.glyph g.K.Cost.costs c.args.task.now) c.requires.asks
    (reach_of g.K.Cost.value g.K.Cost.costs.zero c.args.labels.now c.args.front.now) c.requires.in_turn.settled _
    c.requires.in_turn.stands in
    let m = c.requires.memory in let w = c.requires.within in let e = c.from-first.ensures in omega arith

pub cost_at-level-requires-clause-state : goal.cost_at-level-requires-clause-state
cost_at-level-requires-clause-state g c =
    let a = line_below (task_of g.P.Panel.answers g.C.Cell.glyph g.K.Cost.costs c.args.task.now) c.requires.asks
    (reach_of g.K.Cost.value g.K.Cost.costs.zero c.args.labels.now c.args.front.now) c.requires.in_turn.settled _
    c.requires.in_turn.stands c.from-first.result (let w = c.requires.within in let e = c.from-first.ensures in
    omega arith) in
    let m = c.requires.memory in omega arith

pub returns-then-not-take_at-clause-turned : goal.returns-then-not-take_at-clause-turned
returns-then-not-take_at-clause-turned g c =
    turned_more (task_of g.P.Panel.answers g.C.Cell.glyph g.K.Cost.costs c.args.task.now)
    (reach_of g.K.Cost.value g.K.Cost.costs.zero c.args.labels.now c.args.front.now)
    (reach_of g.K.Cost.value g.K.Cost.costs.zero c.loop-position.labels c.loop-position.front)
    (reach_of g.K.Cost.value g.K.Cost.costs.zero c.take_at.new.labels c.take_at.new.front)
    (g.K.Cost.value c.args.due.cost) c.args.due.class c.loop-position.invariant.1 c.take_at.ensures.turned

-- the class has been taken from the first state
pub returns-then-not-take_at-clause-less : goal.returns-then-not-take_at-clause-less
returns-then-not-take_at-clause-less g c =
    let left = c.take_at.ensures.left c.if-not-take_at.true in
    subst (λ (w : Front). remaining (places (task_of g.P.Panel.answers g.C.Cell.glyph g.K.Cost.costs c.args.task.now)) w
    < remaining (places (task_of g.P.Panel.answers g.C.Cell.glyph g.K.Cost.costs c.args.task.now)) c.args.front.now)
    (sym left.0)
    (not_first (c.loop-position.position ≡ c.from-first.result) _ c.loop-position.invariant.4
    (λ e. left.1 (
    subst (λ (i : ℕ). (noted g.K.Cost.value g.K.Cost.costs.zero c.loop-position.labels
    (lined c.loop-position.labels i)).cost ≡ g.K.Cost.value c.cost_at-level.result) (sym e)
    (c.loop-position.invariant.1.grown.cost c.from-first.result
    (let w = c.requires.within in let z = c.from-first.ensures in omega arith)
    ∙ sym c.cost_at-level.ensures))))

pub loop-position-preserved : goal.loop-position-preserved
loop-position-preserved g c =
    let taken = c.take_at.ensures.taken c.if-not-take_at.false in (
      c.take_at.ensures.same ∙ c.loop-position.invariant.0,
      turned_more (task_of g.P.Panel.answers g.C.Cell.glyph g.K.Cost.costs c.args.task.now)
          (reach_of g.K.Cost.value g.K.Cost.costs.zero c.args.labels.now c.args.front.now)
          (reach_of g.K.Cost.value g.K.Cost.costs.zero c.loop-position.labels c.loop-position.front)
          (reach_of g.K.Cost.value g.K.Cost.costs.zero c.take_at.new.labels c.take_at.new.front)
          (g.K.Cost.value c.args.due.cost) c.args.due.class c.loop-position.invariant.1 c.take_at.ensures.turned,
      taken.0,
      (let a = taken.1 in let b = c.loop-position.invariant.3 in omega arith),
      inr (let a = taken.1 in let b = c.loop-position.invariant.3 in omega arith),
    )
