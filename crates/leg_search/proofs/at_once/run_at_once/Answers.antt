-- All motions of the start are taken, then those of the cheapest state, until it is the goal, or no state is reached.
use Rattle.std.proofs.Common.{◌≡◌, ◌∙◌, ◌*◌, ℕ, None, Option, true, ap, subst, sym}
use Rattle.display.specs.declared.size.Size.{Size}
use Rattle.labels.specs.Label.{noted}
use Rattle.leg_search.proofs.AtOnce.{begun_at_once, ends_at_goal, ends_empty}
use Rattle.leg_search.specs.AtOnce.{AtOnce, Best, Least, Rest}
use Rattle.leg_search.specs.Reading.{task_of}
use Rattle.leg_search.proofs.at_once.run_at_once.Goals as goal

pub note_all-requires-clause-at_once : goal.note_all-requires-clause-at_once
note_all-requires-clause-at_once g c = subst (λ (v : g.K.Cost.Value). AtOnce (task_of g.P.Panel.answers g.C.Cell.glyph g.K.Cost.costs c.args.task.now)
    (noted g.K.Cost.value g.K.Cost.costs.zero c.args.labels.now) c.args.task.now.start c.args.beginning v
    (Rest (task_of g.P.Panel.answers g.C.Cell.glyph g.K.Cost.costs c.args.task.now) c.args.beginning 0))
    (sym c.zero.ensures)
    (begun_at_once (task_of g.P.Panel.answers g.C.Cell.glyph g.K.Cost.costs c.args.task.now) g.met.K.Cost.laws
    (g.met.P.Panel.lawful c.args.task.now.scene.panel.now).bounded c.requires.asks
    (noted g.K.Cost.value g.K.Cost.costs.zero c.args.labels.now) c.args.beginning c.requires.beginning
    c.requires.apart c.requires.prepared)

pub returns-then-is_at_goal-clause-ends : goal.returns-then-is_at_goal-clause-ends
returns-then-is_at_goal-clause-ends g c =
    let a = c.is_at_goal.ensures.0 c.if-is_at_goal.true in
    ends_at_goal (task_of g.P.Panel.answers g.C.Cell.glyph g.K.Cost.costs c.args.task.now) g.met.K.Cost.laws
    (g.met.P.Panel.lawful c.args.task.now.scene.panel.now).bounded c.requires.asks
    (noted g.K.Cost.value g.K.Cost.costs.zero c.loop-state.labels) c.loop-state.invariant.1 c.in-Some.state
    (subst (λ (n : ℕ). Least g.K.Cost.costs (noted g.K.Cost.value g.K.Cost.costs.zero c.loop-state.labels) n
    c.in-Some.state) (c.places.ensures ∙ ap (λ (z : Size). z.rows * z.columns) c.size-size.ensures) c.in-Some.ensures)
    a.0 (subst (λ (n : ℕ). g.K.Cost.costs.at_most (noted g.K.Cost.value g.K.Cost.costs.zero c.loop-state.labels
    c.args.task.now.goal).cost (noted g.K.Cost.value g.K.Cost.costs.zero c.loop-state.labels n).cost ≡ true)
    c.from.ensures a.1)

pub returns-clause-ends : goal.returns-clause-ends
returns-clause-ends g c = ends_empty (task_of g.P.Panel.answers g.C.Cell.glyph g.K.Cost.costs c.args.task.now) g.met.K.Cost.laws
    (g.met.P.Panel.lawful c.args.task.now.scene.panel.now).bounded c.requires.asks
    (noted g.K.Cost.value g.K.Cost.costs.zero c.loop-state.labels) c.loop-state.invariant.1
    (subst (λ (n : ℕ). Best g.K.Cost.costs (noted g.K.Cost.value g.K.Cost.costs.zero c.loop-state.labels) n None)
    (c.places.ensures ∙ ap (λ (z : Size). z.rows * z.columns) c.size-size.ensures)
    (subst (λ (o : Option ℕ). Best g.K.Cost.costs (noted g.K.Cost.value g.K.Cost.costs.zero c.loop-state.labels) c.places.result o)
    c.in_default.is c.cheapest.ensures))
