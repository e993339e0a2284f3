-- The way back, step by step.
use Rattle.std.proofs.Common.{◌≡◌, ◌∙◌, ◌+◌, ◌-◌, ◌<◌, ◌≤◌, ◌∷◌, ℕ, ap, arith, length, subst, sym}
use Rattle.labels.specs.Label.{noted}
use Rattle.labels.specs.Note.{Note}
use Rattle.leg_search.proofs.Memories.{on_way, trace_ends, trace_steps}
use Rattle.leg_search.specs.Memory.{Tracing, held}
use Rattle.leg_search.proofs.memory.trace.Goals as goal

pub overflow_sub-first : goal.overflow_sub-first
overflow_sub-first g c =
    (on_way (noted g.K.Cost.value g.K.Cost.costs.zero c.args.labels.now) c.args.beginning c.args.goal c.args.places
    _ c.loop-state.first c.loop-state.state _ c.loop-state-test.true c.loop-state.invariant).room

pub step_back-state-requires-clause-state : goal.step_back-state-requires-clause-state
step_back-state-requires-clause-state g c =
    let a = (on_way (noted g.K.Cost.value g.K.Cost.costs.zero c.args.labels.now) c.args.beginning c.args.goal
    c.args.places
    _ c.loop-state.first c.loop-state.state _ c.loop-state-test.true c.loop-state.invariant).label in
    omega arith

pub step_back-state-requires-clause-slot : goal.step_back-state-requires-clause-slot
step_back-state-requires-clause-slot g c =
    let a = (on_way (noted g.K.Cost.value g.K.Cost.costs.zero c.args.labels.now) c.args.beginning c.args.goal
    c.args.places
    _ c.loop-state.first c.loop-state.state _ c.loop-state-test.true c.loop-state.invariant).room in
    let b = c.loop-state.invariant.inside in
    omega arith

pub loop-state-smaller : goal.loop-state-smaller
loop-state-smaller g c =
    let a = (on_way (noted g.K.Cost.value g.K.Cost.costs.zero c.args.labels.now) c.args.beginning c.args.goal
    c.args.places
    _ c.loop-state.first c.loop-state.state _ c.loop-state-test.true c.loop-state.invariant).room in
    omega arith

pub loop-state-preserved : goal.loop-state-preserved
loop-state-preserved g c =
    let a = (on_way (noted g.K.Cost.value g.K.Cost.costs.zero c.args.labels.now) c.args.beginning c.args.goal
    c.args.places
    _ c.loop-state.first c.loop-state.state _ c.loop-state-test.true c.loop-state.invariant).room in
    let i = c.loop-state.invariant.inside in
    let f : c.loop-state.first - 1 + 1 ≡ c.loop-state.first = omega arith in
    let q : c.loop-state.first - 1 < c.args.places = omega arith in
    let r : c.args.places ≤ length c.loop-state.labels = omega arith in
    subst (λ (x : ℕ). Tracing (noted g.K.Cost.value g.K.Cost.costs.zero c.args.labels.now)
    (noted g.K.Cost.value g.K.Cost.costs.zero c.step_back-state.new.labels) c.args.beginning c.args.goal
    c.args.places (c.loop-state.first - 1) x (held c.step_back-state.new.labels (c.loop-state.first - 1) c.args.places))
    (sym (c.step_back-state.ensures.from
    ∙ ap (λ (M : ℕ → Note _). (M c.loop-state.state).from) c.loop-state.invariant.notes))
    (trace_steps (noted g.K.Cost.value g.K.Cost.costs.zero c.args.labels.now) c.args.beginning c.args.goal c.args.places
    _ _ c.loop-state.first c.loop-state.state _ _ c.loop-state-test.true c.loop-state.invariant
    c.step_back-state.ensures.notes
    (c.step_back-state.ensures.holds.more c.args.places q r
    ∙ (ap (λ (x : ℕ). (noted g.K.Cost.value g.K.Cost.costs.zero c.loop-state.labels c.loop-state.state).motion
    ∷ held c.loop-state.labels x c.args.places) f
    ∙ ap (λ (M : ℕ → Note _). (M c.loop-state.state).motion
    ∷ held c.loop-state.labels c.loop-state.first c.args.places) c.loop-state.invariant.notes)))

pub returns-clause-traces : goal.returns-clause-traces
returns-clause-traces g c =
    trace_ends (noted g.K.Cost.value g.K.Cost.costs.zero c.args.labels.now) c.args.beginning c.args.goal c.args.places
    _ c.loop-state.first c.loop-state.state _ c.loop-state-test.false c.loop-state.invariant
