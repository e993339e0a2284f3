-- Note is taken of what was known, or of a new state.
use Rattle.std.proofs.Common.{◌≡◌, ◌≢◌, ◌⊎◌, inl, inr, ℕ, Bool, false, Decides, subst, arith}
use Rattle.labels.specs.Label.{noted}
use Rattle.labels.specs.declared.label.Stage.TheVariants.{Unreached}
use Rattle.labels.proofs.Improving.{same_or_not}
use Rattle.leg_search.proofs.Fronts.{noted_known, noted_new}
use Rattle.leg_search.proofs.take.note.Goals as goal

-- what is not new was known, or is the goal
not_new : (X : Type 0) (b : Bool) (n t : ℕ) → Decides b ((n ≢ t) × X) → b ≡ false → (n ≡ t) ⊎ (X → ⊥)
not_new X b n t d e = by_cases (same_or_not n t)
  where
    by_cases : (n ≡ t) ⊎ (n ≢ t) → (n ≡ t) ⊎ (X → ⊥)
    by_cases (inl i) = inl i
    by_cases (inr i) = inr (λ h. absurd (let j = d.1 (i, h) in cc))

pub returns-then-not-is_new-clause-noted : goal.returns-then-not-is_new-clause-noted
returns-then-not-is_new-clause-noted g c =
    noted_known g.K.Cost.value g.K.Cost.costs c.args.goal c.args.front.now (g.K.Cost.value c.args.departure.cost)
    c.args.motion c.args.departure.number c.args.state c.args.labels.now c.from-number.result
    c.index-labels-number.result c.improve.new.self c.from-number.ensures (omega arith) c.index-labels-number.is
    c.improve.ensures.note c.improve.ensures.step
    (subst (λ (n : ℕ). (n ≡ c.args.goal)
    ⊎ ((noted g.K.Cost.value g.K.Cost.costs.zero c.args.labels.now n).stage ≢ Unreached)) c.from-number.ensures
    (not_new _ _ _ _ c.is_new.ensures c.if-not-is_new.true))

pub returns-clause-noted : goal.returns-clause-noted
returns-clause-noted g c =
    let is_new = c.is_new.ensures.0 c.if-not-is_new.false in
    noted_new g.K.Cost.value g.K.Cost.costs c.args.goal c.args.front.now (g.K.Cost.value c.args.departure.cost)
    c.args.motion c.args.departure.number c.args.state c.args.labels.now c.append.new.labels c.append.new.self
    c.from-number.result c.index-labels-number-2.result c.improve-2.new.self c.append.ensures.appends
    c.from-number.ensures (omega arith) c.index-labels-number-2.is c.improve-2.ensures.note c.improve-2.ensures.step
    (subst (λ (n : ℕ). n ≢ c.args.goal) c.from-number.ensures is_new.0)
    (subst (λ (n : ℕ). (noted g.K.Cost.value g.K.Cost.costs.zero c.args.labels.now n).stage ≡ Unreached)
    c.from-number.ensures is_new.1)
    c.requires.not_yet
