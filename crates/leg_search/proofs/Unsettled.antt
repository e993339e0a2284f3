-- How many labels are not of settled states.
use Rattle.std.proofs.Common.{◌≡◌, ◌≢◌, ◌⊎◌, inl, inr, ◌∙◌, ℕ, ◌+◌, ◌<◌, ◌≤◌, Bool, true, false, cond, Some, None, Option, List, length, get_or, refl, sym, ap, subst, arith}
use Rattle.std.proofs.Math.ListN.{set}
use Rattle.std.proofs.lemmas.List.Sums.{sum_by-set}
use Rattle.cost.specs.Costs.{CostLaws, Costs}
use Rattle.labels.specs.Note.{Note, beats, improved, improved_at, reached}
use Rattle.labels.specs.declared.label.Label.{Label}
use Rattle.labels.specs.declared.label.Stage.{Stage}
use Rattle.labels.specs.declared.label.Stage.TheVariants.{Unreached, Reached, Settled}
use Rattle.labels.proofs.Improving.{same_or_not}
use Rattle.legs.proofs.Order.{same_at_most}
use Rattle.leg_search.specs.AtOnce.{Best, Least, unsettled, waiting}

-- how many are not settled, once a label has been replaced
module _ {K : Type 0} (ls : List (Label K)) (i : ℕ) (x y : Label K) (h : i < length ls) (e : x ≡ get_or ls i x) where
  pub unsettled_same : waiting y.stage ≡ waiting x.stage → unsettled (set ls i y) ≡ unsettled ls
  unfolding unsettled
  unsettled_same w =
      let a = sum_by-set (λ (l : Label K). waiting l.stage) ls i y x h in
      let b : waiting (get_or ls i x).stage ≡ waiting x.stage = ap (λ (l : Label K). waiting l.stage) (sym e) in
      omega arith

  pub unsettled_less : x.stage ≡ Reached → y.stage ≡ Settled → unsettled (set ls i y) < unsettled ls
  unfolding unsettled
  unsettled_less r w =
      let a = sum_by-set (λ (l : Label K). waiting l.stage) ls i y x h in
      let b : waiting (get_or ls i x).stage ≡ waiting x.stage = ap (λ (l : Label K). waiting l.stage) (sym e) in
      let p : waiting x.stage ≡ 1 = ap waiting r in
      let q : waiting y.stage ≡ 0 = ap waiting w in
      omega arith

-- improving a note settles nothing
pub improved_waiting : {V : Type 0} (c : Costs V) (a : Note V) (v : V) (n r : ℕ)
    → waiting (improved c a v n r).stage ≡ waiting a.stage
improved_waiting c a v n r = by_stage a.stage refl
  where
    at_reached : a.stage ≡ Reached → (b : Bool) → beats c v n r a ≡ b
        → waiting (improved c a v n r).stage ≡ waiting a.stage
    at_reached e true h = ap (λ x. waiting (improved_at x c a v n r).stage) e
        ∙ (ap (λ x. waiting (cond x (reached v n r) a).stage) h ∙ sym (ap waiting e))
    at_reached e false h = ap (λ x. waiting (improved_at x c a v n r).stage) e
        ∙ (ap (λ x. waiting (cond x (reached v n r) a).stage) h)

    by_stage : (s : Stage) → a.stage ≡ s → waiting (improved c a v n r).stage ≡ waiting a.stage
    by_stage Unreached e = ap (λ x. waiting (improved_at x c a v n r).stage) e ∙ sym (ap waiting e)
    by_stage Reached e = at_reached e (beats c v n r a) refl
    by_stage Settled e = ap (λ x. waiting (improved_at x c a v n r).stage) e
