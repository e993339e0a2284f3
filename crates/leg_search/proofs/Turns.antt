-- A turn of a search as the code takes it: what holds once the state at a place of the line is settled and counted.
use Rattle.std.proofs.Common.{◌≡◌, ◌≢◌, ◌∙◌, ℕ, ◌+◌, ◌-◌, ◌<◌, List, length, get_or-set_other, get_or-set_same, sym, ap, subst, arith, slice_index_or}
use Rattle.std.proofs.Math.ListN.{set}
use Rattle.std.proofs.lemmas.List.Sums.{sum_by-set}
use Rattle.cost.specs.Costs.{CostLaws}
use Rattle.display.specs.declared.place.Cursor.{Cursor}
use Rattle.labels.specs.Label.{noted}
use Rattle.labels.specs.declared.label.Label.{Label}
use Rattle.legs.specs.Scene.{numbered}
use Rattle.leg_search.proofs.Takes.{grown_more, grown_same}
use Rattle.leg_search.proofs.Turning.{begins}
use Rattle.leg_search.specs.Noting.{Grown}
use Rattle.leg_search.specs.Reach.{Reach}
use Rattle.leg_search.specs.Reading.{lined, reach_of}
use Rattle.leg_search.specs.Take.{InTurn, Takes}
use Rattle.leg_search.specs.Task.{Asks, Fit, Task, price}
use Rattle.leg_search.specs.Turn.{Settles, Turned, remaining}
use Rattle.leg_search.specs.declared.front.Front.{Front}
use Rattle.panel.specs.Answers.{Bounded}

pub turned_more : {V : Type 0} (x : Task V) (r s t : Reach V) (v : V) (d : ℕ) → Turned x r s v d → Turned x s t v d
    → Turned x r t v d
turned_more x r s t v d a b = record {
  in_turn = b.in_turn;
  grown = grown_more r s t a.grown b.grown;
  others = λ c ne. b.others c ne ∙ a.others c ne;
}

-- a place more is counted
pub remaining_less : (m : ℕ) (w : Front) (d i e : ℕ) → d < length w.next → slice_index_or w.next d 0 ≡ i → i < m + 1
    → remaining m (record { count = e; next = set w.next d (i + 1) }) < remaining m w
unfolding remaining
remaining_less m w d i e lt at h =
    let a = sum_by-set (λ (n : ℕ). m + 1 - n) w.next d (i + 1) 0 lt in omega arith

module _ {K V : Type 0} (f : K → V) (x : Task V) (l : CostLaws x.costs) (bd : Bounded x.scene.answers) (q : Asks x)
    (ls ms : List (Label K)) (w : Front) (v : V) (it : InTurn x (reach_of f x.costs.zero ls w) v) (d i : ℕ)
    (lt : d < x.count) (few : d < length w.next) (at : slice_index_or w.next d 0 ≡ i) (within : i < w.count)
    (is : v ≡ x.costs.plus (noted f x.costs.zero ls (lined ls i)).cost (price x d)) (u : Cursor)
    (here : Fit x u × (lined ls i ≡ numbered x.scene.answers.size u)) (line : lined ms ≡ lined ls)
    (se : Settles (noted f x.costs.zero ls) (noted f x.costs.zero ms) (lined ls i)) where
  abbrev counted : Front
  counted = record { count = w.count; next = set w.next d (i + 1) }

  pub counted_others : (c : ℕ) → c ≢ d → slice_index_or (set w.next d (i + 1)) c 0 ≡ slice_index_or w.next c 0
  counted_others c ne = get_or-set_other w.next d c (i + 1) 0 ne

  pub counted_here : slice_index_or (set w.next d (i + 1)) d 0 ≡ i + 1
  counted_here = get_or-set_same w.next d (i + 1) 0 few

  pub takes_at : Takes x (reach_of f x.costs.zero ms counted) (reach_of f x.costs.zero ms counted) d 0 v u
      × Grown (reach_of f x.costs.zero ls w) (reach_of f x.costs.zero ms counted)
  takes_at =
      let b = begins x l bd q (reach_of f x.costs.zero ls w) v it d i lt at within is u here.0 here.1
      (noted f x.costs.zero ms) se (λ c. slice_index_or (set w.next d (i + 1)) c 0) counted_here counted_others in
      subst (λ (L : ℕ → ℕ). Takes x
      (record {
        notes = noted f x.costs.zero ms;
        line = L;
        end = w.count;
        next = λ c. slice_index_or (set w.next d (i + 1)) c 0;
      })
      (record {
        notes = noted f x.costs.zero ms;
        line = L;
        end = w.count;
        next = λ c. slice_index_or (set w.next d (i + 1)) c 0;
      }) d 0 v u
      × Grown (reach_of f x.costs.zero ls w)
      (record {
        notes = noted f x.costs.zero ms;
        line = L;
        end = w.count;
        next = λ c. slice_index_or (set w.next d (i + 1)) c 0;
      })) (sym line)
      (record { settled = b.settled; place = i; taking = b.taking; grown = grown_same _ }, b.grown)

  -- and once they are taken
  pub turned_at : (ns : List (Label K)) (z : Front) → InTurn x (reach_of f x.costs.zero ns z) v
      → Grown (reach_of f x.costs.zero ms counted) (reach_of f x.costs.zero ns z) → z.next ≡ set w.next d (i + 1)
      → Turned x (reach_of f x.costs.zero ls w) (reach_of f x.costs.zero ns z) v d
  turned_at ns z a g e = record {
    in_turn = a;
    grown = grown_more _ _ _ takes_at.1 g;
    others = λ c ne. ap (λ (xs : List ℕ). slice_index_or xs c 0) e ∙ counted_others c ne;
  }

  pub taken_at : (m : ℕ) (z : Front) → i < m + 1 → z.next ≡ set w.next d (i + 1)
      → (slice_index_or z.next d 0 ≡ i + 1) × (remaining m z < remaining m w)
  taken_at m z h e = (
    ap (λ (xs : List ℕ). slice_index_or xs d 0) e ∙ counted_here,
    subst (λ (n : ℕ). n < remaining m w) (sym (same_remaining m z e)) (remaining_less m w d i z.count few at h),
  )
    where
      same_remaining : (m : ℕ) (z : Front) → z.next ≡ set w.next d (i + 1)
          → remaining m z ≡ remaining m (record { count = z.count; next = set w.next d (i + 1) })
      same_remaining m z e = ap (λ (xs : List ℕ). let y : Front = record { count = z.count; next = xs } in remaining m y) e
