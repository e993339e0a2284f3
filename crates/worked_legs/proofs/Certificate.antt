-- A bound from below tells what is least: where no motion lands above the bound, no sequence costs less than the bound
-- at its end, and one that costs no more is least. Assumes nothing.
--     Bound g k ok h     h bounds what sequences from k cost: it is nothing at k, the states that are ok include k and
--                        are kept, and a motion raises it by no more than the motion costs
--     Tight g k h w u    w is the leg from k to u, and costs no more than the bound
--     Comes g ok h n d u n from d comes before every motion that lands on u and costs no more than it raises the bound
use Rattle.std.proofs.Common.{◌≡◌, ℕ, true, Some, subst}
use Rattle.cost.specs.Costs.{CostLaws}
use Rattle.legs.specs.Graph.{Graph, Leads, spent}
use Rattle.legs.specs.Leg.{Earlier, Least, Leg}
use Rattle.legs.specs.Sequence.{Sequence, none, then}
use Rattle.legs.proofs.Ends.{before, more, one_end}

pub record Bound {A V : Type 0} (g : Graph A V) (k : A) (ok : A → Type 0) (h : A → V) : Type 0 where
  pub laws : CostLaws g.costs
  pub begins : ok k
  pub zero : g.costs.at_most (h k) g.costs.zero ≡ true
  pub keeps : (n : ℕ) (d u : A) → ok d → g.step n d ≡ Some u → ok u
  pub raises : (n : ℕ) (d u : A) → ok d → g.step n d ≡ Some u
      → g.costs.at_most (h u) (g.costs.plus (h d) (g.weight n)) ≡ true

pub record Tight {A V : Type 0} (g : Graph A V) (k : A) (h : A → V) (w : Sequence) (u : A) : Type 0 where
  pub leads : Leads g k w u
  pub leg : Leg g k w u
  pub reached : g.costs.at_most (spent g w) (h u) ≡ true

abbrev pub Comes : {A V : Type 0} → Graph A V → (A → Type 0) → (A → V) → ℕ → A → A → Type 0
Comes {A} g ok h n d u = (e : A) (m : ℕ) → ok e → g.step m e ≡ Some u
    → g.costs.at_most (g.costs.plus (h e) (g.weight m)) (h u) ≡ true → Earlier n (g.number d) m (g.number e)

module _ {A V : Type 0} (g : Graph A V) (k : A) (ok : A → Type 0) (h : A → V) (b : Bound g k ok h) where
  ends_ok : (w : Sequence) (u : A) → Leads g k w u → ok u
  ends_ok none u l = let e : k ≡ u = cc in subst ok e b.begins
  ends_ok (then w n) u l = let p = before g k w n u l in b.keeps n p.state u (ends_ok w p.state p.leads) p.step

  bounded : (w : Sequence) (u : A) → Leads g k w u → g.costs.at_most (h u) (spent g w) ≡ true
  bounded none u l = let e : k ≡ u = cc in subst (λ a. g.costs.at_most (h a) g.costs.zero ≡ true) e b.zero
  bounded (then w n) u l =
      let p = before g k w n u l in
      b.laws.transitive _ _ _
      (b.raises n p.state u (ends_ok w p.state p.leads) p.step)
      (b.laws.raises_left _ _ (g.weight n) (bounded w p.state p.leads))

  least : (w : Sequence) (u : A) → Leads g k w u → g.costs.at_most (spent g w) (h u) ≡ true → Least g k w u
  least w u l r = record { leads = l; least = λ x i. b.laws.transitive _ _ _ r (bounded x u i) }

  -- nothing is the leg to the start itself, if the bound is zero there
  pub at_start : g.costs.at_most g.costs.zero (h k) ≡ true → Leads g k none k → Tight g k h none k
  at_start r l = record { leads = l; leg = least none k l r; reached = r }

  -- a leg and one motion more
  pub goes_on : (w : Sequence) (d : A) (n : ℕ) (u : A) → Tight g k h w d → g.step n d ≡ Some u
      → g.costs.at_most (g.costs.plus (h d) (g.weight n)) (h u) ≡ true → Comes g ok h n d u
      → Tight g k h (then w n) u
  goes_on w d n u t s r comes =
      let l : Leads g k (then w n) u = more g k w n d u t.leads s in
      let reached = b.laws.transitive (spent g (then w n)) _ (h u) (b.laws.raises_left _ _ (g.weight n) t.reached) r in
      record {
        leads = l;
        leg = (
          d,
          record {
            least = least (then w n) u l reached;
            departs = t.leads;
            first = λ x e m i j.
                let p = before g k x m u j.leads in
                let same = one_end g k x p.state e p.leads i in
                comes e m (ends_ok x e i) (subst (λ a. g.step m a ≡ Some u) same p.step)
                (b.laws.transitive _ _ _ (b.laws.raises_left _ _ (g.weight m) (bounded x e i))
                (b.laws.transitive _ _ _ (j.least (then w n) l) reached));
          },
          t.leg,
        );
        reached = reached;
      }
