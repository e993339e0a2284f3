-- Where of each class the next that is due comes to more than some cost, all that is due and all that the reached states
-- lead to does: so the first state of the line that is not settled can be settled, and the goal has its leg in the end.
use Rattle.std.proofs.Common.{◌≡◌, ◌≢◌, ◌⊎◌, inl, inr, ◌∙◌, ℕ, ◌<◌, ◌≤◌, Bool, true, false, Some, refl, sym, ap, subst, arith}
use Rattle.legs.specs.Graph.{Graph}
use Rattle.legs.specs.Sane.{Sane}
use Rattle.labels.specs.Frontier.{Dearer}
use Rattle.labels.specs.Line.{Ahead, Classes, Due, Early, Line}
use Rattle.labels.specs.Note.{Note}
use Rattle.labels.specs.declared.label.Stage.TheVariants.{Reached}
use Rattle.labels.proofs.Improving.{same_or_not}

module _ {A V : Type 0} (g : Graph A V) (k : A) (ok : A → Type 0) (m : ℕ) (s : Sane g k ok m)
    (K : ℕ) (Of : ℕ → ℕ → Type 0) (P : ℕ → V) (cs : Classes g ok K Of P)
    (N : ℕ → Note V) (L : ℕ → ℕ) (e b t : ℕ) (li : Line g.costs N L e b t)
    (next : ℕ → ℕ) (ea : Early K next b) where
  -- what is due of a class at a later place comes to no less
  later_place : (c i : ℕ) (v : V) → c < K → next c ≤ i → i < e → Ahead g.costs P K N L e next v
      → g.costs.at_most (g.costs.plus (N (L i)).cost (P c)) v ≡ false
  later_place c i v lt le be a = by_cases (g.costs.at_most (g.costs.plus (N (L i)).cost (P c)) v) refl
    where
      by_cases : (z : Bool) → g.costs.at_most (g.costs.plus (N (L i)).cost (P c)) v ≡ z
          → g.costs.at_most (g.costs.plus (N (L i)).cost (P c)) v ≡ false
      by_cases false h = h
      by_cases true h = absurd (
          let p = s.laws.raises_left _ _ (P c) (li.sorted (next c) i le be) in
          let q = s.laws.transitive _ _ _ p h in
          let r = a.more c lt (omega arith) in cc)

  at_place : (d u : A) (p c i : ℕ) (v : V) → ok d → g.step p d ≡ Some u → Of c p → L i ≡ g.number d → next c ≤ i → i < e
      → Ahead g.costs P K N L e next v
      → g.costs.at_most (g.costs.plus (N (g.number d)).cost (g.weight p)) v ≡ false
  at_place d u p c i v od st is at le be a =
      let pr = cs.priced c p d u od st is in
      subst (λ (w : V). g.costs.at_most (g.costs.plus (N (g.number d)).cost w) v ≡ false) (sym pr.1)
      (subst (λ (j : ℕ). g.costs.at_most (g.costs.plus (N j).cost (P c)) v ≡ false) at
      (later_place c i v pr.0 le be a))

  pub all_dearer : (v : V) → Ahead g.costs P K N L e next v
      → ((N t).stage ≡ Reached → g.costs.at_most v (N t).cost ≡ true)
      → Dearer g k ok N (Due L e next Of) v
  all_dearer v a goal = record {
    due = λ d u p od st h x. at_place d u p x.class x.place v od h x.is_of x.is x.from x.within a;
    waiting = λ d u p od r h. waiting_at d u p od r h (same_or_not (g.number d) t);
  }
    where
      from_goal : (d u : A) (p : ℕ) → ok d → g.step p d ≡ Some u → g.costs.at_most v (N (g.number d)).cost ≡ true
          → (z : Bool) → g.costs.at_most (g.costs.plus (N (g.number d)).cost (g.weight p)) v ≡ z
          → g.costs.at_most (g.costs.plus (N (g.number d)).cost (g.weight p)) v ≡ false
      from_goal d u p od h i false f = f
      from_goal d u p od h i true f = absurd (
          let x = s.laws.transitive _ _ _ f i in
          let y = s.adds p d u od h (N (g.number d)).cost in cc)

      waiting_at : (d u : A) (p : ℕ) → ok d → (N (g.number d)).stage ≡ Reached → g.step p d ≡ Some u
          → (g.number d ≡ t) ⊎ (g.number d ≢ t)
          → g.costs.at_most (g.costs.plus (N (g.number d)).cost (g.weight p)) v ≡ false
      waiting_at d u p od r h (inl i) = from_goal d u p od h
          (subst (λ (j : ℕ). g.costs.at_most v (N j).cost ≡ true) (sym i)
          (goal (ap (λ (j : ℕ). (N j).stage) (sym i) ∙ r))) _ refl
      waiting_at d u p od r h (inr i) =
          let c = cs.classed d u p od h in
          let st = li.of_reached (g.number d) r i in
          let y = ea.early c.class c.below in
          let z = st.from in
          at_place d u p c.class st.place v od h c.is_of st.is (omega arith) st.below a

  -- so the state at the first place from which nothing is settled can be settled
  module _ (b_in : b < e) (u : A) (ou : ok u) (here : L b ≡ g.number u) (c : ℕ) (lt : c < K) (at : next c ≡ b)
      (least : (d : ℕ) → d < K → next d < e
      → g.costs.at_most (g.costs.plus (N (L b)).cost (P c)) (g.costs.plus (N (L (next d))).cost (P d)) ≡ true)
      (adds : g.costs.at_most (g.costs.plus (N (L b)).cost (P c)) (N (L b)).cost ≡ false)
      (by_goal : (N t).stage ≡ Reached
      → g.costs.at_most (g.costs.plus (N (L b)).cost (P c)) (N t).cost ≡ true) where
    above : (v : V) → g.costs.at_most (g.costs.plus (N (L b)).cost (P c)) v ≡ true
        → (z : Bool) → g.costs.at_most v (N (L b)).cost ≡ z → g.costs.at_most v (N (L b)).cost ≡ false
    above v h false i = i
    above v h true i = absurd (let x = s.laws.transitive _ _ _ h i in let y = adds in cc)

    pub settled_ahead : Ahead g.costs P K N L e next (N (L b)).cost
    settled_ahead = record { more = λ d l h. above _ (least d l h) _ refl }

    pub before_goal : (N t).stage ≡ Reached → g.costs.at_most (N t).cost (N (L b)).cost ≡ false
    before_goal r = above _ (by_goal r) _ refl

    pub first_dearer : Dearer g k ok N (Due L e next Of) (N (L b)).cost
    first_dearer = all_dearer _ settled_ahead
        (λ r. s.laws.transitive _ _ _ (s.laws.total _ _ adds) (by_goal r))

    pub first_reached : (N (g.number u)).stage ≡ Reached
    first_reached = subst (λ (j : ℕ). (N j).stage ≡ Reached) here (li.reached b (omega arith) b_in)

    -- and all its motions are due
    pub first_due : (x : A) (p : ℕ) → g.step p u ≡ Some x → Due L e next Of (g.number u) p
    first_due x p st =
        let y = cs.classed u x p ou st in
        record {
          place = b;
          within = b_in;
          is = here;
          class = y.class;
          is_of = y.is_of;
          from = ea.early y.class y.below;
        }
