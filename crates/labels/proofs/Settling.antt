-- A reached state has its leg where all that is due, and all that the reached states lead to, comes to more: whatever
-- leads to it leaves the settled states at a motion that is dealt with, so it costs at least as much, and as much only if
-- its last motion is not an earlier one; or at one that is due, so it costs more.
use Rattle.std.proofs.Common.{◌≡◌, ◌⊎◌, inl, inr, ◌∙◌, ℕ, true, false, Some, refl, sym, ap, subst}
use Rattle.legs.specs.Graph.{Graph, Leads, spent}
use Rattle.legs.specs.Leg.{Earlier, Least, Leg}
use Rattle.legs.specs.Sane.{Sane}
use Rattle.legs.specs.Sequence.{Sequence, none, then}
use Rattle.legs.proofs.Ends.{Before, adds_more, before, ends_ok, more, one_end}
use Rattle.legs.proofs.Unique.{least_of_leg}
use Rattle.labels.specs.Frontier.{Beyond, Dearer, Frontier, Handled, Labelled, Traced, beyond, done, known}
use Rattle.labels.specs.Note.{Note}
use Rattle.labels.specs.declared.label.Stage.{Stage}
use Rattle.labels.specs.declared.label.Stage.TheVariants.{Unreached, Reached, Settled}

-- a stage is that of a settled state, or it is not
pub is_settled : (s : Stage) → (s ≡ Settled) ⊎ (s ≡ Settled → ⊥)
is_settled Unreached = inr (λ e. cc)
is_settled Reached = inr (λ e. cc)
is_settled Settled = inl refl

module _ {A V : Type 0} (g : Graph A V) (k : A) (ok : A → Type 0) (m : ℕ) (s : Sane g k ok m)
    (N : ℕ → Note V) (t : ℕ) (D : ℕ → ℕ → Type 0) (f : Frontier g k ok N t D) where
  -- a settled state's note costs no more than whatever leads there
  settled_least : (x : Sequence) (d : A) → (N (g.number d)).stage ≡ Settled → Leads g k x d
      → g.costs.at_most (N (g.number d)).cost (spent g x) ≡ true
  settled_least x d e h =
      let tr = f.traced d (ends_ok g k ok m s x d h) e in
      let le = (least_of_leg g k ok m s tr.way d tr.leg).least x h in
      subst (λ (v : V). g.costs.at_most v (spent g x) ≡ true) tr.cost le

  -- so a motion from there costs no more than the sequence with that motion
  candidate : (x : Sequence) (d : A) (n : ℕ) → (N (g.number d)).stage ≡ Settled → Leads g k x d
      → g.costs.at_most (g.costs.plus (N (g.number d)).cost (g.weight n)) (spent g (then x n)) ≡ true
  candidate x d n e h = s.laws.raises_left _ _ _ (settled_least x d e h)

  module _ (u : A) (o : ok u) (r : (N (g.number u)).stage ≡ Reached)
      (later : Dearer g k ok N D (N (g.number u)).cost)
      (ahead : (g.number u ≡ t)
      ⊎ ((N t).stage ≡ Reached → g.costs.at_most (N t).cost (N (g.number u)).cost ≡ false)) where
    -- what a sequence costs that comes to a state e: at least as much as u is known at; or e is reached, and it costs at
    -- least as much as e is known at
    data Crossed (e : A) (v : V) : Type 0 where
      past : g.costs.at_most (N (g.number u)).cost v ≡ true → Crossed e v
      over : (N (g.number e)).stage ≡ Reached → g.costs.at_most (N (g.number e)).cost v ≡ true → Crossed e v

    crossed_more : (e : A) (v w : V) → g.costs.at_most v w ≡ true → Crossed e v → Crossed e w
    crossed_more e v w h (past a) = past (s.laws.transitive _ _ _ a h)
    crossed_more e v w h (over a b) = over a (s.laws.transitive _ _ _ b h)

    before_goal : (v : V) → (N t).stage ≡ Reached → g.costs.at_most (N t).cost v ≡ true
        → (g.number u ≡ t)
        ⊎ ((N t).stage ≡ Reached → g.costs.at_most (N t).cost (N (g.number u)).cost ≡ false)
        → g.costs.at_most (N (g.number u)).cost v ≡ true
    before_goal v h i (inl e) = subst (λ (j : ℕ). g.costs.at_most (N j).cost v ≡ true) (sym e) i
    before_goal v h i (inr e) = s.laws.transitive _ _ _ (s.laws.total _ _ (e h)) i

    -- by a motion that is dealt with, to a state that is not settled
    handled_crosses : (e : A) (v : V) (n q : ℕ) → ((N (g.number e)).stage ≡ Settled → ⊥)
        → Handled g N t (g.number e) v n q → Crossed e v
    handled_crosses e v n q ns (done h) = absurd (ns h)
    handled_crosses e v n q ns (known h) = over h.reached h.cost
    handled_crosses e v n q ns (beyond h) = past (before_goal v h.reached h.below ahead)

    -- and by one that is dealt with or due, from a settled state
    settled_crosses : (d e : A) (n : ℕ) → ok d → (N (g.number d)).stage ≡ Settled → g.step n d ≡ Some e
        → ((N (g.number e)).stage ≡ Settled → ⊥)
        → Handled g N t (g.number e) (g.costs.plus (N (g.number d)).cost (g.weight n)) n (g.number d)
        ⊎ D (g.number d) n
        → Crossed e (g.costs.plus (N (g.number d)).cost (g.weight n))
    settled_crosses d e n od i st ns (inl a) = handled_crosses e _ n (g.number d) ns a
    settled_crosses d e n od i st ns (inr a) = past (s.laws.total _ _ (later.due d e n od i st a))

    -- and from a state that is not settled
    onward : (d e : A) (n : ℕ) (x : Sequence) → ok d → g.step n d ≡ Some e → Leads g k (then x n) e
        → Crossed d (spent g x) → g.costs.at_most (N (g.number u)).cost (spent g (then x n)) ≡ true
    onward d e n x od st h (past a) = s.laws.transitive _ _ _ a (s.laws.total _ _ (adds_more g k ok m s x n e h))
    onward d e n x od st h (over a b) = s.laws.transitive _ _ _ (s.laws.total _ _ (later.waiting d e n od a st))
        (s.laws.raises_left _ _ _ b)

    crossing : (x : Sequence) (e : A) → Leads g k x e → ((N (g.number e)).stage ≡ Settled → ⊥)
        → Crossed e (spent g x)
    crossing none e h ns = let i : k ≡ e = cc in
        absurd (ns (subst (λ (x : A). (N (g.number x)).stage ≡ Settled) i f.root))
    crossing (then x n) e h ns = by_cases (crossing x b.state b.leads) (is_settled (N (g.number b.state)).stage)
      where
        b : Before g k x n e
        b = before g k x n e h

        od : ok b.state
        od = ends_ok g k ok m s x b.state b.leads

        by_cases : (((N (g.number b.state)).stage ≡ Settled → ⊥) → Crossed b.state (spent g x))
            → ((N (g.number b.state)).stage ≡ Settled) ⊎ ((N (g.number b.state)).stage ≡ Settled → ⊥)
            → Crossed e (spent g (then x n))
        by_cases ih (inl i) = crossed_more e _ _ (candidate x b.state n i b.leads)
            (settled_crosses b.state e n od i b.step ns (f.handled b.state e n od i b.step))
        by_cases ih (inr i) = past (onward b.state e n x od b.step h (ih i))

    least_here : (v : V) → Crossed u v → g.costs.at_most (N (g.number u)).cost v ≡ true
    least_here v (past a) = a
    least_here v (over a b) = b

    not_settled : (N (g.number u)).stage ≡ Settled → ⊥
    not_settled h = cc

    abbrev label : Labelled g k ok N u
    label = f.labelled u o r

    abbrev from : Traced g k ok N label.state
    from = f.traced label.state label.is_ok label.settled

    abbrev pub way : Sequence
    way = then from.way (N (g.number u)).motion

    pub way_spent : spent g way ≡ (N (g.number u)).cost
    way_spent = let a = from.cost in let b = label.cost in cc

    departs : Leads g k from.way label.state
    departs = (least_of_leg g k ok m s from.way label.state from.leg).leads

    way_leads : Leads g k way u
    way_leads = more g k from.way (N (g.number u)).motion label.state u departs label.step

    way_least : Least g k way u
    way_least = record {
      leads = way_leads;
      least = λ x h. subst (λ (v : V). g.costs.at_most v (spent g x) ≡ true) (sym way_spent)
          (least_here _ (crossing x u h not_settled));
    }

    -- a least sequence to u costs no more than the note says
    least_spent : (x : Sequence) → Least g k x u → g.costs.at_most (spent g x) (N (g.number u)).cost ≡ true
    least_spent x h = subst (λ (v : V). g.costs.at_most (spent g x) v ≡ true) way_spent (h.least way way_leads)

    not_beyond : (v : V) → Beyond g.costs N t (g.number u) v → g.costs.at_most v (N (g.number u)).cost ≡ true
        → (g.number u ≡ t)
        ⊎ ((N t).stage ≡ Reached → g.costs.at_most (N t).cost (N (g.number u)).cost ≡ false) → ⊥
    not_beyond v h i (inl e) = h.apart e
    not_beyond v h i (inr e) =
        let a = s.laws.transitive _ _ _ h.below i in
        let b = e h.reached in cc

    earlier_if : (e : A) (v : V) (n q : ℕ) → Handled g N t (g.number u) v n q
        → g.costs.at_most v (N (g.number u)).cost ≡ true → Earlier (N (g.number u)).motion (N (g.number u)).from n q
    earlier_if e v n q (done h) i = absurd (not_settled h)
    earlier_if e v n q (known h) i = h.tie i
    earlier_if e v n q (beyond h) i = absurd (not_beyond v h i ahead)

    way_first : (x : Sequence) (e : A) (n : ℕ) → Leads g k x e → Least g k (then x n) u
        → Earlier (N (g.number u)).motion (N (g.number u)).from n (g.number e)
    way_first x e n h l = by_cases (is_settled (N (g.number e)).stage)
      where
        b : Before g k x n u
        b = before g k x n u l.leads

        same : b.state ≡ e
        same = one_end g k x b.state e b.leads h

        step : g.step n e ≡ Some u
        step = subst (λ (d : A). g.step n d ≡ Some u) same b.step

        not_least : Crossed e (spent g x) → ⊥
        not_least (past a) =
            let p = s.laws.transitive _ _ _ (least_spent (then x n) l) a in
            let q = adds_more g k ok m s x n u l.leads in cc
        not_least (over a b2) =
            let p = s.laws.transitive _ _ _ (s.laws.raises_left _ _ (g.weight n) b2) (least_spent (then x n) l) in
            let q = later.waiting e u n (ends_ok g k ok m s x e h) a step in cc

        no_dearer : (N (g.number e)).stage ≡ Settled
            → g.costs.at_most (g.costs.plus (N (g.number e)).cost (g.weight n)) (N (g.number u)).cost ≡ true
        no_dearer i = s.laws.transitive _ _ _ (candidate x e n i h) (least_spent (then x n) l)

        from_settled : (N (g.number e)).stage ≡ Settled
            → Handled g N t (g.number u) (g.costs.plus (N (g.number e)).cost (g.weight n)) n (g.number e)
            ⊎ D (g.number e) n
            → Earlier (N (g.number u)).motion (N (g.number u)).from n (g.number e)
        from_settled i (inl a) = earlier_if e _ n (g.number e) a (no_dearer i)
        from_settled i (inr a) = absurd (
            let p = later.due e u n (ends_ok g k ok m s x e h) i step a in let q = no_dearer i in cc)

        by_cases : ((N (g.number e)).stage ≡ Settled) ⊎ ((N (g.number e)).stage ≡ Settled → ⊥)
            → Earlier (N (g.number u)).motion (N (g.number u)).from n (g.number e)
        by_cases (inl i) = from_settled i (f.handled e u n (ends_ok g k ok m s x e h) i step)
        by_cases (inr i) = absurd (not_least (crossing x e h i))

    pub way_leg : Leg g k way u
    way_leg = (
      label.state,
      record {
        least = way_least;
        departs = departs;
        first = λ x e n h l. subst (λ (q : ℕ). Earlier (N (g.number u)).motion q n (g.number e)) label.from
            (way_first x e n h l);
      },
      from.leg,
    )

  -- where nothing is reached any more, and nothing is due, nothing leads to what is not settled
  module _ (empty : (x : A) → ok x → (N (g.number x)).stage ≡ Reached → ⊥) (goal : A) (goal_ok : ok goal)
      (is : t ≡ g.number goal)
      (none_due : (d u : A) (n : ℕ) → ok d → (N (g.number d)).stage ≡ Settled → g.step n d ≡ Some u
      → D (g.number d) n → ⊥) where
    settled_if : (e : A) (v : V) (n q : ℕ) → ok e → Handled g N t (g.number e) v n q → (N (g.number e)).stage ≡ Settled
    settled_if e v n q oe (done h) = h
    settled_if e v n q oe (known h) = absurd (empty e oe h.reached)
    settled_if e v n q oe (beyond h) = absurd (empty goal goal_ok (ap (λ (j : ℕ). (N j).stage) (sym is) ∙ h.reached))

    settled_by : (d e : A) (n : ℕ) → ok d → (N (g.number d)).stage ≡ Settled → g.step n d ≡ Some e
        → Handled g N t (g.number e) (g.costs.plus (N (g.number d)).cost (g.weight n)) n (g.number d)
        ⊎ D (g.number d) n
        → (N (g.number e)).stage ≡ Settled
    settled_by d e n od i st (inl a) = settled_if e _ n (g.number d) (s.goes n d e od st) a
    settled_by d e n od i st (inr a) = absurd (none_due d e n od i st a)

    pub all_settled : (x : Sequence) (e : A) → Leads g k x e → (N (g.number e)).stage ≡ Settled
    all_settled none e h = let i : k ≡ e = cc in subst (λ (x : A). (N (g.number x)).stage ≡ Settled) i f.root
    all_settled (then x n) e h =
        let b = before g k x n e h in
        let od = ends_ok g k ok m s x b.state b.leads in
        let i = all_settled x b.state b.leads in
        settled_by b.state e n od i b.step (f.handled b.state e n od i b.step)
