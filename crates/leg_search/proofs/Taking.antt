-- Taking one motion of a class from a settled state, where it comes to nothing: nothing is left of the class, or the motion
-- is not offered, or the goal is reached already and the state that the motion leads to counts no more, or all that is left
-- of the class comes after the goal's motion. It is no longer due then, and all else goes on to hold.
use Rattle.std.proofs.Common.{◌≡◌, ◌≢◌, ◌⊎◌, inl, inr, ◌∙◌, ℕ, ◌+◌, ◌<◌, ◌≤◌, Some, None, true, length, sym, ap, subst, arith}
use Rattle.std.specs.Option.{option_map}
use Rattle.cost.specs.Costs.{CostLaws}
use Rattle.display.specs.Place.{number}
use Rattle.display.specs.Surface.{resting}
use Rattle.display.specs.declared.place.Cursor.{Cursor}
use Rattle.display.specs.declared.place.Place.{Place}
use Rattle.labels.specs.Frontier.{Frontier, Handled, beyond, known}
use Rattle.labels.specs.declared.label.Stage.TheVariants.{Reached}
use Rattle.labels.proofs.Beginning.{left_out}
use Rattle.labels.proofs.Improving.{same_or_not}
use Rattle.legs.proofs.Panels.{sane}
use Rattle.legs.specs.Scene.{lands, numbered, steps}
use Rattle.leg_search.proofs.Classing.{class_price}
use Rattle.leg_search.specs.Reach.{DueIn, Reach, Stands}
use Rattle.leg_search.specs.Take.{After, Left, Taking}
use Rattle.leg_search.specs.Task.{Asks, Fit, Task, asked, price}
use Rattle.motion_order.specs.InOrder.{offer_at}
use Rattle.panel.specs.Answers.{Bounded}

-- the same, but for what is due
redue : {V : Type 0} (x : Task V) (r : Reach V) (b : ℕ) (D D' : ℕ → ℕ → Type 0) → Stands x r b D
    → Frontier (asked x) x.start (Fit x) r.notes x.goal D' → Stands x r b D'
redue x r b D D' s f = record {
  frontier = f;
  line = s.line;
  early = s.early;
  waits = s.waits;
  begun = s.begun;
  begins = s.begins;
  inside = s.inside;
  apart = s.apart;
}

module _ {V : Type 0} (x : Task V) (l : CostLaws x.costs) (bd : Bounded x.scene.answers) (q : Asks x)
    (r : Reach V) (b d i : ℕ) (v : V) (u : Cursor) where
  -- the motions that are left of a class
  one_less : (j p : ℕ) → After x d j p → After x d (j + 1) p ⊎ (p ≡ (offer_at (x.class d) j).motion)
  one_less j p a = by_cases (same_or_not a.place j)
    where
      by_cases : (a.place ≡ j) ⊎ (a.place ≢ j) → After x d (j + 1) p ⊎ (p ≡ (offer_at (x.class d) j).motion)
      by_cases (inl e) = inr (sym (ap (λ (h : ℕ). (offer_at (x.class d) h).motion) (sym e) ∙ a.is))
      by_cases (inr e) = inl (record {
        place = a.place;
        from = let h = a.from in omega arith;
        within = a.within;
        is = a.is;
      })

  module _ (j : ℕ) (tk : Taking x r b d j i v u) where
    abbrev same : (e : Cursor) → Fit x e → numbered x.scene.answers.size e ≡ r.line i → e ≡ u
    same e f h = (sane x.costs l x.scene bd x.start q.start).apart e u f tk.fit (h ∙ tk.is)

    -- it is dealt with, where the goal is known at no more
    passed : (e w : Cursor) (n : ℕ) → (r.notes x.goal).stage ≡ Reached → e ≡ u
        → x.costs.plus (r.notes (numbered x.scene.answers.size e)).cost ((asked x).weight n) ≡ v
        → (numbered x.scene.answers.size w ≡ x.goal
        → Handled (asked x) r.notes x.goal x.goal v n (numbered x.scene.answers.size e))
        → Handled (asked x) r.notes x.goal (numbered x.scene.answers.size w)
        (x.costs.plus (r.notes (numbered x.scene.answers.size e)).cost ((asked x).weight n)) n
        (numbered x.scene.answers.size e)
    passed e w n h is at here = by_cases (same_or_not (numbered x.scene.answers.size w) x.goal)
      where
        by_cases : (numbered x.scene.answers.size w ≡ x.goal) ⊎ (numbered x.scene.answers.size w ≢ x.goal)
            → Handled (asked x) r.notes x.goal (numbered x.scene.answers.size w)
            (x.costs.plus (r.notes (numbered x.scene.answers.size e)).cost ((asked x).weight n)) n
            (numbered x.scene.answers.size e)
        by_cases (inl o) = subst (λ (a : V). Handled (asked x) r.notes x.goal (numbered x.scene.answers.size w) a n
            (numbered x.scene.answers.size e)) (sym at)
            (subst (λ (a : ℕ). Handled (asked x) r.notes x.goal a v n (numbered x.scene.answers.size e)) (sym o) (here o))
        by_cases (inr o) = beyond (record {
          apart = o;
          reached = h;
          below = subst (λ (a : V). x.costs.at_most (r.notes x.goal).cost a ≡ true) (sym at) (tk.at.late.goal h);
        })

    -- what a motion of the class comes to from here
    pub from_here : (e : Cursor) (h n : ℕ) → e ≡ u → h < length (x.class d) → (offer_at (x.class d) h).motion ≡ n
        → x.costs.plus (r.notes (numbered x.scene.answers.size e)).cost ((asked x).weight n) ≡ v
    from_here e h n is lt at =
        let a : (asked x).weight n ≡ price x d = ap (asked x).weight (sym at) ∙ class_price x q d h tk.class lt in
        let c : numbered x.scene.answers.size e ≡ r.line i = ap (numbered x.scene.answers.size) is ∙ sym tk.is in
        ap (λ (y : ℕ). x.costs.plus (r.notes y).cost ((asked x).weight n)) c
        ∙ (ap (x.costs.plus (r.notes (r.line i)).cost) a ∙ sym tk.cost)

    -- nothing is left of the class
    pub taken_all : length (x.class d) ≤ j → Stands x r b (DueIn x r)
    taken_all le = redue x r b _ _ tk.stands (left_out (asked x) x.start (Fit x) _
        (sane x.costs l x.scene bd x.start q.start) r.notes x.goal (Left x r d j i) (DueIn x r)
        (λ e w n oe se st due. inl (none_left (numbered x.scene.answers.size e) n due)) tk.stands.frontier)
      where
        none_left : (a n : ℕ) → Left x r d j i a n → DueIn x r a n
        none_left a n (inl h) = h
        none_left a n (inr h) = absurd (let o = h.1.from in let w = h.1.within in omega arith)

    module _ (lt : j < length (x.class d)) where
      abbrev motion : ℕ
      motion = (offer_at (x.class d) j).motion

      -- what is still due is due after that motion, or is that motion
      pub less : (a n : ℕ) → Left x r d j i a n → Left x r d (j + 1) i a n ⊎ ((a ≡ r.line i) × (n ≡ motion))
      less a n (inl h) = inl (inl h)
      less a n (inr h) = by_cases (one_less j n h.1)
        where
          by_cases : After x d (j + 1) n ⊎ (n ≡ motion) → Left x r d (j + 1) i a n ⊎ ((a ≡ r.line i) × (n ≡ motion))
          by_cases (inl o) = inl (inr (h.0, o))
          by_cases (inr o) = inr (h.0, o)

      -- the motion is not due any more, where it is not offered or dealt with
      dropped : ((e w : Cursor) (n : ℕ) → e ≡ u → n ≡ motion → steps x.scene n e ≡ Some w
          → Handled (asked x) r.notes x.goal (numbered x.scene.answers.size w)
          (x.costs.plus (r.notes (numbered x.scene.answers.size e)).cost ((asked x).weight n)) n
          (numbered x.scene.answers.size e))
          → Taking x r b d (j + 1) i v u
      dropped but = record {
        stands = redue x r b _ _ tk.stands (left_out (asked x) x.start (Fit x) _
            (sane x.costs l x.scene bd x.start q.start) r.notes x.goal (Left x r d j i) (Left x r d (j + 1) i)
            (λ e w n oe se st due. by_cases e w n oe st (less (numbered x.scene.answers.size e) n due))
            tk.stands.frontier);
        at = tk.at;
        class = tk.class;
        fit = tk.fit;
        is = tk.is;
        before = tk.before;
        cost = tk.cost;
      }
        where
          by_cases : (e w : Cursor) (n : ℕ) → Fit x e → steps x.scene n e ≡ Some w
              → Left x r d (j + 1) i (numbered x.scene.answers.size e) n
              ⊎ ((numbered x.scene.answers.size e ≡ r.line i) × (n ≡ motion))
              → Left x r d (j + 1) i (numbered x.scene.answers.size e) n
              ⊎ Handled (asked x) r.notes x.goal (numbered x.scene.answers.size w)
              (x.costs.plus (r.notes (numbered x.scene.answers.size e)).cost ((asked x).weight n)) n
              (numbered x.scene.answers.size e)
          by_cases e w n oe st (inl h) = inl h
          by_cases e w n oe st (inr h) = inr (but e w n (same e oe h.0) h.1 st)

      pub taken_nowhere : lands x.scene motion u ≡ None → Taking x r b d (j + 1) i v u
      taken_nowhere absent = dropped (λ e w n is at st. absurd (
          let z : Some w ≡ None = sym st ∙ (ap (λ (y : ℕ). steps x.scene y e) at
          ∙ (ap (λ (y : Cursor). steps x.scene motion y) is ∙ ap (option_map resting) absent)) in cc))

      -- it leads to a state that is not the goal, and the goal is reached already
      pub taken_past : (p : Place) → lands x.scene motion u ≡ Some p → number x.scene.answers.size p ≢ x.goal
          → (r.notes x.goal).stage ≡ Reached → Taking x r b d (j + 1) i v u
      taken_past p there ne h = dropped (λ e w n is at st. passed e w n h is (from_here e j n is lt (sym at))
          (λ o. absurd (ne (
          let z : Some w ≡ Some (resting p) = sym st ∙ (ap (λ (y : ℕ). steps x.scene y e) at
          ∙ (ap (λ (y : Cursor). steps x.scene motion y) is ∙ ap (option_map resting) there)) in
          let w_is : w ≡ resting p = cc in
          ap (numbered x.scene.answers.size) (sym w_is) ∙ o))))

      -- the goal is reached by an earlier motion, so none that is left of the class counts
      pub taken_late : (r.notes x.goal).stage ≡ Reached → (r.notes x.goal).motion < motion → Stands x r b (DueIn x r)
      taken_late h earlier = redue x r b _ _ tk.stands (left_out (asked x) x.start (Fit x) _
          (sane x.costs l x.scene bd x.start q.start) r.notes x.goal (Left x r d j i) (DueIn x r)
          (λ e w n oe se st due. by_cases e w n oe due) tk.stands.frontier)
        where
          later : (a n : ℕ) → j ≤ a → a < length (x.class d) → (offer_at (x.class d) a).motion ≡ n
              → (a ≡ j) ⊎ (a ≢ j) → (r.notes x.goal).motion < n
          later a n le in_class is (inl e) =
              subst (λ (y : ℕ). (r.notes x.goal).motion < y) (ap (λ (y : ℕ). (offer_at (x.class d) y).motion) (sym e) ∙ is)
              earlier
          later a n le in_class is (inr e) =
              let o = q.classes.by_number d j a tk.class (omega arith) in_class in omega arith

          known_by : (e : Cursor) (n : ℕ) → (r.notes x.goal).motion < n
              → Handled (asked x) r.notes x.goal x.goal v n (numbered x.scene.answers.size e)
          known_by e n o = known (record {
            reached = h;
            cost = tk.at.late.goal h;
            tie = λ a. inl o;
          })

          by_cases : (e w : Cursor) (n : ℕ) → Fit x e → Left x r d j i (numbered x.scene.answers.size e) n
              → DueIn x r (numbered x.scene.answers.size e) n
              ⊎ Handled (asked x) r.notes x.goal (numbered x.scene.answers.size w)
              (x.costs.plus (r.notes (numbered x.scene.answers.size e)).cost ((asked x).weight n)) n
              (numbered x.scene.answers.size e)
          by_cases e w n oe (inl due) = inl due
          by_cases e w n oe (inr due) = inr (passed e w n h (same e oe due.0)
              (from_here e due.1.place n (same e oe due.0) due.1.within due.1.is)
              (λ o. known_by e n (later due.1.place n due.1.from due.1.within due.1.is (same_or_not due.1.place j))))
