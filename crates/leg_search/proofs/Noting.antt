-- Note is taken of one motion of a class from a settled state: that motion is no longer due, and the frontier is kept. Where
-- the state that it leads to is known already, or is the goal, the line stays as it is.
use Rattle.std.proofs.Common.{◌≡◌, ◌≢◌, ◌⊎◌, inl, inr, ◌∙◌, ℕ, ◌+◌, ◌<◌, Some, true, length, refl, sym, ap, subst, arith}
use Rattle.std.specs.Option.{option_map}
use Rattle.cost.specs.Costs.{CostLaws}
use Rattle.display.specs.Place.{number}
use Rattle.display.specs.Surface.{resting}
use Rattle.display.specs.declared.place.Cursor.{Cursor}
use Rattle.display.specs.declared.place.Place.{Place}
use Rattle.labels.specs.Frontier.{Frontier}
use Rattle.labels.specs.Line.{Line}
use Rattle.labels.specs.Note.{Note, Updated, improved}
use Rattle.labels.specs.declared.label.Stage.TheVariants.{Unreached, Reached, Settled}
use Rattle.labels.proofs.Improving.{Improved, improved_cost, is_improved, lost, new, same_or_not, stays, won}
use Rattle.labels.proofs.Relaxing.{relaxed, was_settled}
use Rattle.legs.proofs.Order.{same_at_most}
use Rattle.legs.proofs.Panels.{sane}
use Rattle.legs.specs.Scene.{lands, numbered, steps}
use Rattle.leg_search.proofs.Taking.{from_here, less}
use Rattle.leg_search.specs.Noting.{Grown}
use Rattle.leg_search.specs.Reach.{Late, Reach}
use Rattle.leg_search.specs.Take.{Left, Taking}
use Rattle.leg_search.specs.Task.{Asks, Fit, Task, asked, price}
use Rattle.motion_order.specs.InOrder.{offer_at}
use Rattle.panel.specs.Answers.{Bounded}

-- all states but the goal have the stage and the cost that they had
record Alike {V : Type 0} (N M : ℕ → Note V) (t : ℕ) : Type 0 where
  stage : (j : ℕ) → j ≢ t → (M j).stage ≡ (N j).stage
  cost : (j : ℕ) → j ≢ t → (M j).cost ≡ (N j).cost

module _ {V : Type 0} (x : Task V) (l : CostLaws x.costs) (bd : Bounded x.scene.answers) (q : Asks x)
    (r : Reach V) (b d i : ℕ) (v : V) (u : Cursor) (j : ℕ) (tk : Taking x r b d j i v u)
    (lt : j < length (x.class d)) (p : Place) (there : lands x.scene (offer_at (x.class d) j).motion u ≡ Some p) where
  abbrev motion : ℕ
  motion = (offer_at (x.class d) j).motion

  abbrev state : ℕ
  state = number x.scene.answers.size p

  motion_there : steps x.scene motion u ≡ Some (resting p)
  motion_there = ap (option_map resting) there

  settled_here : (r.notes (numbered x.scene.answers.size u)).stage ≡ Settled
  settled_here = subst (λ (n : ℕ). (r.notes n).stage ≡ Settled) tk.is (tk.stands.line.settled i tk.before)

  module _ (M : ℕ → Note V) (up : Updated r.notes M state (improved x.costs (r.notes state) v motion (r.line i))) where
    update : Updated r.notes M state (improved x.costs (r.notes state)
        (x.costs.plus (r.notes (numbered x.scene.answers.size u)).cost ((asked x).weight motion)) motion
        (numbered x.scene.answers.size u))
    update = subst (λ (a : V). Updated r.notes M state (improved x.costs (r.notes state) a motion
        (numbered x.scene.answers.size u))) (sym (from_here x l bd q r b d i v u j tk u j motion refl lt refl))
        (subst (λ (a : ℕ). Updated r.notes M state (improved x.costs (r.notes state) v motion a)) tk.is up)

    -- no other state is settled by it
    pub settled_before : (a : ℕ) → (M a).stage ≡ Settled → (r.notes a).stage ≡ Settled
    settled_before a h = was_settled (asked x) x.start (Fit x) _ (sane x.costs l x.scene bd x.start q.start) r.notes M
        x.goal u (resting p) tk.fit settled_here motion motion_there update a h

    pub frontier_after : (D : ℕ → ℕ → Type 0)
        → ((a n : ℕ) → Left x r d (j + 1) i a n → D a n)
        → Frontier (asked x) x.start (Fit x) M x.goal D
    frontier_after D gives = relaxed (asked x) x.start (Fit x) _
        (sane x.costs l x.scene bd x.start q.start) r.notes M x.goal u (resting p) tk.fit settled_here motion
        motion_there update (Left x r d j i) D (λ a n h. by_cases a n (less x l bd q r b d i v u j tk lt a n h))
        tk.stands.frontier
      where
        by_cases : (a n : ℕ) → Left x r d (j + 1) i a n ⊎ ((a ≡ r.line i) × (n ≡ motion))
            → D a n ⊎ ((a ≡ numbered x.scene.answers.size u) × (n ≡ motion))
        by_cases a n (inl h) = inl (gives a n h)
        by_cases a n (inr h) = inr (h.0 ∙ tk.is, h.1)

    pub here_how : Improved (asked x) l (r.notes state) (M state) v motion (r.line i)
    here_how = subst (λ (a : Note V). Improved (asked x) l (r.notes state) a v motion (r.line i)) (sym up.here)
        (is_improved (asked x) l (r.notes state) v motion (r.line i))

    -- a state that is not new, or the goal
    module _ (old : (state ≡ x.goal) ⊎ ((r.notes state).stage ≢ Unreached)) where
      -- a state of the line costs no more
      no_more : (a : ℕ) → a ≢ x.goal → (r.notes a).stage ≡ Reached
          → x.costs.at_most (r.notes a).cost v ≡ true
      no_more a ne h =
          let o = tk.stands.line.of_reached a h ne in
          subst (λ (y : ℕ). x.costs.at_most (r.notes y).cost v ≡ true) o.is (tk.at.late.listed o.place o.below)

      alike_here : state ≢ x.goal → Improved (asked x) l (r.notes state) (M state) v motion (r.line i)
          → ((M state).stage ≡ (r.notes state).stage) × ((M state).cost ≡ (r.notes state).cost)
      alike_here ne (new e m) = absurd (by_cases old)
        where
          by_cases : (state ≡ x.goal) ⊎ ((r.notes state).stage ≢ Unreached) → ⊥
          by_cases (inl o) = ne o
          by_cases (inr o) = o e
      alike_here ne (won e better m) = (
        ap (λ (a : Note V). a.stage) m ∙ sym e,
        ap (λ (a : Note V). a.cost) up.here
            ∙ improved_cost (asked x) l (r.notes state) v motion (r.line i) e (no_more state ne e),
      )
      alike_here ne (lost e m) = (ap (λ (a : Note V). a.stage) m, ap (λ (a : Note V). a.cost) m)
      alike_here ne (stays e m) = (ap (λ (a : Note V). a.stage) m, ap (λ (a : Note V). a.cost) m)

      alike_at : (a : ℕ) → a ≢ x.goal → (a ≡ state) ⊎ (a ≢ state)
          → ((M a).stage ≡ (r.notes a).stage) × ((M a).cost ≡ (r.notes a).cost)
      alike_at a ne (inl e) = subst
          (λ (y : ℕ). ((M y).stage ≡ (r.notes y).stage) × ((M y).cost ≡ (r.notes y).cost)) (sym e)
          (alike_here (λ o. ne (e ∙ o)) here_how)
      alike_at a ne (inr e) = (ap (λ (y : Note V). y.stage) (up.there a e), ap (λ (y : Note V). y.cost) (up.there a e))

      alike : Alike r.notes M x.goal
      alike = record {
        stage = λ a ne. (alike_at a ne (same_or_not a state)).0;
        cost = λ a ne. (alike_at a ne (same_or_not a state)).1;
      }

      goal_here : (M x.goal).stage ≡ Reached → (x.goal ≡ state) ⊎ (x.goal ≢ state)
          → (x.costs.at_most (M x.goal).cost v ≡ true) × (x.costs.at_most v (M x.goal).cost ≡ true)
      goal_here h (inr e) =
          let s = up.there x.goal e in
          let h2 = ap (λ (y : Note V). y.stage) (sym s) ∙ h in (
            subst (λ (y : Note V). x.costs.at_most y.cost v ≡ true) (sym s) (tk.at.late.goal h2),
            subst (λ (y : Note V). x.costs.at_most v y.cost ≡ true) (sym s) (tk.at.goal h2),
          )
      goal_here h (inl e) = subst
          (λ (y : ℕ). (x.costs.at_most (M y).cost v ≡ true) × (x.costs.at_most v (M y).cost ≡ true)) (sym e)
          (by_cases here_how)
        where
          by_cases : Improved (asked x) l (r.notes state) (M state) v motion (r.line i)
              → (x.costs.at_most (M state).cost v ≡ true) × (x.costs.at_most v (M state).cost ≡ true)
          by_cases (new s m) = (
            subst (λ (y : Note V). x.costs.at_most y.cost v ≡ true) (sym m) (same_at_most l v),
            subst (λ (y : Note V). x.costs.at_most v y.cost ≡ true) (sym m) (same_at_most l v),
          )
          by_cases (won s better m) = (
            subst (λ (y : Note V). x.costs.at_most y.cost v ≡ true) (sym m) (same_at_most l v),
            subst (λ (y : Note V). x.costs.at_most v y.cost ≡ true) (sym m) (same_at_most l v),
          )
          by_cases (lost s m) =
              let h2 : (r.notes x.goal).stage ≡ Reached = ap (λ (y : ℕ). (r.notes y).stage) e ∙ s.reached in (
                subst (λ (y : Note V). x.costs.at_most y.cost v ≡ true) (sym m) s.cost,
                subst (λ (y : Note V). x.costs.at_most v y.cost ≡ true) (sym m)
                    (subst (λ (y : ℕ). x.costs.at_most v (r.notes y).cost ≡ true) e (tk.at.goal h2)),
              )
          by_cases (stays s m) = absurd (tk.stands.waits (ap (λ (y : ℕ). (r.notes y).stage) e ∙ s))

      abbrev noted_reach : Reach V
      noted_reach = record r { notes = M }

      line_alike : Line x.costs M r.line r.end b x.goal
      line_alike =
          let li = tk.stands.line in
          let al = alike in
          record {
            within = li.within;
            settled = λ a h. al.stage (r.line a) (li.others a (let w = li.within in omega arith)) ∙ li.settled a h;
            reached = λ a h o. al.stage (r.line a) (li.others a o) ∙ li.reached a h o;
            others = li.others;
            of_settled = λ a h ne. li.of_settled a (sym (al.stage a ne) ∙ h) ne;
            of_reached = λ a h ne. li.of_reached a (sym (al.stage a ne) ∙ h) ne;
            sorted = λ a c h o.
                subst (λ (y : V). x.costs.at_most y (M (r.line c)).cost ≡ true)
                (sym (al.cost (r.line a) (li.others a (omega arith))))
                (subst (λ (y : V). x.costs.at_most (r.notes (r.line a)).cost y ≡ true)
                (sym (al.cost (r.line c) (li.others c o))) (li.sorted a c h o));
          }

      late_alike : Late x noted_reach v
      late_alike =
          let li = tk.stands.line in
          let al = alike in
          record {
            listed = λ a h. subst (λ (y : V). x.costs.at_most y v ≡ true)
                (sym (al.cost (r.line a) (li.others a h))) (tk.at.late.listed a h);
            due = λ a h o. subst (λ (y : V). x.costs.at_most v (x.costs.plus y (price x a)) ≡ true)
                (sym (al.cost (r.line (r.next a)) (li.others (r.next a) o))) (tk.at.late.due a h o);
            goal = λ h. (goal_here h (same_or_not x.goal state)).0;
          }

      pub taken_noted : Taking x noted_reach b d (j + 1) i v u
      taken_noted = record {
        stands = record {
          frontier = frontier_after (Left x noted_reach d (j + 1) i) (λ a n h. h);
          line = line_alike;
          early = tk.stands.early;
          waits = λ h. tk.stands.waits (settled_before x.goal h);
          begun = tk.stands.begun;
          begins = tk.stands.begins;
          inside = tk.stands.inside;
          apart = tk.stands.apart;
        };
        at = record { late = late_alike; goal = λ h. (goal_here h (same_or_not x.goal state)).1 };
        class = tk.class;
        fit = tk.fit;
        is = tk.is;
        before = tk.before;
        cost = tk.cost ∙ ap (λ (y : V). x.costs.plus y (price x d)) (sym (alike.cost (r.line i)
            (tk.stands.line.others i (let h = tk.before in let w = tk.stands.line.within in omega arith))));
      }

      pub noted_grown : Grown r noted_reach
      noted_grown = record {
        end = omega arith;
        line = λ a h. refl;
        cost = λ a h. alike.cost (r.line a) (tk.stands.line.others a h);
      }
