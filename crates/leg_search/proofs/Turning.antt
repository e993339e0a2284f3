-- One turn of a search: a class is due at the least cost. The state at its place of the line is settled, if it is not, since
-- all that is due and all that the reached states lead to comes to more; and then its motions of that class are taken.
use Rattle.std.proofs.Common.{◌≡◌, ◌≢◌, ◌⊎◌, inl, inr, ◌∙◌, ℕ, ◌+◌, ◌<◌, ◌≤◌, true, false, length, refl, sym, ap, subst, arith}
use Rattle.cost.specs.Costs.{CostLaws}
use Rattle.display.specs.declared.place.Cursor.{Cursor}
use Rattle.labels.specs.Frontier.{Dearer, Frontier}
use Rattle.labels.specs.Line.{Line, Stands as InLine}
use Rattle.labels.specs.Note.{Note, Updated, settled}
use Rattle.labels.specs.declared.label.Stage.TheVariants.{Reached, Settled}
use Rattle.labels.proofs.Beginning.{left_out}
use Rattle.labels.proofs.Improving.{same_or_not}
use Rattle.labels.proofs.Lines.{before_goal, first_dearer, first_due, first_reached}
use Rattle.labels.proofs.Turns.{turned}
use Rattle.legs.proofs.Panels.{sane}
use Rattle.legs.specs.Scene.{numbered}
use Rattle.leg_search.proofs.Classing.{classes, price_adds}
use Rattle.leg_search.specs.Reach.{DueIn, Late, Reach, Searching, Stands, due_at}
use Rattle.leg_search.specs.Noting.{Grown}
use Rattle.leg_search.specs.Take.{At, InTurn, Left, Taking}
use Rattle.leg_search.specs.Task.{Asks, Fit, OfClass, Task, asked, price}
use Rattle.leg_search.specs.Turn.{Settles, turned as settles_now, was}
use Rattle.motion_order.specs.InOrder.{offer_at}
use Rattle.panel.specs.Answers.{Bounded}

module _ {V : Type 0} (x : Task V) (l : CostLaws x.costs) (bd : Bounded x.scene.answers) (q : Asks x)
    (r : Reach V) (b : ℕ) (st : Stands x r b (DueIn x r)) (d i : ℕ) (lt : d < x.count) (at : r.next d ≡ i)
    (v : V) (tu : At x r v) (is : v ≡ x.costs.plus (r.notes (r.line i)).cost (price x d))
    (u : Cursor) (fit : Fit x u) (here : r.line i ≡ numbered x.scene.answers.size u) where
  -- it is the first state of the line that is not settled
  module _ (first : i ≡ b) (within : b < r.end) (M : ℕ → Note V)
      (up : Updated r.notes M (numbered x.scene.answers.size u) (settled (r.notes (numbered x.scene.answers.size u)))) where
    abbrev number : ℕ
    number = numbered x.scene.answers.size u

    here_first : r.line b ≡ number
    here_first = ap r.line (sym first) ∙ here

    cost_first : v ≡ x.costs.plus (r.notes (r.line b)).cost (price x d)
    cost_first = is ∙ ap (λ (y : ℕ). x.costs.plus (r.notes (r.line y)).cost (price x d)) first

    apart_from_goal : x.goal ≢ number
    apart_from_goal e = st.line.others b within (here_first ∙ sym e)

    least : (c : ℕ) → c < x.count → r.next c < r.end
        → x.costs.at_most (x.costs.plus (r.notes (r.line b)).cost (price x d)) (due_at x r c) ≡ true
    least c h o = subst (λ (y : V). x.costs.at_most y (due_at x r c) ≡ true) cost_first (tu.late.due c h o)

    by_goal : (r.notes x.goal).stage ≡ Reached
        → x.costs.at_most (x.costs.plus (r.notes (r.line b)).cost (price x d)) (r.notes x.goal).cost ≡ true
    by_goal h = subst (λ (y : V). x.costs.at_most y (r.notes x.goal).cost ≡ true) cost_first (tu.goal h)

    frontier_settled : Frontier (asked x) x.start (Fit x) M x.goal (DueIn x r)
    frontier_settled =
        let sn = sane x.costs l x.scene bd x.start q.start in
        let cs = classes x q bd in
        let adds = price_adds x q l (r.notes (r.line b)).cost d lt in
        let reached_here = first_reached (asked x) x.start (Fit x) _ sn x.count (OfClass x) (price x) cs r.notes r.line
        r.end b x.goal st.line r.next st.early within u fit here_first d lt (at ∙ first) least adds by_goal in
        let dearer = first_dearer (asked x) x.start (Fit x) _ sn x.count (OfClass x) (price x) cs r.notes r.line
        r.end b x.goal st.line r.next st.early within u fit here_first d lt (at ∙ first) least adds by_goal in
        let goal_dearer = before_goal (asked x) x.start (Fit x) _ sn x.count (OfClass x) (price x) cs r.notes r.line
        r.end b x.goal st.line r.next st.early within u fit here_first d lt (at ∙ first) least adds by_goal in
        let due = first_due (asked x) x.start (Fit x) _ sn x.count (OfClass x) (price x) cs r.notes r.line
        r.end b x.goal st.line r.next st.early within u fit here_first d lt (at ∙ first) least adds by_goal in
        turned (asked x) x.start (Fit x) _ sn r.notes M x.goal (DueIn x r) (DueIn x r) st.frontier u fit reached_here
        (subst (λ (y : ℕ). Dearer (asked x) x.start (Fit x) r.notes (DueIn x r) (r.notes y).cost) here_first dearer)
        (λ h. subst (λ (y : ℕ). x.costs.at_most (r.notes x.goal).cost (r.notes y).cost ≡ false) here_first (goal_dearer h))
        (λ j p h. h) due up apart_from_goal

    -- the note of no other state has changed, and no cost
    costs_stay : (j : ℕ) → (M j).cost ≡ (r.notes j).cost
    costs_stay j = by_cases (same_or_not j number)
      where
        by_cases : (j ≡ number) ⊎ (j ≢ number) → (M j).cost ≡ (r.notes j).cost
        by_cases (inl e) = subst (λ (y : ℕ). (M y).cost ≡ (r.notes y).cost) (sym e)
            (ap (λ (a : Note V). a.cost) up.here)
        by_cases (inr e) = ap (λ (a : Note V). a.cost) (up.there j e)

    settled_there : (j : ℕ) → (r.notes j).stage ≡ Settled → (M j).stage ≡ Settled
    settled_there j h = by_cases (same_or_not j number)
      where
        by_cases : (j ≡ number) ⊎ (j ≢ number) → (M j).stage ≡ Settled
        by_cases (inl e) = subst (λ (y : ℕ). (M y).stage ≡ Settled) (sym e) (ap (λ (a : Note V). a.stage) up.here)
        by_cases (inr e) = ap (λ (a : Note V). a.stage) (up.there j e) ∙ h

    settled_here : (M number).stage ≡ Settled
    settled_here = ap (λ (a : Note V). a.stage) up.here

    goal_stays : M x.goal ≡ r.notes x.goal
    goal_stays = up.there x.goal apart_from_goal

    abbrev settled_reach : Reach V
    settled_reach = record r { notes = M }

    line_settled : Line x.costs M r.line r.end (b + 1) x.goal
    line_settled = record {
      within = omega arith;
      settled = λ a h. settled_at a (either a h);
      reached = λ a h o. ap (λ (y : Note V). y.stage) (up.there (r.line a) (λ e. st.apart b a (omega arith) o
          (here_first ∙ sym e))) ∙ st.line.reached a (omega arith) o;
      others = st.line.others;
      of_settled = λ a h ne. stands_settled a h ne (same_or_not a number);
      of_reached = λ a h ne. stands_reached a h ne (same_or_not a number);
      sorted = λ a c h o. subst (λ (y : V). x.costs.at_most y (M (r.line c)).cost ≡ true) (sym (costs_stay (r.line a)))
          (subst (λ (y : V). x.costs.at_most (r.notes (r.line a)).cost y ≡ true) (sym (costs_stay (r.line c)))
          (st.line.sorted a c h o));
    }
      where
        either : (a : ℕ) → a < b + 1 → (a ≡ b) ⊎ (a < b)
        either a h = grind arith

        settled_at : (a : ℕ) → (a ≡ b) ⊎ (a < b) → (M (r.line a)).stage ≡ Settled
        settled_at a (inl e) = ap (λ (y : ℕ). (M y).stage) (ap r.line e ∙ here_first) ∙ settled_here
        settled_at a (inr h) = settled_there (r.line a) (st.line.settled a h)

        stands_settled : (a : ℕ) → (M a).stage ≡ Settled → a ≢ x.goal → (a ≡ number) ⊎ (a ≢ number)
            → InLine r.line 0 (b + 1) a
        stands_settled a h ne (inl e) = record {
          place = b;
          from = omega arith;
          below = omega arith;
          is = here_first ∙ sym e;
        }
        stands_settled a h ne (inr e) =
            let o = st.line.of_settled a (ap (λ (y : Note V). y.stage) (sym (up.there a e)) ∙ h) ne in
            record { place = o.place; from = o.from; below = let w = o.below in omega arith; is = o.is }

        stands_reached : (a : ℕ) → (M a).stage ≡ Reached → a ≢ x.goal → (a ≡ number) ⊎ (a ≢ number)
            → InLine r.line (b + 1) r.end a
        stands_reached a h ne (inl e) = absurd (
            let o : (M a).stage ≡ Settled = ap (λ (y : ℕ). (M y).stage) e ∙ settled_here in cc)
        stands_reached a h ne (inr e) =
            let o = st.line.of_reached a (ap (λ (y : Note V). y.stage) (sym (up.there a e)) ∙ h) ne in
            let p : o.place ≢ b = λ z. e (sym o.is ∙ (ap r.line z ∙ here_first)) in
            record { place = o.place; from = let w = o.from in omega arith; below = o.below; is = o.is }

    pub settling : Stands x settled_reach (b + 1) (DueIn x settled_reach)
    settling = record {
      frontier = frontier_settled;
      line = line_settled;
      early = record { early = λ c h. let o = st.early.early c h in omega arith };
      waits = λ h. st.waits (ap (λ (y : Note V). y.stage) (sym goal_stays) ∙ h);
      begun = omega arith;
      begins = st.begins;
      inside = st.inside;
      apart = st.apart;
    }

    pub settling_at : At x settled_reach v
    settling_at = record {
      late = record {
        listed = λ a h. subst (λ (y : V). x.costs.at_most y v ≡ true) (sym (costs_stay (r.line a)))
            (tu.late.listed a h);
        due = λ c h o. subst (λ (y : V). x.costs.at_most v (x.costs.plus y (price x c)) ≡ true)
            (sym (costs_stay (r.line (r.next c)))) (tu.late.due c h o);
        goal = λ h. subst (λ (y : Note V). x.costs.at_most y.cost v ≡ true) (sym goal_stays)
            (tu.late.goal (ap (λ (y : Note V). y.stage) (sym goal_stays) ∙ h));
      };
      goal = λ h. subst (λ (y : Note V). x.costs.at_most v y.cost ≡ true) (sym goal_stays)
          (tu.goal (ap (λ (y : Note V). y.stage) (sym goal_stays) ∙ h));
    }

    pub settling_cost : v ≡ x.costs.plus (M (r.line i)).cost (price x d)
    settling_cost = is ∙ ap (λ (y : V). x.costs.plus y (price x d)) (sym (costs_stay (r.line i)))

  -- it is settled: its motions of the class are taken, and the class is due from the next place on
  module _ (before : i < b) (next : ℕ → ℕ) (moved : next d ≡ i + 1) (others : (c : ℕ) → c ≢ d → next c ≡ r.next c) where
    abbrev next_reach : Reach V
    next_reach = record r { next = next }

    first_left : (a n : ℕ) → DueIn x r a n → Left x next_reach d 0 i a n
    first_left a n h = by_class (same_or_not h.class d) (same_or_not h.place i)
      where
        elsewhere : h.class ≢ d → DueIn x next_reach a n
        elsewhere e = record {
          place = h.place;
          within = h.within;
          is = h.is;
          class = h.class;
          is_of = h.is_of;
          from = let w = h.from in let y = others h.class e in omega arith;
        }

        later : h.class ≡ d → h.place ≢ i → DueIn x next_reach a n
        later e ne = record {
          place = h.place;
          within = h.within;
          is = h.is;
          class = h.class;
          is_of = h.is_of;
          from =
              let w = h.from in
              let y : r.next h.class ≡ i = ap r.next e ∙ at in
              let z : next h.class ≡ i + 1 = ap next e ∙ moved in omega arith;
        }

        by_class : (h.class ≡ d) ⊎ (h.class ≢ d) → (h.place ≡ i) ⊎ (h.place ≢ i) → Left x next_reach d 0 i a n
        by_class (inr e) y = inl (elsewhere e)
        by_class (inl e) (inr ne) = inl (later e ne)
        by_class (inl e) (inl o) = inr (
          sym h.is ∙ ap r.line o,
          record {
            place = h.is_of.place;
            from = omega arith;
            within = subst (λ (y : ℕ). h.is_of.place < length (x.class y)) e h.is_of.within;
            is = ap (λ (y : ℕ). (offer_at (x.class y) h.is_of.place).motion) (sym e) ∙ h.is_of.is;
          },
        )

    due_later : (c : ℕ) → c < x.count → next c < r.end → (c ≡ d) ⊎ (c ≢ d)
        → x.costs.at_most v (x.costs.plus (r.notes (r.line (next c))).cost (price x c)) ≡ true
    due_later c h o (inr e) =
        let y = others c e in
        subst (λ (z : ℕ). x.costs.at_most v (x.costs.plus (r.notes (r.line z)).cost (price x c)) ≡ true) (sym y)
        (tu.late.due c h (omega arith))
    due_later c h o (inl e) =
        let y : next c ≡ i + 1 = ap next e ∙ moved in
        subst (λ (z : ℕ). x.costs.at_most v (x.costs.plus (r.notes (r.line (next z))).cost (price x z)) ≡ true) (sym e)
        (subst (λ (z : V). x.costs.at_most z (x.costs.plus (r.notes (r.line (next d))).cost (price x d)) ≡ true) (sym is)
        (l.raises_left _ _ (price x d)
        (subst (λ (z : ℕ). x.costs.at_most (r.notes (r.line i)).cost (r.notes (r.line z)).cost ≡ true) (sym moved)
        (st.line.sorted i (i + 1) (omega arith) (omega arith)))))

    pub taking : Taking x next_reach b d 0 i v u
    taking = record {
      stands = record {
        frontier = left_out (asked x) x.start (Fit x) _ (sane x.costs l x.scene bd x.start q.start) r.notes x.goal
            (DueIn x r) (Left x next_reach d 0 i)
            (λ e w n oe se sp due. inl (first_left (numbered x.scene.answers.size e) n due)) st.frontier;
        line = st.line;
        early = record { early = λ c h. early_at c h (same_or_not c d) };
        waits = st.waits;
        begun = st.begun;
        begins = st.begins;
        inside = st.inside;
        apart = st.apart;
      };
      at = record {
        late = record {
          listed = tu.late.listed;
          due = λ c h o. due_later c h o (same_or_not c d);
          goal = tu.late.goal;
        };
        goal = tu.goal;
      };
      class = lt;
      fit = fit;
      is = here;
      before = before;
      cost = is;
    }
      where
        early_at : (c : ℕ) → c < x.count → (c ≡ d) ⊎ (c ≢ d) → next c ≤ b
        early_at c h (inl e) = let y : next c ≡ i + 1 = ap next e ∙ moved in omega arith
        early_at c h (inr e) = let y = others c e in let z = st.early.early c h in omega arith

-- where the class that is due first is due at v, it is the turn of v
module _ {V : Type 0} (x : Task V) (l : CostLaws x.costs) (r : Reach V) (s : Searching x r) (d : ℕ) (lt : d < x.count)
    (due : r.next d < r.end)
    (least : (c : ℕ) → c < x.count → r.next c < r.end → x.costs.at_most (due_at x r d) (due_at x r c) ≡ true) where
  pub turn_of : Late x r (due_at x r d)
  turn_of =
      let later = s.late.due d lt due in
      record {
        listed = λ a h. l.transitive _ _ _ (s.late.listed a h) later;
        due = least;
        goal = λ h. l.transitive _ _ _ (s.late.goal h) later;
      }

-- what the code does at a place of the line: it settles the state there, if it is not settled, and counts its motions of
-- the class as taken; then they are taken
module _ {V : Type 0} (x : Task V) (l : CostLaws x.costs) (bd : Bounded x.scene.answers) (q : Asks x)
    (r : Reach V) (v : V) (it : InTurn x r v) (d i : ℕ) (lt : d < x.count) (at : r.next d ≡ i) (within : i < r.end)
    (is : v ≡ x.costs.plus (r.notes (r.line i)).cost (price x d))
    (u : Cursor) (fit : Fit x u) (here : r.line i ≡ numbered x.scene.answers.size u)
    (M : ℕ → Note V) (se : Settles r.notes M (r.line i))
    (next : ℕ → ℕ) (moved : next d ≡ i + 1) (others : (c : ℕ) → c ≢ d → next c ≡ r.next c) where
  abbrev begun_reach : Reach V
  begun_reach = record { notes = M; line = r.line; end = r.end; next = next }

  pub record Begins : Type 0 where
    pub settled : ℕ
    pub taking : Taking x begun_reach settled d 0 i v u
    pub grown : Grown r begun_reach

  same_costs : ((j : ℕ) → (M j).cost ≡ (r.notes j).cost) → Grown r begun_reach
  same_costs h = record { end = omega arith; line = λ a o. refl; cost = λ a o. h (r.line a) }

  pub begins : Begins
  begins = by_cases se (side i it.settled)
    where
      side : (y z : ℕ) → (y < z) ⊎ (z ≤ y)
      side y z = grind arith

      not_past : it.settled ≤ i → i ≡ it.settled
      not_past h = let e = it.stands.early.early d lt in omega arith

      by_cases : Settles r.notes M (r.line i) → (i < it.settled) ⊎ (it.settled ≤ i) → Begins
      by_cases (was ne e) (inl h) = record {
        settled = it.settled;
        taking = subst (λ (N : ℕ → Note V). Taking x (record { notes = N; line = r.line; end = r.end; next = next })
            it.settled d 0 i v u) (sym e)
            (taking x l bd q r it.settled it.stands d i lt at v it.at is u fit here h next moved others);
        grown = same_costs (λ j. ap (λ (N : ℕ → Note V). (N j).cost) e);
      }
      by_cases (was ne e) (inr h) = absurd (ne (it.stands.line.reached i h within))
      by_cases (settles_now rd up) (inl h) = absurd (let o = it.stands.line.settled i h in cc)
      by_cases (settles_now rd up) (inr h) =
          let first = not_past h in
          let up2 = subst (λ (n : ℕ). Updated r.notes M n (settled (r.notes n))) here up in
          let w : it.settled < r.end = omega arith in
          record {
            settled = it.settled + 1;
            taking = taking x l bd q (record r { notes = M }) (it.settled + 1)
                (settling x l bd q r it.settled it.stands d i lt at v it.at is u fit here first w M up2) d i lt at v
                (settling_at x l bd q r it.settled it.stands d i lt at v it.at is u fit here first w M up2)
                (settling_cost x l bd q r it.settled it.stands d i lt at v it.at is u fit here first w M up2)
                u fit here (omega arith) next moved others;
            grown = same_costs (costs_stay x l bd q r it.settled it.stands d i lt at v it.at is u fit here first w M up2);
          }
