-- One motion of a class is taken from a settled state, and leads to a new state, which is not the goal: that state comes to
-- stand at the end of the line, since nothing in the line costs more, and nothing that is due comes to less.
use Rattle.std.proofs.Common.{◌≡◌, ◌≢◌, ◌⊎◌, inl, inr, ◌∙◌, ℕ, ◌+◌, ◌<◌, ◌≤◌, Some, true, length, sym, ap, subst, arith}
use Rattle.cost.specs.Costs.{CostLaws}
use Rattle.display.specs.Place.{number}
use Rattle.display.specs.declared.place.Cursor.{Cursor}
use Rattle.display.specs.declared.place.Place.{Place}
use Rattle.labels.specs.Line.{Line, Stands as InLine}
use Rattle.labels.specs.Note.{Note, Updated, improved}
use Rattle.labels.specs.declared.label.Stage.TheVariants.{Unreached, Reached}
use Rattle.labels.proofs.Improving.{Improved, lost, new, same_or_not, stays, won}
use Rattle.legs.proofs.Order.{same_at_most}
use Rattle.legs.proofs.Panels.{landed_below}
use Rattle.legs.specs.Scene.{lands}
use Rattle.leg_search.proofs.Classing.{price_adds}
use Rattle.leg_search.proofs.Noting.{frontier_after, here_how, settled_before}
use Rattle.leg_search.proofs.Standing.{in_line}
use Rattle.leg_search.specs.Noting.{Grown}
use Rattle.leg_search.specs.Reach.{Late, Reach}
use Rattle.leg_search.specs.Take.{Left, Taking}
use Rattle.leg_search.specs.Task.{Asks, Task, asked, places, price}
use Rattle.motion_order.specs.InOrder.{offer_at}
use Rattle.panel.specs.Answers.{Bounded}

module _ {V : Type 0} (x : Task V) (l : CostLaws x.costs) (bd : Bounded x.scene.answers) (q : Asks x)
    (r : Reach V) (b d i : ℕ) (v : V) (u : Cursor) (j : ℕ) (tk : Taking x r b d j i v u)
    (lt : j < length (x.class d)) (p : Place) (there : lands x.scene (offer_at (x.class d) j).motion u ≡ Some p) where
  abbrev motion : ℕ
  motion = (offer_at (x.class d) j).motion

  abbrev state : ℕ
  state = number x.scene.answers.size p

  module _ (M : ℕ → Note V) (up : Updated r.notes M state (improved x.costs (r.notes state) v motion (r.line i)))
      (fresh : (r.notes state).stage ≡ Unreached) (ne : state ≢ x.goal)
      (not_yet : (r.notes x.goal).stage ≢ Reached) (L : ℕ → ℕ) (at_end : L r.end ≡ state)
      (elsewhere : (a : ℕ) → a ≢ r.end → L a ≡ r.line a) where
    made_here : ((M state).stage ≡ Reached) × ((M state).cost ≡ v)
    made_here = by_cases (here_how x l bd q r b d i v u j tk lt p there M up)
      where
        by_cases : Improved (asked x) l (r.notes state) (M state) v motion (r.line i)
            → ((M state).stage ≡ Reached) × ((M state).cost ≡ v)
        by_cases (new e m) = (ap (λ (y : Note V). y.stage) m, ap (λ (y : Note V). y.cost) m)
        by_cases (won e better m) = absurd cc
        by_cases (lost e m) = absurd (let h = e.reached in cc)
        by_cases (stays e m) = absurd cc

    abbrev longer_reach : Reach V
    longer_reach = record { notes = M; line = L; end = r.end + 1; next = r.next }

    -- a state that was known stays as it was
    unchanged : (a : ℕ) → (r.notes a).stage ≢ Unreached → M a ≡ r.notes a
    unchanged a h = up.there a (λ e. h (ap (λ (y : ℕ). (r.notes y).stage) e ∙ fresh))

    noted_at : (a : ℕ) → a < r.end → M (L a) ≡ r.notes (r.line a)
    noted_at a h = ap M (elsewhere a (λ e. absurd (omega arith))) ∙ unchanged (r.line a) (in_line x r b _ tk.stands a h)

    moved : (i2 e2 a : ℕ) → e2 ≤ r.end → InLine r.line i2 e2 a → InLine L i2 e2 a
    moved i2 e2 a h o = record {
      place = o.place;
      from = o.from;
      below = o.below;
      is = elsewhere o.place (λ e. absurd (let w = o.below in omega arith)) ∙ o.is;
    }

    at_last : (a : ℕ) → a < r.end + 1 → (a ≡ r.end) ⊎ (a < r.end)
    at_last a h = grind arith

    listed_more : (a : ℕ) → a < r.end + 1 → (a ≡ r.end) ⊎ (a < r.end)
        → x.costs.at_most (M (L a)).cost v ≡ true
    listed_more a h (inl e) = subst (λ (y : V). x.costs.at_most y v ≡ true)
        (sym (ap (λ (y : ℕ). (M y).cost) (ap L e ∙ at_end) ∙ made_here.1)) (same_at_most l v)
    listed_more a h (inr o) = subst (λ (y : Note V). x.costs.at_most y.cost v ≡ true) (sym (noted_at a o))
        (tk.at.late.listed a o)

    last_cost : (M (L r.end)).cost ≡ v
    last_cost = ap (λ (y : ℕ). (M y).cost) at_end ∙ made_here.1

    line_longer : Line x.costs M L (r.end + 1) b x.goal
    line_longer =
        let li = tk.stands.line in
        record {
          within = let w = li.within in omega arith;
          settled = λ a h. let w = li.within in
              ap (λ (y : Note V). y.stage) (noted_at a (omega arith)) ∙ li.settled a h;
          reached = λ a h o. reached_at a h (at_last a o);
          others = λ a h. other_at a (at_last a h);
          of_settled = λ a h o. moved 0 b a li.within
              (li.of_settled a (settled_before x l bd q r b d i v u j tk lt p there M up a h) o);
          of_reached = λ a h o. stands_at a h o (same_or_not a state);
          sorted = λ a c h o. sorted_at a c h (at_last c o);
        }
      where
        reached_at : (a : ℕ) → b ≤ a → (a ≡ r.end) ⊎ (a < r.end) → (M (L a)).stage ≡ Reached
        reached_at a h (inl e) = ap (λ (y : ℕ). (M y).stage) (ap L e ∙ at_end) ∙ made_here.0
        reached_at a h (inr o) = ap (λ (y : Note V). y.stage) (noted_at a o) ∙ tk.stands.line.reached a h o

        other_at : (a : ℕ) → (a ≡ r.end) ⊎ (a < r.end) → L a ≢ x.goal
        other_at a (inl e) = λ h. ne (sym (ap L e ∙ at_end) ∙ h)
        other_at a (inr o) = λ h. tk.stands.line.others a o
            (sym (elsewhere a (λ e. absurd (omega arith))) ∙ h)

        stands_at : (a : ℕ) → (M a).stage ≡ Reached → a ≢ x.goal → (a ≡ state) ⊎ (a ≢ state)
            → InLine L b (r.end + 1) a
        stands_at a h o (inl e) = record {
          place = r.end;
          from = tk.stands.line.within;
          below = omega arith;
          is = at_end ∙ sym e;
        }
        stands_at a h o (inr e) =
            let w = moved b r.end a (omega arith) (tk.stands.line.of_reached a
            (ap (λ (y : Note V). y.stage) (sym (up.there a e)) ∙ h) o) in
            record { place = w.place; from = w.from; below = let y = w.below in omega arith; is = w.is }

        sorted_at : (a c : ℕ) → a ≤ c → (c ≡ r.end) ⊎ (c < r.end)
            → x.costs.at_most (M (L a)).cost (M (L c)).cost ≡ true
        sorted_at a c h (inl e) = subst (λ (y : V). x.costs.at_most (M (L a)).cost y ≡ true)
            (sym (ap (λ (y : ℕ). (M (L y)).cost) e ∙ last_cost))
            (listed_more a (omega arith) (at_last a (omega arith)))
        sorted_at a c h (inr o) =
            subst (λ (y : Note V). x.costs.at_most y.cost (M (L c)).cost ≡ true) (sym (noted_at a (omega arith)))
            (subst (λ (y : Note V). x.costs.at_most (r.notes (r.line a)).cost y.cost ≡ true) (sym (noted_at c o))
            (tk.stands.line.sorted a c h o))

    goal_as_it_was : M x.goal ≡ r.notes x.goal
    goal_as_it_was = up.there x.goal (λ e. ne (sym e))

    not_reached : (M x.goal).stage ≡ Reached → ⊥
    not_reached h = not_yet (ap (λ (y : Note V). y.stage) (sym goal_as_it_was) ∙ h)

    late_longer : Late x longer_reach v
    late_longer = record {
      listed = λ a h. listed_more a h (at_last a h);
      due = λ a h o. due_at_place a h (at_last (r.next a) o);
      goal = λ h. absurd (not_reached h);
    }
      where
        due_at_place : (a : ℕ) → a < x.count → (r.next a ≡ r.end) ⊎ (r.next a < r.end)
            → x.costs.at_most v (x.costs.plus (M (L (r.next a))).cost (price x a)) ≡ true
        due_at_place a h (inl e) = subst (λ (y : V). x.costs.at_most v (x.costs.plus y (price x a)) ≡ true)
            (sym (ap (λ (y : ℕ). (M (L y)).cost) e ∙ last_cost))
            (l.total _ _ (price_adds x q l v a h))
        due_at_place a h (inr o) =
            subst (λ (y : Note V). x.costs.at_most v (x.costs.plus y.cost (price x a)) ≡ true)
            (sym (noted_at (r.next a) o)) (tk.at.late.due a h o)

    still_due : (a n : ℕ) → Left x r d (j + 1) i a n → Left x longer_reach d (j + 1) i a n
    still_due a n (inl h) = inl (record {
      place = h.place;
      within = let w = h.within in omega arith;
      is = elsewhere h.place (λ e. absurd (let w = h.within in omega arith)) ∙ h.is;
      class = h.class;
      is_of = h.is_of;
      from = h.from;
    })
    still_due a n (inr h) = inr (
      h.0 ∙ sym (elsewhere i (λ e. absurd (
          let w = tk.before in let y = tk.stands.line.within in omega arith))),
      h.1,
    )

    pub taken_new : Taking x longer_reach b d (j + 1) i v u
    taken_new =
        let before_end : i < r.end = let w = tk.before in let y = tk.stands.line.within in omega arith in
        let here : L i ≡ r.line i = elsewhere i (λ e. absurd (omega arith)) in
        record {
          stands = record {
            frontier = frontier_after x l bd q r b d i v u j tk lt p there M up (Left x longer_reach d (j + 1) i) still_due;
            line = line_longer;
            early = tk.stands.early;
            waits = λ h. tk.stands.waits (ap (λ (y : Note V). y.stage) (sym goal_as_it_was) ∙ h);
            begun = tk.stands.begun;
            begins = elsewhere 0 (λ e. absurd (let w = tk.stands.begun in
                let y = tk.stands.line.within in omega arith)) ∙ tk.stands.begins;
            inside = λ a h o. inside_at a h (at_last a o);
            apart = λ a c h o. apart_at a c h (at_last c o);
          };
          at = record { late = late_longer; goal = λ h. absurd (not_reached h) };
          class = tk.class;
          fit = tk.fit;
          is = here ∙ tk.is;
          before = tk.before;
          cost = tk.cost ∙ ap (λ (y : Note V). x.costs.plus y.cost (price x d)) (sym (noted_at i before_end));
        }
      where
        inside_at : (a : ℕ) → 0 < a → (a ≡ r.end) ⊎ (a < r.end) → L a < places x
        inside_at a h (inl e) = subst (λ (y : ℕ). y < places x) (sym (ap L e ∙ at_end))
            (landed_below x.scene bd motion u p tk.fit.on there)
        inside_at a h (inr o) = subst (λ (y : ℕ). y < places x) (sym (elsewhere a (λ e. absurd (omega arith))))
            (tk.stands.inside a h o)

        apart_at : (a c : ℕ) → a < c → (c ≡ r.end) ⊎ (c < r.end) → L a ≢ L c
        apart_at a c h (inl e) = λ o. in_line x r b _ tk.stands a (omega arith) (ap (λ (y : ℕ). (r.notes y).stage)
            (sym (elsewhere a (λ e2. absurd (omega arith))) ∙ (o ∙ (ap L e ∙ at_end))) ∙ fresh)
        apart_at a c h (inr o) = λ e. tk.stands.apart a c h o
            (sym (elsewhere a (λ e2. absurd (omega arith))) ∙ (e ∙ elsewhere c (λ e2. absurd (omega arith))))

    pub new_grown : Grown r longer_reach
    new_grown = record {
      end = omega arith;
      line = λ a h. elsewhere a (λ e. absurd (omega arith));
      cost = λ a h. ap (λ (y : Note V). y.cost) (noted_at a h);
    }
