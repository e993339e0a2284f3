-- A whole search: how it begins, and what it has found in the end. Where the goal is reached, and all that is due comes to
-- more, the notes tell its leg; where it is not, and nothing is due, no sequence leads there.
use Rattle.std.proofs.Common.{◌≡◌, ◌≢◌, ◌⊎◌, inl, inr, ◌∙◌, ℕ, ◌<◌, ◌≤◌, true, false, List, length, refl, sym, ap, subst, arith}
use Rattle.cost.specs.Costs.{CostLaws, Costs}
use Rattle.display.specs.Place.{On, number}
use Rattle.display.specs.Surface.{resting}
use Rattle.display.specs.declared.place.Cursor.{Cursor}
use Rattle.display.specs.declared.place.Place.{Place}
use Rattle.labels.specs.Frontier.{Dearer, DueAt, Frontier}
use Rattle.labels.specs.Note.{Note}
use Rattle.labels.specs.Trail.{Trail}
use Rattle.labels.specs.declared.label.Stage.TheVariants.{Unreached, Reached}
use Rattle.labels.proofs.Beginning.{begun, left_out, stay}
use Rattle.labels.proofs.Improving.{same_or_not}
use Rattle.labels.proofs.Lines.{all_dearer}
use Rattle.labels.proofs.Settling.{all_settled, way, way_leg, way_spent}
use Rattle.labels.proofs.Trails.{label_trail}
use Rattle.legs.proofs.Order.{same_at_most}
use Rattle.legs.proofs.Panels.{sane}
use Rattle.legs.proofs.Short.{short}
use Rattle.legs.proofs.Unique.{least_of_leg, unique}
use Rattle.legs.specs.Graph.{spent}
use Rattle.legs.specs.Leg.{Leg}
use Rattle.legs.specs.Sane.{Node}
use Rattle.legs.specs.Scene.{NoWay, Scene, graph, numbered}
use Rattle.legs.specs.Sequence.{count, Sequence, listed, none}
use Rattle.leg_search.proofs.Classing.{classes, price_adds}
use Rattle.leg_search.specs.Answer.{Tells}
use Rattle.leg_search.specs.declared.leg.Leg.{Leg as Told}
use Rattle.labels.specs.declared.label.Label.{Label}
use Rattle.leg_search.specs.Memory.{Prepared, Traces, Trailed, held}
use Rattle.leg_search.specs.Reach.{DueIn, Reach, Searching}
use Rattle.leg_search.specs.Run.{Ended}
use Rattle.leg_search.specs.Task.{Asks, Fit, OfClass, Task, asked, places, price}
use Rattle.panel.specs.Answers.{Bounded}

module _ {V : Type 0} (c : Costs V) (l : CostLaws c) (s : Scene) (b : Bounded s.answers) (k : Cursor)
    (on : On s.answers.size k.place) where
  start_node : Node s.answers k k
  start_node = record { on = on; free = inr refl }

  goal_node : (q : Place) → On s.answers.size q → Node s.answers k (resting q)
  goal_node q h = record { on = h; free = inl refl }

  -- what a search tells of a leg, from the leg, the labels that hold its motions and the cost that is told
  pub tells : {K : Type 0} (f : K → V) (ls : List (Label K)) (a : Told K) (q : Place) (w : Sequence)
      → Leg (graph c s) k w (resting q) → a.first ≤ a.end → a.end ≤ length ls → held ls a.first a.end ≡ listed w
      → f a.cost ≡ spent (graph c s) w → Tells c f s k q ls a
  tells f ls a q w h i j e v = record {
    way = w;
    leg = h;
    only = λ x z. unique (graph c s) k (Node s.answers k) _ (sane c l s b k on) x w (resting q) z h;
    least = (least_of_leg (graph c s) k (Node s.answers k) _ (sane c l s b k on) w (resting q) h).least;
    short = short (graph c s) k (Node s.answers k) _ (sane c l s b k on) w (resting q) h;
    within = i;
    kept = j;
    motions = e;
    cost = v;
  }

  -- where the search begins at its goal, no motion is needed
  pub stays : (N : ℕ → Note V) (q : Place) → On s.answers.size q
      → numbered s.answers.size k ≡ number s.answers.size q → Leg (graph c s) k none (resting q)
  stays N q oq e =
      subst (λ (u : Cursor). Leg (graph c s) k none u)
      ((sane c l s b k on).apart k (resting q) start_node (goal_node q oq) e)
      (stay (graph c s) k (Node s.answers k) _ (sane c l s b k on) N)

module _ {V : Type 0} (x : Task V) (l : CostLaws x.costs) (bd : Bounded x.scene.answers) (q : Asks x) where
  -- at the beginning one state is settled, which stands in the line alone
  module _ (N : ℕ → Note V) (L next : ℕ → ℕ) (p : Prepared x.costs N (numbered x.scene.answers.size x.start))
      (apart : numbered x.scene.answers.size x.start ≢ x.goal)
      (first : L 0 ≡ numbered x.scene.answers.size x.start) (none_taken : (d : ℕ) → next d ≡ 0) where
    abbrev begin : ℕ
    begin = numbered x.scene.answers.size x.start

    abbrev first_reach : Reach V
    first_reach = record { notes = N; line = L; end = 1; next = next }

    only : (a : ℕ) → a < 1 → L a ≡ begin
    only a h = let e : a ≡ 0 = omega arith in ap L e ∙ first

    is_begin : (a : ℕ) → (N a).stage ≢ Unreached → a ≡ begin
    is_begin a h = by_cases (same_or_not a begin)
      where
        by_cases : (a ≡ begin) ⊎ (a ≢ begin) → a ≡ begin
        by_cases (inl e) = e
        by_cases (inr e) = absurd (h (p.others a e))

    begin_due : Frontier (asked x) x.start (Fit x) N x.goal (DueIn x first_reach)
    begin_due =
        let sn = sane x.costs l x.scene bd x.start q.start in
        left_out (asked x) x.start (Fit x) _ sn N x.goal (DueAt begin) (DueIn x first_reach)
        (λ d u n od se st due. inl (
        let o = (classes x q bd).classed d u n od st in
        record {
          place = 0;
          within = omega arith;
          is = first ∙ sym due;
          class = o.class;
          is_of = o.is_of;
          from = let y = none_taken o.class in omega arith;
        }))
        (begun (asked x) x.start (Fit x) _ sn N x.goal p.settled p.cost
        (λ u fu ne. p.others (numbered x.scene.answers.size u) ne))

    pub searching_first : Searching x first_reach
    searching_first = record {
      settled = 1;
      stands = record {
        frontier = begin_due;
        line = record {
          within = omega arith;
          settled = λ a h. ap (λ (y : ℕ). (N y).stage) (only a h) ∙ p.settled;
          reached = λ a h o. absurd (omega arith);
          others = λ a h e. apart (sym (only a h) ∙ e);
          of_settled = λ a h ne. record {
            place = 0;
            from = omega arith;
            below = omega arith;
            is = first ∙ sym (is_begin a (λ e. absurd cc));
          };
          of_reached = λ a h ne. absurd (
              let e = is_begin a (λ o. absurd cc) in
              let o = ap (λ (y : ℕ). (N y).stage) (sym e) in let z = p.settled in cc);
          sorted = λ a o h e. subst (λ (y : ℕ). x.costs.at_most (N (L a)).cost (N (L y)).cost ≡ true)
              (let z : a ≡ o = omega arith in z) (same_at_most l (N (L a)).cost);
        };
        early = record { early = λ d h. let y = none_taken d in omega arith };
        waits = λ e. apart (sym (is_begin x.goal (λ o. absurd cc)));
        begun = omega arith;
        begins = first;
        inside = λ a h o. absurd (omega arith);
        apart = λ a o h e. absurd (omega arith);
      };
      cost = x.costs.zero;
      late = record {
        listed = λ a h. subst (λ (y : V). x.costs.at_most y x.costs.zero ≡ true) (sym (cost_of a h))
            (same_at_most l x.costs.zero);
        due = λ d h o. subst (λ (y : V). x.costs.at_most x.costs.zero (x.costs.plus y (price x d)) ≡ true)
            (sym (cost_of (next d) o)) (l.total _ _ (price_adds x q l x.costs.zero d h));
        goal = λ e. absurd (apart (sym (is_begin x.goal (λ o. absurd cc))));
      };
    }
      where
        cost_of : (a : ℕ) → a < 1 → (N (L a)).cost ≡ x.costs.zero
        cost_of a h = ap (λ (y : ℕ). (N y).cost) (only a h) ∙ p.cost

  -- in the end
  module _ (N : ℕ → Note V) (D : ℕ → ℕ → Type 0) (en : Ended x N D) (p : Place) (on : On x.scene.answers.size p)
      (is : x.goal ≡ number x.scene.answers.size p) where
    goal_fit : Fit x (resting p)
    goal_fit = record { on = on; free = inl refl }

    pub no_way : (N x.goal).stage ≢ Reached → NoWay x.costs x.scene x.start p
    no_way ne w h = en.waits (ap (λ (a : ℕ). (N a).stage) is
        ∙ all_settled (asked x) x.start (Fit x) _ (sane x.costs l x.scene bd x.start q.start) N x.goal D en.frontier
        (en.empty ne) (resting p) goal_fit is (λ d u n od se st due. en.over ne d u n od st due) w (resting p) h)

    -- the leg, as the notes tell it
    pub record Reaches : Type 0 where
      pub way : Sequence
      pub leg : Leg (asked x) x.start way (resting p)
      pub cost : spent (asked x) way ≡ (N x.goal).cost
      pub trail : Trail N (numbered x.scene.answers.size x.start) (places x) way x.goal

    module _ (h : (N x.goal).stage ≡ Reached) where
      reached_here : (N (number x.scene.answers.size p)).stage ≡ Reached
      reached_here = ap (λ (a : ℕ). (N a).stage) (sym is) ∙ h

      dearer : Dearer (asked x) x.start (Fit x) N D (N (number x.scene.answers.size p)).cost
      dearer = subst (λ (a : ℕ). Dearer (asked x) x.start (Fit x) N D (N a).cost) is (en.dearer h)

      pub reaches : Reaches
      reaches =
          let sn = sane x.costs l x.scene bd x.start q.start in
          record {
            way = way (asked x) x.start (Fit x) _ sn N x.goal D en.frontier (resting p) goal_fit reached_here dearer
                (inl (sym is));
            leg = way_leg (asked x) x.start (Fit x) _ sn N x.goal D en.frontier (resting p) goal_fit reached_here
                dearer (inl (sym is));
            cost = way_spent (asked x) x.start (Fit x) _ sn N x.goal D en.frontier (resting p) goal_fit reached_here
                dearer (inl (sym is)) ∙ ap (λ (a : ℕ). (N a).cost) (sym is);
            trail = subst (λ (a : ℕ). Trail N (numbered x.scene.answers.size x.start) (places x)
                (way (asked x) x.start (Fit x) _ sn N x.goal D en.frontier (resting p) goal_fit reached_here dearer
                (inl (sym is))) a) (sym is)
                (label_trail (asked x) x.start (Fit x) _ sn N en.frontier.traced (resting p) reached_here
                en.frontier.root
                (subst (λ (a : ℕ). a < places x) is q.goal)
                (en.frontier.labelled (resting p) goal_fit reached_here));
          }

      -- by the numbers that the search goes by
      module _ (b m : ℕ) (begins : b ≡ numbered x.scene.answers.size x.start) (few : m ≡ places x) where
        found_trail : Trail N b m reaches.way x.goal
        found_trail =
            subst (λ (i : ℕ). Trail N i m reaches.way x.goal) (sym begins)
            (subst (λ (i : ℕ). Trail N (numbered x.scene.answers.size x.start) i reaches.way x.goal) (sym few)
            reaches.trail)

        pub trailed : Trailed N b x.goal m
        trailed = record {
          way = reaches.way;
          trail = found_trail;
          short = subst (λ (i : ℕ). count reaches.way ≤ i) (sym few)
              (short (asked x) x.start (Fit x) _ (sane x.costs l x.scene bd x.start q.start) reaches.way (resting p)
              reaches.leg);
        }

        pub told : {K : Type 0} (g : K → V) (ls : List (Label K)) (a : Told K) → a.first ≤ a.end → a.end ≤ length ls
            → Traces N b x.goal m (held ls a.first a.end) → g a.cost ≡ (N x.goal).cost
            → Tells x.costs g x.scene x.start p ls a
        told g ls a i j tr e = tells x.costs l x.scene bd x.start q.start g ls a p reaches.way reaches.leg i j
            (tr.traces reaches.way found_trail) (e ∙ sym reaches.cost)
