-- Taking all motions of a settled state at once, class by class: each is noted at its own cost. A class that comes to more
-- than the goal is known at is left out, with those after it, since they cost no less.
use Rattle.std.proofs.Common.{◌≡◌, ◌≢◌, ◌⊎◌, inl, inr, ◌∙◌, ℕ, ◌+◌, ◌<◌, ◌≤◌, Bool, cond, Some, None, true, false, length, refl, sym, ap, subst, arith}
use Rattle.std.specs.Option.{option_map}
use Rattle.cost.specs.Costs.{CostLaws, Costs}
use Rattle.display.proofs.Places.{number_below}
use Rattle.display.specs.Place.{On, number}
use Rattle.display.specs.Surface.{resting}
use Rattle.display.specs.declared.place.Cursor.{Cursor}
use Rattle.display.specs.declared.place.Place.{Place}
use Rattle.labels.specs.Frontier.{Dearer, DueAt, Frontier, Handled, beyond, known}
use Rattle.labels.specs.Note.{Note, Updated, improved, settled}
use Rattle.labels.specs.declared.label.Stage.TheVariants.{Reached, Settled}
use Rattle.labels.proofs.Beginning.{begun, left_out}
use Rattle.labels.proofs.Improving.{same_or_not}
use Rattle.labels.proofs.Relaxing.{fixed, relaxed, was_settled}
use Rattle.labels.proofs.Turns.{turned}
use Rattle.legs.proofs.Order.{below_at_most, same_at_most}
use Rattle.legs.proofs.Panels.{sane}
use Rattle.legs.specs.Sane.{Sane}
use Rattle.legs.specs.Scene.{lands, numbered, steps}
use Rattle.leg_search.proofs.Classing.{class_price, classes, of_price}
use Rattle.leg_search.specs.AtOnce.{AtOnce, Idle, Least, Marks, NoneDue, Rest, RestIn, nowhere, there}
use Rattle.leg_search.specs.Memory.{Prepared}
use Rattle.leg_search.specs.Run.{Ends, Exceeds, at_once}
use Rattle.leg_search.specs.Take.{After}
use Rattle.leg_search.specs.Task.{Asks, Fit, OfClass, Task, asked, places, price}
use Rattle.leg_search.specs.Turn.{Settles, turned as settled_now, was}
use Rattle.motion_order.specs.InOrder.{offer_at}
use Rattle.panel.specs.Answers.{Bounded}

-- a is at most b, and b below d
at_most_below : {V : Type 0} {c : Costs V} → CostLaws c → (a b d : V) → c.at_most a b ≡ true → c.at_most d b ≡ false
    → c.at_most d a ≡ false
at_most_below {c = c} l a b d h k = by_cases (c.at_most d a) refl
  where
    by_cases : (t : Bool) → c.at_most d a ≡ t → c.at_most d a ≡ false
    by_cases false e = e
    by_cases true e = let f = l.transitive d a b e h in cc

module _ {V : Type 0} (x : Task V) (l : CostLaws x.costs) (bd : Bounded x.scene.answers) (q : Asks x)
    (u : Cursor) (n : ℕ) (v : V) where
  -- the same, but for what is due
  redue : (N : ℕ → Note V) (D D' : ℕ → ℕ → Type 0) → AtOnce x N u n v D
      → Frontier (asked x) x.start (Fit x) N x.goal D' → AtOnce x N u n v D'
  redue N D D' a f = record {
    frontier = f;
    waits = a.waits;
    fit = a.fit;
    is = a.is;
    settled = a.settled;
    cost = a.cost;
  }

  -- what is due may be told otherwise, where it is the same or dealt with
  due_as : (N : ℕ → Note V) (D D' : ℕ → ℕ → Type 0) (a : AtOnce x N u n v D)
      → ((e w : Cursor) (p : ℕ) → Fit x e → steps x.scene p e ≡ Some w → D (numbered x.scene.answers.size e) p
      → D' (numbered x.scene.answers.size e) p
      ⊎ Handled (asked x) N x.goal (numbered x.scene.answers.size w)
      (x.costs.plus (N (numbered x.scene.answers.size e)).cost ((asked x).weight p)) p (numbered x.scene.answers.size e))
      → AtOnce x N u n v D'
  due_as N D D' a but = redue N D D' a (left_out (asked x) x.start (Fit x) _
      (sane x.costs l x.scene bd x.start q.start) N x.goal D D' (λ e w p fe se st due. but e w p fe st due) a.frontier)

  -- the first class is begun
  pub class_begun : (N : ℕ → Note V) (d : ℕ) → AtOnce x N u n v (Rest x n d) → AtOnce x N u n v (RestIn x n d 0)
  class_begun N d a = due_as N _ _ a (λ e w p fe st due. inl (by_class due (same_or_not due.1.0 d)))
    where
      by_class : {b p : ℕ} (due : Rest x n d b p) → (due.1.0 ≡ d) ⊎ (due.1.0 ≢ d) → RestIn x n d 0 b p
      by_class due (inr ne) = inl (due.0, (due.1.0, let w = due.1.1 in omega arith, due.1.2))
      by_class due (inl e) = inr (
        due.0,
        record {
          place = due.1.2.place;
          from = omega arith;
          within = subst (λ (y : ℕ). due.1.2.place < length (x.class y)) e due.1.2.within;
          is = ap (λ (y : ℕ). (offer_at (x.class y) due.1.2.place).motion) (sym e) ∙ due.1.2.is;
        },
      )

  pub class_ended : (N : ℕ → Note V) (d j : ℕ) → length (x.class d) ≤ j → AtOnce x N u n v (RestIn x n d j)
      → AtOnce x N u n v (Rest x n (d + 1))
  class_ended N d j le a = due_as N _ _ a (λ e w p fe st due. inl (by_cases due))
    where
      by_cases : {b p : ℕ} → RestIn x n d j b p → Rest x n (d + 1) b p
      by_cases (inl h) = h
      by_cases (inr h) = absurd (let y = h.1.from in let w = h.1.within in omega arith)

  pub all_ended : (N : ℕ → Note V) (d : ℕ) → x.count ≤ d → AtOnce x N u n v (Rest x n d) → AtOnce x N u n v NoneDue
  all_ended N d le a = due_as N _ _ a (λ e w p fe st due. absurd (
      let y = due.1.1 in let w = due.1.2.below in omega arith))

  -- the class, and so each after it, comes to more than the goal is known at
  module _ (N : ℕ → Note V) (d : ℕ) (a : AtOnce x N u n v (Rest x n d))
      (ex : Exceeds x.costs (N x.goal) (x.costs.plus v (price x d))) where
    no_less : (e : Cursor) (p : ℕ) → Rest x n d (numbered x.scene.answers.size e) p
        → x.costs.at_most (x.costs.plus v (price x d))
        (x.costs.plus (N (numbered x.scene.answers.size e)).cost ((asked x).weight p)) ≡ true
    no_less e p due =
        let c : (N (numbered x.scene.answers.size e)).cost ≡ v = ap (λ (i : ℕ). (N i).cost) due.0 ∙ a.cost in
        subst (λ (y : V). x.costs.at_most (x.costs.plus v (price x d)) (x.costs.plus y ((asked x).weight p)) ≡ true)
        (sym c)
        (subst (λ (y : V). x.costs.at_most (x.costs.plus v (price x d)) (x.costs.plus v y) ≡ true)
        (sym (of_price x q due.1.0 p due.1.2))
        (l.raises_right _ _ v (q.classes.cheapest_first d due.1.0 due.1.1 due.1.2.below)))

    more : (e : Cursor) (p : ℕ) → Rest x n d (numbered x.scene.answers.size e) p
        → x.costs.at_most (x.costs.plus (N (numbered x.scene.answers.size e)).cost ((asked x).weight p))
        (N x.goal).cost ≡ false
    more e p due = below_at_most l _ _ _ ex.more (no_less e p due)

    dealt : (e w : Cursor) (p : ℕ) → Rest x n d (numbered x.scene.answers.size e) p
        → (numbered x.scene.answers.size w ≡ x.goal) ⊎ (numbered x.scene.answers.size w ≢ x.goal)
        → Handled (asked x) N x.goal (numbered x.scene.answers.size w)
        (x.costs.plus (N (numbered x.scene.answers.size e)).cost ((asked x).weight p)) p
        (numbered x.scene.answers.size e)
    dealt e w p due (inl o) = subst (λ (i : ℕ). Handled (asked x) N x.goal i
        (x.costs.plus (N (numbered x.scene.answers.size e)).cost ((asked x).weight p)) p
        (numbered x.scene.answers.size e)) (sym o)
        (known (record {
          reached = ex.reached;
          cost = l.total _ _ (more e p due);
          tie = λ h. absurd (let y = more e p due in cc);
        }))
    dealt e w p due (inr o) = beyond (record {
      apart = o;
      reached = ex.reached;
      below = l.total _ _ (more e p due);
    })

    pub rest_beyond : AtOnce x N u n v NoneDue
    rest_beyond = due_as N _ _ a (λ e w p fe st due. inr (dealt e w p due
        (same_or_not (numbered x.scene.answers.size w) x.goal)))

  -- one motion of a class
  module _ (N M : ℕ → Note V) (d j : ℕ) (lt : d < x.count) (in_class : j < length (x.class d))
      (a : AtOnce x N u n v (RestIn x n d j)) where
    abbrev motion : ℕ
    motion = (offer_at (x.class d) j).motion

    one_less : (b p : ℕ) → RestIn x n d j b p → RestIn x n d (j + 1) b p ⊎ ((b ≡ n) × (p ≡ motion))
    one_less b p (inl h) = inl (inl h)
    one_less b p (inr h) = by_cases (same_or_not h.1.place j)
      where
        by_cases : (h.1.place ≡ j) ⊎ (h.1.place ≢ j) → RestIn x n d (j + 1) b p ⊎ ((b ≡ n) × (p ≡ motion))
        by_cases (inl e) = inr (h.0, sym (ap (λ (i : ℕ). (offer_at (x.class d) i).motion) (sym e) ∙ h.1.is))
        by_cases (inr e) = inl (inr (
          h.0,
          record {
            place = h.1.place;
            from = let w = h.1.from in omega arith;
            within = h.1.within;
            is = h.1.is;
          },
        ))

    same : (e : Cursor) → Fit x e → numbered x.scene.answers.size e ≡ n → e ≡ u
    same e f h = (sane x.costs l x.scene bd x.start q.start).apart e u f a.fit (h ∙ a.is)

    settled_here : (N (numbered x.scene.answers.size u)).stage ≡ Settled
    settled_here = subst (λ (i : ℕ). (N i).stage ≡ Settled) a.is a.settled

    -- it is not offered
    absent : lands x.scene motion u ≡ None → AtOnce x N u n v (RestIn x n d (j + 1))
    absent none = due_as N _ _ a (λ e w p fe st due. inl (left e w p fe st (one_less _ p due)))
      where
        left : (e w : Cursor) (p : ℕ) → Fit x e → steps x.scene p e ≡ Some w
            → RestIn x n d (j + 1) (numbered x.scene.answers.size e) p
            ⊎ ((numbered x.scene.answers.size e ≡ n) × (p ≡ motion))
            → RestIn x n d (j + 1) (numbered x.scene.answers.size e) p
        left e w p fe st (inl h) = h
        left e w p fe st (inr h) = absurd (
            let z : Some w ≡ None = sym st ∙ (ap (λ (y : ℕ). steps x.scene y e) h.1
            ∙ (ap (λ (y : Cursor). steps x.scene motion y) (same e fe h.0) ∙ ap (option_map resting) none)) in cc)

    -- note is taken of it
    module _ (p : Place) (there : lands x.scene motion u ≡ Some p)
        (up : Updated N M (number x.scene.answers.size p)
        (improved x.costs (N (number x.scene.answers.size p)) (x.costs.plus v (price x d)) motion n)) where
      cost_here : x.costs.plus (N (numbered x.scene.answers.size u)).cost ((asked x).weight motion)
          ≡ x.costs.plus v (price x d)
      cost_here = ap (λ (i : ℕ). x.costs.plus (N i).cost ((asked x).weight motion)) (sym a.is)
          ∙ (ap (λ (y : V). x.costs.plus y ((asked x).weight motion)) a.cost
          ∙ ap (x.costs.plus v) (class_price x q d j lt in_class))

      update : Updated N M (number x.scene.answers.size p) (improved x.costs (N (number x.scene.answers.size p))
          (x.costs.plus (N (numbered x.scene.answers.size u)).cost ((asked x).weight motion)) motion
          (numbered x.scene.answers.size u))
      update = subst (λ (y : V). Updated N M (number x.scene.answers.size p)
          (improved x.costs (N (number x.scene.answers.size p)) y motion (numbered x.scene.answers.size u)))
          (sym cost_here)
          (subst (λ (i : ℕ). Updated N M (number x.scene.answers.size p)
          (improved x.costs (N (number x.scene.answers.size p)) (x.costs.plus v (price x d)) motion i)) a.is up)

      motion_there : steps x.scene motion u ≡ Some (resting p)
      motion_there = ap (option_map resting) there

      still : M n ≡ N n
      still = (fixed (asked x) x.start (Fit x) _ (sane x.costs l x.scene bd x.start q.start) N M x.goal u (resting p)
          a.fit settled_here motion motion_there update).at n a.settled

      marked : AtOnce x M u n v (RestIn x n d (j + 1))
      marked = record {
        frontier = relaxed (asked x) x.start (Fit x) _ (sane x.costs l x.scene bd x.start q.start) N M x.goal u
            (resting p) a.fit settled_here motion motion_there update (RestIn x n d j) (RestIn x n d (j + 1))
            (λ b r h. by_cases b r (one_less b r h)) a.frontier;
        waits = λ h. a.waits (was_settled (asked x) x.start (Fit x) _ (sane x.costs l x.scene bd x.start q.start) N M
            x.goal u (resting p) a.fit settled_here motion motion_there update x.goal h);
        fit = a.fit;
        is = a.is;
        settled = ap (λ (y : Note V). y.stage) still ∙ a.settled;
        cost = ap (λ (y : Note V). y.cost) still ∙ a.cost;
      }
        where
          by_cases : (b r : ℕ) → RestIn x n d (j + 1) b r ⊎ ((b ≡ n) × (r ≡ motion))
              → RestIn x n d (j + 1) b r ⊎ ((b ≡ numbered x.scene.answers.size u) × (r ≡ motion))
          by_cases b r (inl h) = inl h
          by_cases b r (inr h) = inr (h.0 ∙ a.is, h.1)

    pub one_marked : Marks x N M (x.costs.plus v (price x d)) u n motion → AtOnce x M u n v (RestIn x n d (j + 1))
    one_marked (nowhere none e) = subst (λ (z : ℕ → Note V). AtOnce x z u n v (RestIn x n d (j + 1))) (sym e)
        (absent none)
    one_marked (there p la up) = marked p la up

module _ {V : Type 0} (x : Task V) (l : CostLaws x.costs) (bd : Bounded x.scene.answers) (q : Asks x) where
  -- at the beginning all motions of the start are due
  pub begun_at_once : (N : ℕ → Note V) (n : ℕ) → n ≡ numbered x.scene.answers.size x.start → n ≢ x.goal
      → Prepared x.costs N n → AtOnce x N x.start n x.costs.zero (Rest x n 0)
  begun_at_once N n is apart p = record {
    frontier = left_out (asked x) x.start (Fit x) _ sn N x.goal (DueAt (numbered x.scene.answers.size x.start))
        (Rest x n 0)
        (λ d u r fd se st due. inl (
          due ∙ sym is,
          let o = (classes x q bd).classed d u r fd st in (o.class, omega arith, o.is_of),
        ))
        (begun (asked x) x.start (Fit x) _ sn N x.goal
        (subst (λ (i : ℕ). (N i).stage ≡ Settled) is p.settled) (subst (λ (i : ℕ). (N i).cost ≡ x.costs.zero) is p.cost)
        (λ u fu ne. p.others (numbered x.scene.answers.size u) (λ e. ne (e ∙ is))));
    waits = λ h. absurd (let o = p.others x.goal (λ e. apart (sym e)) in cc);
    fit = record { on = q.start; free = inr refl };
    is = is;
    settled = p.settled;
    cost = p.cost;
  }
    where
      sn : Sane (asked x) x.start (Fit x) (places x)
      sn = sane x.costs l x.scene bd x.start q.start

  module _ (N : ℕ → Note V) (i : Idle x N) where
    -- a reached state is a place
    reached_below : (u : Cursor) → Fit x u → (N (numbered x.scene.answers.size u)).stage ≡ Reached
        → numbered x.scene.answers.size u < places x
    reached_below u fu h = by_cases u.held refl fu.free
      where
        at_place : u.held ≡ false → numbered x.scene.answers.size u < places x
        at_place e = subst (λ (a : ℕ). a < places x)
            (sym (ap (λ (b : Bool). cond b (places x) (number x.scene.answers.size u.place)) e))
            (number_below x.scene.answers.size u.place fu.on)

        by_cases : (b : Bool) → u.held ≡ b → (u.held ≡ false) ⊎ (u ≡ x.start)
            → numbered x.scene.answers.size u < places x
        by_cases false e z = at_place e
        by_cases true e (inl z) = at_place z
        by_cases true e (inr z) = absurd (
            let a = ap (λ (y : Cursor). (N (numbered x.scene.answers.size y)).stage) z in
            let b = i.frontier.root in cc)

    -- all that the reached states lead to comes to more than a cost that is at most theirs
    dearer_than : (v : V) → ((j : ℕ) → j < places x → (N j).stage ≡ Reached → x.costs.at_most v (N j).cost ≡ true)
        → Dearer (asked x) x.start (Fit x) N NoneDue v
    dearer_than v least = record {
      due = λ d u p fd se st h. absurd h;
      waiting = λ d u p fd r st. at_most_below l v (N (numbered x.scene.answers.size d)).cost _
          (least (numbered x.scene.answers.size d) (reached_below d fd r) r)
          ((sane x.costs l x.scene bd x.start q.start).adds p d u fd st (N (numbered x.scene.answers.size d)).cost);
    }

    -- the goal is reached, and no reached state costs less
    pub ends_at_goal : (n : ℕ) → Least x.costs N (places x) n → (N x.goal).stage ≡ Reached
        → x.costs.at_most (N x.goal).cost (N n).cost ≡ true → Ends x N
    ends_at_goal n least h le = at_once (record {
      frontier = i.frontier;
      waits = i.waits;
      dearer = λ e. dearer_than (N x.goal).cost (λ j lt r. l.transitive _ _ _ le (least.least j lt r));
      empty = λ ne. absurd (ne h);
      over = λ ne. absurd (ne h);
    })

    -- no state is reached
    pub ends_empty : ((j : ℕ) → j < places x → (N j).stage ≡ Reached → ⊥) → Ends x N
    ends_empty none = at_once (record {
      frontier = i.frontier;
      waits = i.waits;
      dearer = λ h. absurd (none x.goal q.goal h);
      empty = λ ne u fu h. none (numbered x.scene.answers.size u) (reached_below u fu h) h;
      over = λ ne d u p fd st h. h;
    })

    -- the cheapest is settled, and its motions are due
    module _ (p : Place) (on : On x.scene.answers.size p)
        (least : Least x.costs N (places x) (number x.scene.answers.size p))
        (ahead : (N x.goal).stage ≡ Reached
        → x.costs.at_most (N x.goal).cost (N (number x.scene.answers.size p)).cost ≡ false)
        (M : ℕ → Note V) where
      here : Fit x (resting p)
      here = record { on = on; free = inl refl }

      not_goal : x.goal ≢ number x.scene.answers.size p
      not_goal e = absurd (
          let r : (N x.goal).stage ≡ Reached = ap (λ (a : ℕ). (N a).stage) e ∙ least.reached in
          let f = ahead r in
          let s = subst (λ (a : ℕ). x.costs.at_most (N x.goal).cost (N a).cost ≡ true) e
          (same_at_most l (N x.goal).cost) in cc)

      begun_there : (n : ℕ) → n ≡ number x.scene.answers.size p → (v : V) → v ≡ (N n).cost
          → Updated N M (number x.scene.answers.size p) (settled (N (number x.scene.answers.size p)))
          → AtOnce x M (resting p) n v (Rest x n 0)
      begun_there n is v cost up = record {
        frontier = turned (asked x) x.start (Fit x) _ (sane x.costs l x.scene bd x.start q.start) N M x.goal NoneDue
            (Rest x n 0) i.frontier (resting p) here least.reached
            (dearer_than (N (number x.scene.answers.size p)).cost least.least) ahead (λ j r h. absurd h)
            (λ u r st. (sym is, let o = (classes x q bd).classed (resting p) u r here st in (o.class, omega arith, o.is_of)))
            up not_goal;
        waits = λ h. i.waits (ap (λ (a : Note V). a.stage) (sym (up.there x.goal not_goal)) ∙ h);
        fit = here;
        is = is;
        settled = ap (λ (a : ℕ). (M a).stage) is ∙ ap (λ (a : Note V). a.stage) up.here;
        cost = ap (λ (a : ℕ). (M a).cost) is ∙ (ap (λ (a : Note V). a.cost) up.here
            ∙ (ap (λ (a : ℕ). (N a).cost) (sym is) ∙ sym cost));
      }

      pub turned_at_once : (n : ℕ) → n ≡ number x.scene.answers.size p → (v : V) → v ≡ (N n).cost → Settles N M n
          → AtOnce x M (resting p) n v (Rest x n 0)
      turned_at_once n is v cost (settled_now r up) = begun_there n is v cost
          (subst (λ (a : ℕ). Updated N M a (settled (N a))) is up)
      turned_at_once n is v cost (was ne e) = absurd (ne (ap (λ (a : ℕ). (N a).stage) is ∙ least.reached))
