-- The turns of a search, one after another: how they begin, what each leaves, and how they end.
use Rattle.std.proofs.Common.{◌⊎◌, inl, inr, ◌≡◌, ◌≢◌, ◌∙◌, ℕ, ◌+◌, ◌<◌, ◌≤◌, Bool, true, false, length, min, nat_lt, Some, refl, sym, ap, subst, arith}
use Rattle.std.proofs.lemmas.Bool.Decides.{nat_tests}
use Rattle.cost.specs.Costs.{CostLaws, FewLaws}
use Rattle.due_queue.proofs.Queues.{ready_again, ready_new}
use Rattle.due_queue.specs.Queue.{Answered, Fresh, Places, Ready}
use Rattle.labels.specs.Note.{Note}
use Rattle.labels.specs.declared.label.Stage.TheVariants.{Reached}
use Rattle.display.specs.declared.place.Cursor.{Cursor}
use Rattle.labels.specs.Frontier.{Dearer}
use Rattle.labels.proofs.Improving.{same_or_not}
use Rattle.labels.proofs.Lines.{all_dearer}
use Rattle.legs.proofs.Order.{below_at_most, same_at_most}
use Rattle.legs.proofs.Panels.{sane}
use Rattle.legs.specs.Scene.{numbered}
use Rattle.leg_search.proofs.Searches.{searching_first}
use Rattle.leg_search.proofs.Standing.{few_in_line, line_below, sums}
use Rattle.leg_search.proofs.Turning.{turn_of}
use Rattle.leg_search.specs.Due.{DueOf, First, Reckons, sooner_of}
use Rattle.leg_search.specs.Memory.{Prepared}
use Rattle.leg_search.specs.Noting.{Appends}
use Rattle.leg_search.proofs.Classing.{classes}
use Rattle.leg_search.specs.Reach.{DueIn, Reach, Searching, due_at}
use Rattle.leg_search.specs.Run.{Ends, Exceeds, Queued, by_class}
use Rattle.leg_search.specs.Take.{InTurn}
use Rattle.leg_search.specs.Task.{Asks, Fit, OfClass, Task, asked, places, price}
use Rattle.leg_search.specs.Turn.{Turned}
use Rattle.leg_search.specs.declared.due.Due.{Due}
use Rattle.panel.specs.Answers.{Bounded}

module _ {V : Type 0} (x : Task V) (l : CostLaws x.costs) (bd : Bounded x.scene.answers) (q : Asks x) where
  -- the state at which the search begins comes to stand in the line
  pub searching_begun : (r s : Reach V) (n : ℕ) → Appends r s n → r.end ≡ 0 → ((d : ℕ) → r.next d ≡ 0)
      → n ≡ numbered x.scene.answers.size x.start → n ≢ x.goal → Prepared x.costs r.notes n → Searching x s
  searching_begun r s n a none none_taken is ne p =
      subst (λ (e : ℕ). Searching x (record { notes = s.notes; line = s.line; end = e; next = s.next }))
      (let e : 1 ≡ s.end = let z = a.end in omega arith in e)
      (searching_first x l bd q s.notes s.line s.next
      (subst (λ (N : ℕ → Note V). Prepared x.costs N (numbered x.scene.answers.size x.start)) (sym a.notes)
      (subst (λ (i : ℕ). Prepared x.costs r.notes i) is p))
      (λ e. ne (is ∙ e))
      (ap s.line (sym none) ∙ (a.at_end ∙ is))
      (λ d. ap (λ (f : ℕ → ℕ). f d) a.next ∙ none_taken d))

  -- no class has been asked for
  pub queued_fresh : (r : Reach V) (p : Places) → Fresh x.count p → r.end ≡ 1 → Queued x r p (nat_lt 0 r.end)
  queued_fresh r p f e = record {
    classes = f.size ∙ (let h = q.classes.few in let m : min x.count 4097 ≡ x.count = omega arith in m);
    ready = subst (λ (n : ℕ). Ready (DueOf x r) (sooner_of x r) p (nat_lt 0 n)) (sym e)
        (ready_new (DueOf x r) (sooner_of x r) p x.count f);
  }

  pub reckons : (F : ℕ → V → Type 0) → FewLaws x.costs F → (m : ℕ) → m ≡ places x + 1 → (r : Reach V) → Searching x r
      → Reckons F m x r
  reckons F fl m e r s = record {
    few = q.classes.few;
    labelled = let a = few_in_line x q r s.settled _ s.stands in omega arith;
    states = λ i h. let a = line_below x q r s.settled _ s.stands i h in omega arith;
    sums = sums x q r s.settled _ s.stands l bd F fl;
  }

  module _ (r : Reach V) (s : Searching x r) where
    -- where all that is due comes to more than a cost that is at most the goal's
    dearer_than : (v : V) → ((d : ℕ) → d < x.count → r.next d < r.end → x.costs.at_most (due_at x r d) v ≡ false)
        → ((r.notes x.goal).stage ≡ Reached → x.costs.at_most v (r.notes x.goal).cost ≡ true)
        → Dearer (asked x) x.start (Fit x) r.notes (DueIn x r) v
    dearer_than v more goal = all_dearer (asked x) x.start (Fit x) _ (sane x.costs l x.scene bd x.start q.start) x.count
        (OfClass x) (price x) (classes x q bd) r.notes r.line r.end s.settled x.goal s.stands.line r.next s.stands.early v
        (record { more = more }) goal

    -- nothing is due
    module _ (none : (d : ℕ) → d < x.count → r.end ≤ r.next d) where
      all_in : r.end ≤ s.settled
      all_in =
          let a = q.classes.all x.scene.answers.motions (omega arith) in
          let b = none a.0 a.1 in
          let w = s.stands.early.early a.0 a.1 in omega arith

      none_reached : (r.notes x.goal).stage ≢ Reached → (u : Cursor) → Fit x u
          → (r.notes (numbered x.scene.answers.size u)).stage ≡ Reached → ⊥
      none_reached ne u fu e = by_cases (same_or_not (numbered x.scene.answers.size u) x.goal)
        where
          by_cases : (numbered x.scene.answers.size u ≡ x.goal) ⊎ (numbered x.scene.answers.size u ≢ x.goal) → ⊥
          by_cases (inl o) = ne (ap (λ (a : ℕ). (r.notes a).stage) (sym o) ∙ e)
          by_cases (inr o) =
              let w = s.stands.line.of_reached (numbered x.scene.answers.size u) e o in
              let a = w.from in let z = w.below in let y = all_in in omega arith

      pub ends_over : Ends x r.notes
      ends_over = by_class r (record {
        frontier = s.stands.frontier;
        waits = s.stands.waits;
        dearer = λ h. dearer_than (r.notes x.goal).cost (λ d lt w. absurd (let a = none d lt in omega arith))
            (λ e. same_at_most l (r.notes x.goal).cost);
        empty = none_reached;
        over = λ ne d u p fd st due. let a = none due.class due.is_of.below in let w = due.within in
            let f = due.from in omega arith;
      })

    module _ {K : Type 0} (f : K → V) (due : Due K) (first : First f x r due) where
      -- what is due comes to more than the goal is known to cost
      pub ends_beyond : Exceeds x.costs (r.notes x.goal) (f due.cost) → Ends x r.notes
      ends_beyond e = by_class r (record {
        frontier = s.stands.frontier;
        waits = s.stands.waits;
        dearer = λ h. dearer_than (r.notes x.goal).cost
            (λ d lt w. below_at_most l (r.notes x.goal).cost (due_at x r due.class) (due_at x r d)
            (subst (λ (v : V). x.costs.at_most v (r.notes x.goal).cost ≡ false) first.cost e.more)
            (first.least d lt w))
            (λ e2. same_at_most l (r.notes x.goal).cost);
        empty = λ ne. absurd (ne e.reached);
        over = λ ne. absurd (ne e.reached);
      })

      pub in_turn : (Exceeds x.costs (r.notes x.goal) (f due.cost) → ⊥) → InTurn x r (f due.cost)
      in_turn ne = subst (λ (v : V). InTurn x r v) (sym first.cost) (record {
        settled = s.settled;
        stands = s.stands;
        at = record {
          late = turn_of x l r s due.class first.below first.within first.least;
          goal = λ h. by_cases h _ refl;
        };
      })
        where
          by_cases : (r.notes x.goal).stage ≡ Reached → (b : Bool)
              → x.costs.at_most (due_at x r due.class) (r.notes x.goal).cost ≡ b
              → x.costs.at_most (due_at x r due.class) (r.notes x.goal).cost ≡ true
          by_cases h true e = e
          by_cases h false e = absurd (ne (record {
            reached = h;
            more = subst (λ (v : V). x.costs.at_most v (r.notes x.goal).cost ≡ false) (sym first.cost) e;
          }))

  -- a turn goes on to the next
  module _ (r s : Reach V) (v : V) (d : ℕ) (t : Turned x r s v d) where
    pub searching_on : Searching x s
    searching_on = record {
      settled = t.in_turn.settled;
      stands = t.in_turn.stands;
      cost = v;
      late = t.in_turn.at.late;
    }

    same_due : (c : ℕ) → c ≢ d → r.next c < r.end → due_at x s c ≡ due_at x r c
    same_due c ne h = ap (λ (i : ℕ). x.costs.plus (s.notes (s.line i)).cost (price x c)) (t.others c ne)
        ∙ ap (λ (y : V). x.costs.plus y (price x c)) (t.grown.cost (r.next c) h)

    pub queued_on : (p : Places) → length p.numbers ≡ x.count
        → Answered (DueOf x r) (sooner_of x r) p (Some d) → Queued x s p (nat_lt r.end s.end)
    queued_on p n a = record {
      classes = n;
      ready = ready_again (DueOf x r) (sooner_of x r) (DueOf x s) (sooner_of x s) p d (nat_lt r.end s.end) a (record {
        still_due = λ y lt ne h. (h.0, let w = h.1 in let e = t.others y ne in let g = t.grown.end in omega arith);
        order = λ y z lt lt2 ne ne2 h k.
            ap (λ (w : V). x.costs.at_most w (due_at x s z)) (same_due y ne h.1)
            ∙ ap (x.costs.at_most (due_at x r y)) (same_due z ne2 k.1);
        none_new = λ g y lt ne h. (h.0, let w = h.1 in let e = t.others y ne in let o = no_longer g in omega arith);
      });
    }
      where
        no_longer : nat_lt r.end s.end ≡ false → s.end ≤ r.end
        no_longer e = grind (arith, nat_tests)
