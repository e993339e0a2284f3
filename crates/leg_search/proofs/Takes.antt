-- What becomes of a motion that is taken, told by the code: the motions that are left are one less.
use Rattle.std.proofs.Common.{◌≡◌, ◌∙◌, ℕ, ◌+◌, ◌<◌, ◌≤◌, Some, true, false, length, refl, sym, ap, subst, arith}
use Rattle.cost.specs.Costs.{CostLaws}
use Rattle.display.specs.Place.{number}
use Rattle.display.specs.declared.place.Cursor.{Cursor}
use Rattle.display.specs.declared.place.Place.{Place}
use Rattle.labels.specs.Note.{Note, Updated, improved}
use Rattle.legs.specs.Scene.{lands, numbered}
use Rattle.leg_search.proofs.Growing.{new_grown, taken_new}
use Rattle.leg_search.proofs.Noting.{noted_grown, taken_noted}
use Rattle.leg_search.proofs.Taking.{taken_all, taken_late, taken_nowhere, taken_past}
use Rattle.leg_search.specs.Noting.{Grown, Noted, Took, known, late, new, nowhere, past, there}
use Rattle.leg_search.specs.Reach.{Reach}
use Rattle.leg_search.specs.Take.{InTurn, Takes, Taking}
use Rattle.leg_search.specs.Task.{Asks, Task}
use Rattle.motion_order.specs.InOrder.{offer_at}
use Rattle.panel.specs.Answers.{Bounded}

module _ {V : Type 0} where
  pub grown_same : (r : Reach V) → Grown r r
  grown_same r = record { end = omega arith; line = λ i h. refl; cost = λ i h. refl }

  pub grown_more : (r s t : Reach V) → Grown r s → Grown s t → Grown r t
  grown_more r s t a b = record {
    end = let x = a.end in let y = b.end in omega arith;
    line = λ i h. b.line i (let x = a.end in omega arith) ∙ a.line i h;
    cost = λ i h. b.cost i (let x = a.end in omega arith) ∙ a.cost i h;
  }

module _ {V : Type 0} (x : Task V) (l : CostLaws x.costs) (bd : Bounded x.scene.answers) (q : Asks x)
    (r0 : Reach V) (d : ℕ) (v : V) (u : Cursor) where
  -- the line has grown
  record After (r s : Reach V) (j : ℕ) (b i : ℕ) : Type 0 where
    taking : Taking x s b d j i v u
    grown : Grown r s

  onward : (r s : Reach V) (j k b i : ℕ) → Takes x r0 r d j v u → After r s k b i → Takes x r0 s d k v u
  onward r s j k b i t a = record {
    settled = b;
    place = i;
    taking = a.taking;
    grown = grown_more r0 r s t.grown a.grown;
  }

  module _ (r : Reach V) (j : ℕ) (t : Takes x r0 r d j v u) where
    -- nothing is left of the class
    pub takes_all : length (x.class d) ≤ j → InTurn x r v
    takes_all le = record {
      settled = t.settled;
      stands = taken_all x l bd q r t.settled d t.place v u j t.taking le;
      at = t.taking.at;
    }

    module _ (lt : j < length (x.class d)) (n p : ℕ) (from : n ≡ numbered x.scene.answers.size u)
        (is : p ≡ (offer_at (x.class d) j).motion) where
      same : (s : Reach V) → s ≡ r → Taking x r t.settled d (j + 1) t.place v u → After r s (j + 1) t.settled t.place
      same s e k = subst (λ (z : Reach V). After r z (j + 1) t.settled t.place) (sym e)
          (record { taking = k; grown = grown_same r })

      here : n ≡ r.line t.place
      here = from ∙ sym t.taking.is

      made : (a : ℕ) (M : ℕ → Note V) → Updated r.notes M a (improved x.costs (r.notes a) v p n)
          → Updated r.notes M a (improved x.costs (r.notes a) v (offer_at (x.class d) j).motion (r.line t.place))
      made a M up = subst (λ (y : ℕ). Updated r.notes M a (improved x.costs (r.notes a) v y (r.line t.place))) is
          (subst (λ (y : ℕ). Updated r.notes M a (improved x.costs (r.notes a) v p y)) here up)

      noted : (s : Reach V) (a : Place) → lands x.scene (offer_at (x.class d) j).motion u ≡ Some a
          → Noted x.costs x.goal r s v p n (number x.scene.answers.size a) → After r s (j + 1) t.settled t.place
      noted s a la (known old M up e) =
          let up2 = made _ M up in
          subst (λ (z : Reach V). After r z (j + 1) t.settled t.place) (sym e) (record {
            taking = taken_noted x l bd q r t.settled d t.place v u j t.taking lt a la M up2 old;
            grown = noted_grown x l bd q r t.settled d t.place v u j t.taking lt a la M up2 old;
          })
      noted s a la (new fresh ne not_yet M up m ap2 e) =
          let up2 = made _ M up in
          let z_is : s ≡ record { notes = M; line = m.line; end = r.end + 1; next = r.next } =
          e ∙ (ap (λ (y : ℕ). let z : Reach V = record { notes = M; line = m.line; end = y; next = m.next } in z) ap2.end
          ∙ ap (λ (y : ℕ → ℕ). let z : Reach V = record { notes = M; line = m.line; end = r.end + 1; next = y } in z)
          ap2.next) in
          subst (λ (z : Reach V). After r z (j + 1) t.settled t.place) (sym z_is) (record {
            taking = taken_new x l bd q r t.settled d t.place v u j t.taking lt a la M up2 fresh ne not_yet m.line
                ap2.at_end ap2.elsewhere;
            grown = new_grown x l bd q r t.settled d t.place v u j t.taking lt a la M up2 fresh ne not_yet m.line
                ap2.at_end ap2.elsewhere;
          })

      -- one less is left
      pub takes_on : (s : Reach V) → Took x r s v u n p false → Takes x r0 s d (j + 1) v u
      takes_on s (late e h i) = absurd cc
      takes_on s (nowhere e la i) = onward r s j (j + 1) t.settled t.place t (same s i
          (taken_nowhere x l bd q r t.settled d t.place v u j t.taking lt
          (ap (λ (y : ℕ). lands x.scene y u) (sym is) ∙ la)))
      takes_on s (past e a la ne h i) = onward r s j (j + 1) t.settled t.place t (same s i
          (taken_past x l bd q r t.settled d t.place v u j t.taking lt a
          (ap (λ (y : ℕ). lands x.scene y u) (sym is) ∙ la) ne h))
      takes_on s (there e a la h) = onward r s j (j + 1) t.settled t.place t
          (noted s a (ap (λ (y : ℕ). lands x.scene y u) (sym is) ∙ la) h)

      -- the goal is reached by an earlier motion
      pub takes_last : (s : Reach V) → Took x r s v u n p true → InTurn x s v × Grown r0 s
      takes_last s (nowhere e la i) = absurd cc
      takes_last s (past e a la ne h i) = absurd cc
      takes_last s (there e a la h) = absurd cc
      takes_last s (late e h i) = subst (λ (z : Reach V). InTurn x z v × Grown r0 z) (sym i) (
        record {
          settled = t.settled;
          stands = taken_late x l bd q r t.settled d t.place v u j t.taking lt h.reached
              (subst (λ (y : ℕ). (r.notes x.goal).motion < y) is h.earlier);
          at = t.taking.at;
        },
        t.grown,
      )
