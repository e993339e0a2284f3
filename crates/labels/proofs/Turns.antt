-- Settling a reached state keeps what holds of the frontier, where all that is due and all that the reached states lead
-- to comes to more; its motions are then due too.
use Rattle.std.proofs.Common.{◌≡◌, ◌≢◌, ◌⊎◌, inl, inr, ◌∙◌, ℕ, true, false, Some, sym, ap, subst}
use Rattle.legs.specs.Graph.{Graph, Leads}
use Rattle.legs.specs.Sane.{Sane}
use Rattle.legs.specs.Sequence.{Sequence}
use Rattle.legs.proofs.Unique.{least_of_leg}
use Rattle.labels.specs.Frontier.{Dearer, Frontier, Handled, Known, Labelled, Traced, beyond, done, known}
use Rattle.labels.specs.Note.{Note, Updated, settled}
use Rattle.labels.specs.declared.label.Stage.TheVariants.{Reached, Settled}
use Rattle.labels.proofs.Improving.{same_or_not}
use Rattle.labels.proofs.Kept.{Fixed, still_labelled, still_settled, still_traced}
use Rattle.labels.proofs.Settling.{way, way_leg, way_spent}

module _ {A V : Type 0} (g : Graph A V) (k : A) (ok : A → Type 0) (m : ℕ) (s : Sane g k ok m)
    (N N' : ℕ → Note V) (t : ℕ) (D D' : ℕ → ℕ → Type 0) (f : Frontier g k ok N t D)
    (u : A) (o : ok u) (r : (N (g.number u)).stage ≡ Reached)
    (later : Dearer g k ok N D (N (g.number u)).cost)
    (ahead : (N t).stage ≡ Reached → g.costs.at_most (N t).cost (N (g.number u)).cost ≡ false)
    (still : (j p : ℕ) → D j p → D' j p) (fresh : (x : A) (p : ℕ) → g.step p u ≡ Some x → D' (g.number u) p)
    (up : Updated N N' (g.number u) (settled (N (g.number u)))) where
  pub fixed : Fixed N N'
  fixed = record { at = λ j h. up.there j (λ e. let i = ap (λ (x : ℕ). (N x).stage) e in absurd cc) }

  here_settled : (N' (g.number u)).stage ≡ Settled
  here_settled = ap (λ (x : Note V). x.stage) up.here

  here_traced : Traced g k ok N' u
  here_traced =
      let l = f.labelled u o r in
      let w = f.traced l.state l.is_ok l.settled in
      let same : N' (g.number u) ≡ settled (N (g.number u)) = up.here in
      record {
        way = way g k ok m s N t D f u o r later (inr ahead);
        leg = way_leg g k ok m s N t D f u o r later (inr ahead);
        cost = way_spent g k ok m s N t D f u o r later (inr ahead) ∙ ap (λ (x : Note V). x.cost) (sym same);
        back = λ x n e. record {
          motion = ap (λ (x : Note V). x.motion) same ∙ cc;
          state = l.state;
          leads = subst (λ (y : Sequence). Leads g k y l.state) (let i : w.way ≡ x = cc in i)
              (least_of_leg g k ok m s w.way l.state w.leg).leads;
          from = ap (λ (x : Note V). x.from) same ∙ l.from;
          settled = still_settled g k ok N N' fixed (g.number l.state) l.settled;
        };
      }

  still_handled : t ≢ g.number u → (j : ℕ) (v : V) (n q : ℕ) → Handled g N t j v n q → Handled g N' t j v n q
  still_handled a j v n q (done h) = done (still_settled g k ok N N' fixed j h)
  still_handled a j v n q (known h) = by_cases (same_or_not j (g.number u))
    where
      by_cases : (j ≡ g.number u) ⊎ (j ≢ g.number u) → Handled g N' t j v n q
      by_cases (inl e) = done (ap (λ (x : ℕ). (N' x).stage) e ∙ here_settled)
      by_cases (inr e) = known (subst (λ (x : Note V). Known g x v n q) (sym (up.there j e)) h)
  still_handled a j v n q (beyond h) = beyond (record {
    apart = h.apart;
    reached = ap (λ (x : Note V). x.stage) (up.there t a) ∙ h.reached;
    below = subst (λ (x : Note V). g.costs.at_most x.cost v ≡ true) (sym (up.there t a)) h.below;
  })

  was_settled : (d : A) → g.number d ≢ g.number u → (N' (g.number d)).stage ≡ Settled → (N (g.number d)).stage ≡ Settled
  was_settled d a h = ap (λ (x : Note V). x.stage) (sym (up.there (g.number d) a)) ∙ h

  pub turned : t ≢ g.number u → Frontier g k ok N' t D'
  turned a = record {
    root = still_settled g k ok N N' fixed (g.number k) f.root;
    traced = λ x ox h. traced_at x ox h (same_or_not (g.number x) (g.number u));
    handled = λ d x n od h e. handled_at d x n od h e (same_or_not (g.number d) (g.number u));
    labelled = λ x ox h. labelled_at x ox h (same_or_not (g.number x) (g.number u));
  }
    where
      traced_at : (x : A) → ok x → (N' (g.number x)).stage ≡ Settled
          → (g.number x ≡ g.number u) ⊎ (g.number x ≢ g.number u) → Traced g k ok N' x
      traced_at x ox h (inl e) = subst (λ (y : A). Traced g k ok N' y) (sym (s.apart x u ox o e)) here_traced
      traced_at x ox h (inr e) =
          let i = was_settled x e h in still_traced g k ok N N' fixed x i (f.traced x ox i)

      moved : (d x : A) (n : ℕ) → (N (g.number d)).stage ≡ Settled
          → Handled g N t (g.number x) (g.costs.plus (N (g.number d)).cost (g.weight n)) n (g.number d)
          ⊎ D (g.number d) n
          → Handled g N' t (g.number x) (g.costs.plus (N' (g.number d)).cost (g.weight n)) n (g.number d)
          ⊎ D' (g.number d) n
      moved d x n i (inl h) = inl (
          subst (λ (y : Note V). Handled g N' t (g.number x) (g.costs.plus y.cost (g.weight n)) n (g.number d))
          (sym (fixed.at (g.number d) i))
          (still_handled a (g.number x) _ n (g.number d) h))
      moved d x n i (inr h) = inr (still (g.number d) n h)

      handled_at : (d x : A) (n : ℕ) → ok d → (N' (g.number d)).stage ≡ Settled → g.step n d ≡ Some x
          → (g.number d ≡ g.number u) ⊎ (g.number d ≢ g.number u)
          → Handled g N' t (g.number x) (g.costs.plus (N' (g.number d)).cost (g.weight n)) n (g.number d)
          ⊎ D' (g.number d) n
      handled_at d x n od h e (inl i) =
          let z = s.apart d u od o i in
          inr (subst (λ (j : ℕ). D' j n) (sym i) (fresh x n (subst (λ (y : A). g.step n y ≡ Some x) z e)))
      handled_at d x n od h e (inr i) =
          let j = was_settled d i h in moved d x n j (f.handled d x n od j e)

      labelled_at : (x : A) → ok x → (N' (g.number x)).stage ≡ Reached
          → (g.number x ≡ g.number u) ⊎ (g.number x ≢ g.number u) → Labelled g k ok N' x
      labelled_at x ox h (inl e) = absurd (let i = ap (λ (j : ℕ). (N' j).stage) e in let j = here_settled in cc)
      labelled_at x ox h (inr e) =
          let i = up.there (g.number x) e in
          still_labelled g k ok N N' fixed x i (f.labelled x ox (ap (λ (y : Note V). y.stage) (sym i) ∙ h))
