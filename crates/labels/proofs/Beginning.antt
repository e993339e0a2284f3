-- At the beginning one state is settled, at no cost, and all its motions are due. What is due and not offered is left out,
-- and so is what is dealt with.
use Rattle.std.proofs.Common.{◌≡◌, ◌≢◌, ◌⊎◌, inl, inr, ℕ, true, Some, refl, sym, ap, subst}
use Rattle.legs.specs.Graph.{Graph, Leads, spent}
use Rattle.legs.specs.Leg.{Leg}
use Rattle.legs.specs.Sane.{Sane}
use Rattle.legs.specs.Sequence.{Sequence, none, then}
use Rattle.legs.proofs.Ends.{above_zero}
use Rattle.legs.proofs.Order.{same_at_most}
use Rattle.labels.specs.Frontier.{DueAt, Frontier, Handled, Traced}
use Rattle.labels.specs.Note.{Note}
use Rattle.labels.specs.declared.label.Stage.TheVariants.{Unreached, Reached, Settled}
use Rattle.labels.proofs.Improving.{same_or_not}

module _ {A V : Type 0} (g : Graph A V) (k : A) (ok : A → Type 0) (m : ℕ) (s : Sane g k ok m) (N : ℕ → Note V) where
  -- the empty sequence is the leg to where it begins
  pub stay : Leg g k none k
  stay = record { leads = refl; least = λ x h. least_at x h }
    where
      least_at : (x : Sequence) → Leads g k x k → g.costs.at_most g.costs.zero (spent g x) ≡ true
      least_at none h = same_at_most s.laws g.costs.zero
      least_at (then x n) h = s.laws.total _ _ (above_zero g k ok m s x n k h)

  pub begun : (t : ℕ) → (N (g.number k)).stage ≡ Settled → (N (g.number k)).cost ≡ g.costs.zero
      → ((x : A) → ok x → g.number x ≢ g.number k → (N (g.number x)).stage ≡ Unreached)
      → Frontier g k ok N t (DueAt (g.number k))
  begun t a b c = record {
    root = a;
    traced = λ x ox h. traced_at x ox h (same_or_not (g.number x) (g.number k));
    handled = λ d x n od h e. inr (only d od h (same_or_not (g.number d) (g.number k)));
    labelled = λ x ox h. absurd (none_reached x ox h (same_or_not (g.number x) (g.number k)));
  }
    where
      only : (d : A) → ok d → (N (g.number d)).stage ≡ Settled → (g.number d ≡ g.number k) ⊎ (g.number d ≢ g.number k)
          → g.number d ≡ g.number k
      only d od h (inl e) = e
      only d od h (inr e) = absurd (let i = c d od e in cc)

      none_reached : (x : A) → ok x → (N (g.number x)).stage ≡ Reached
          → (g.number x ≡ g.number k) ⊎ (g.number x ≢ g.number k) → ⊥
      none_reached x ox h (inl e) = let i = ap (λ (j : ℕ). (N j).stage) e in cc
      none_reached x ox h (inr e) = let i = c x ox e in cc

      root_traced : Traced g k ok N k
      root_traced = record {
        way = none;
        leg = stay;
        cost = sym b;
        back = λ w n e. absurd cc;
      }

      traced_at : (x : A) → ok x → (N (g.number x)).stage ≡ Settled
          → (g.number x ≡ g.number k) ⊎ (g.number x ≢ g.number k) → Traced g k ok N x
      traced_at x ox h (inl e) = subst (λ (y : A). Traced g k ok N y) (sym (s.apart x k ox s.begins e)) root_traced
      traced_at x ox h (inr e) = absurd (let i = c x ox e in cc)

  -- what is due may be left out where it is not offered, or where it is dealt with
  pub left_out : (t : ℕ) (D D' : ℕ → ℕ → Type 0)
      → ((d u : A) (n : ℕ) → ok d → (N (g.number d)).stage ≡ Settled → g.step n d ≡ Some u → D (g.number d) n
      → D' (g.number d) n
      ⊎ Handled g N t (g.number u) (g.costs.plus (N (g.number d)).cost (g.weight n)) n (g.number d))
      → Frontier g k ok N t D → Frontier g k ok N t D'
  left_out t D D' but f = record {
    root = f.root;
    traced = f.traced;
    handled = λ d x n od h e. handled_at d x n od h e (f.handled d x n od h e);
    labelled = f.labelled;
  }
    where
      by_but : (d x : A) (n : ℕ)
          → D' (g.number d) n
          ⊎ Handled g N t (g.number x) (g.costs.plus (N (g.number d)).cost (g.weight n)) n (g.number d)
          → Handled g N t (g.number x) (g.costs.plus (N (g.number d)).cost (g.weight n)) n (g.number d)
          ⊎ D' (g.number d) n
      by_but d x n (inl a) = inr a
      by_but d x n (inr a) = inl a

      handled_at : (d x : A) (n : ℕ) → ok d → (N (g.number d)).stage ≡ Settled → g.step n d ≡ Some x
          → Handled g N t (g.number x) (g.costs.plus (N (g.number d)).cost (g.weight n)) n (g.number d)
          ⊎ D (g.number d) n
          → Handled g N t (g.number x) (g.costs.plus (N (g.number d)).cost (g.weight n)) n (g.number d)
          ⊎ D' (g.number d) n
      handled_at d x n od h e (inl a) = inl a
      handled_at d x n od h e (inr a) = by_but d x n (but d x n od h e a)
