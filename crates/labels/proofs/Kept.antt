-- What stays where the notes of settled states do.
use Rattle.std.proofs.Common.{◌≡◌, ◌∙◌, ℕ, Some, sym, ap, subst}
use Rattle.legs.specs.Graph.{Graph}
use Rattle.labels.specs.Frontier.{Labelled, Traced}
use Rattle.labels.specs.Note.{Note}
use Rattle.labels.specs.declared.label.Stage.TheVariants.{Settled}

-- the notes of settled states stay
pub record Fixed {V : Type 0} (N N' : ℕ → Note V) : Type 0 where
  pub at : (j : ℕ) → (N j).stage ≡ Settled → N' j ≡ N j

module _ {A V : Type 0} (g : Graph A V) (k : A) (ok : A → Type 0) (N N' : ℕ → Note V) (f : Fixed N N') where
  pub still_settled : (j : ℕ) → (N j).stage ≡ Settled → (N' j).stage ≡ Settled
  still_settled j h = ap (λ (x : Note V). x.stage) (f.at j h) ∙ h

  pub still_traced : (u : A) → (N (g.number u)).stage ≡ Settled → Traced g k ok N u → Traced g k ok N' u
  still_traced u h t = let e = f.at (g.number u) h in record {
    way = t.way;
    leg = t.leg;
    cost = t.cost ∙ ap (λ (x : Note V). x.cost) (sym e);
    back = λ w n i. let b = t.back w n i in record {
      motion = ap (λ (x : Note V). x.motion) e ∙ b.motion;
      state = b.state;
      leads = b.leads;
      from = ap (λ (x : Note V). x.from) e ∙ b.from;
      settled = still_settled (g.number b.state) b.settled;
    };
  }

  pub still_labelled : (u : A) → N' (g.number u) ≡ N (g.number u) → Labelled g k ok N u → Labelled g k ok N' u
  still_labelled u e l =
      let d = f.at (g.number l.state) l.settled in
      record {
        state = l.state;
        is_ok = l.is_ok;
        settled = still_settled (g.number l.state) l.settled;
        step = subst (λ (x : Note V). g.step x.motion l.state ≡ Some u) (sym e) l.step;
        from = ap (λ (x : Note V). x.from) e ∙ l.from;
        cost = subst (λ (x : Note V). x.cost ≡ g.costs.plus (N' (g.number l.state)).cost (g.weight x.motion)) (sym e)
            (subst (λ (x : Note V). (N (g.number u)).cost ≡ g.costs.plus x.cost (g.weight (N (g.number u)).motion))
            (sym d) l.cost);
      }
