-- Dealing with one motion of a settled state keeps what holds of the frontier; that motion is then no longer due.
use Rattle.std.proofs.Common.{◌≡◌, ◌≢◌, ◌⊎◌, inl, inr, ◌∙◌, ℕ, true, Some, refl, sym, ap, subst}
use Rattle.legs.specs.Graph.{Graph}
use Rattle.legs.specs.Sane.{Sane}
use Rattle.labels.specs.Frontier.{Frontier, Handled, Known, Labelled, beyond, done, known}
use Rattle.labels.specs.Note.{Note, Updated, improved, reached}
use Rattle.labels.specs.declared.label.Stage.TheVariants.{Reached, Settled}
use Rattle.labels.proofs.Improving.{Improved, better_known, is_improved, lost, new, reached_known, same_or_not, stays, won}
use Rattle.labels.proofs.Kept.{Fixed, still_labelled, still_settled, still_traced}

module _ {A V : Type 0} (g : Graph A V) (k : A) (ok : A → Type 0) (m : ℕ) (s : Sane g k ok m)
    (N N' : ℕ → Note V) (t : ℕ)
    (d u : A) (od : ok d) (sd : (N (g.number d)).stage ≡ Settled)
    (n : ℕ) (lands : g.step n d ≡ Some u)
    (up : Updated N N' (g.number u)
    (improved g.costs (N (g.number u)) (g.costs.plus (N (g.number d)).cost (g.weight n)) n (g.number d))) where
  abbrev v : V
  v = g.costs.plus (N (g.number d)).cost (g.weight n)

  abbrev r : ℕ
  r = g.number d

  how : Improved g s.laws (N (g.number u)) (N' (g.number u)) v n r
  how = subst (λ (x : Note V). Improved g s.laws (N (g.number u)) x v n r) (sym up.here)
      (is_improved g s.laws (N (g.number u)) v n r)

  fixed_here : Improved g s.laws (N (g.number u)) (N' (g.number u)) v n r → (N (g.number u)).stage ≡ Settled
      → N' (g.number u) ≡ N (g.number u)
  fixed_here (new a e) h = absurd cc
  fixed_here (won a b e) h = absurd cc
  fixed_here (lost a e) h = e
  fixed_here (stays a e) h = e

  pub fixed : Fixed N N'
  fixed = record { at = λ j h. by_cases j h (same_or_not j (g.number u)) }
    where
      by_cases : (j : ℕ) → (N j).stage ≡ Settled → (j ≡ g.number u) ⊎ (j ≢ g.number u) → N' j ≡ N j
      by_cases j h (inl e) = subst (λ (x : ℕ). N' x ≡ N x) (sym e)
          (fixed_here how (subst (λ (x : ℕ). (N x).stage ≡ Settled) e h))
      by_cases j h (inr e) = up.there j e

  known_here : (w : V) (p q : ℕ) → Improved g s.laws (N (g.number u)) (N' (g.number u)) v n r
      → Known g (N (g.number u)) w p q → Known g (N' (g.number u)) w p q
  known_here w p q (new a e) h = let i = h.reached in absurd cc
  known_here w p q (won a b e) h = subst (λ (x : Note V). Known g x w p q) (sym e)
      (better_known g s.laws _ v w n r p q b h)
  known_here w p q (lost a e) h = subst (λ (x : Note V). Known g x w p q) (sym e) h
  known_here w p q (stays a e) h = subst (λ (x : Note V). Known g x w p q) (sym e) h

  -- known at a cost or less
  record Within (a : Note V) (w : V) : Type 0 where
    reached : a.stage ≡ Reached
    below : g.costs.at_most a.cost w ≡ true

  within_here : (w : V) → Improved g s.laws (N (g.number u)) (N' (g.number u)) v n r
      → Within (N (g.number u)) w → Within (N' (g.number u)) w
  within_here w (new a e) h = let i = h.reached in absurd cc
  within_here w (won a b e) h = subst (λ (x : Note V). Within x w) (sym e)
      (record { reached = refl; below = s.laws.transitive _ _ _ b.cost h.below })
  within_here w (lost a e) h = subst (λ (x : Note V). Within x w) (sym e) h
  within_here w (stays a e) h = subst (λ (x : Note V). Within x w) (sym e) h

  still_within : (w : V) → Within (N t) w → (t ≡ g.number u) ⊎ (t ≢ g.number u) → Within (N' t) w
  still_within w h (inl e) = subst (λ (x : ℕ). Within (N' x) w) (sym e)
      (within_here w how (subst (λ (x : ℕ). Within (N x) w) e h))
  still_within w h (inr e) = subst (λ (x : Note V). Within x w) (sym (up.there t e)) h

  still_handled : (j : ℕ) (w : V) (p q : ℕ) → Handled g N t j w p q → Handled g N' t j w p q
  still_handled j w p q (done h) = done (still_settled g k ok N N' fixed j h)
  still_handled j w p q (known h) = by_cases (same_or_not j (g.number u))
    where
      by_cases : (j ≡ g.number u) ⊎ (j ≢ g.number u) → Handled g N' t j w p q
      by_cases (inl e) = known (subst (λ (x : ℕ). Known g (N' x) w p q) (sym e)
          (known_here w p q how (subst (λ (x : ℕ). Known g (N x) w p q) e h)))
      by_cases (inr e) = known (subst (λ (x : Note V). Known g x w p q) (sym (up.there j e)) h)
  still_handled j w p q (beyond h) =
      let i = still_within w (record { reached = h.reached; below = h.below }) (same_or_not t (g.number u)) in
      beyond (record { apart = h.apart; reached = i.reached; below = i.below })

  handled_here : Improved g s.laws (N (g.number u)) (N' (g.number u)) v n r → Handled g N' t (g.number u) v n r
  handled_here (new a e) = known (subst (λ (x : Note V). Known g x v n r) (sym e) (reached_known g s.laws v n r))
  handled_here (won a b e) = known (subst (λ (x : Note V). Known g x v n r) (sym e) (reached_known g s.laws v n r))
  handled_here (lost a e) = known (subst (λ (x : Note V). Known g x v n r) (sym e) a)
  handled_here (stays a e) = done (ap (λ (x : Note V). x.stage) e ∙ a)

  new_label : N' (g.number u) ≡ reached v n r → Labelled g k ok N' u
  new_label e = record {
    state = d;
    is_ok = od;
    settled = still_settled g k ok N N' fixed (g.number d) sd;
    step = subst (λ (x : Note V). g.step x.motion d ≡ Some u) (sym e) lands;
    from = ap (λ (x : Note V). x.from) e;
    cost = subst (λ (x : Note V). x.cost ≡ g.costs.plus (N' (g.number d)).cost (g.weight x.motion)) (sym e)
        (subst (λ (x : Note V). v ≡ g.costs.plus x.cost (g.weight n)) (sym (fixed.at (g.number d) sd)) refl);
  }

  label_here : Improved g s.laws (N (g.number u)) (N' (g.number u)) v n r → (N' (g.number u)).stage ≡ Reached
      → ((N (g.number u)).stage ≡ Reached → Labelled g k ok N u) → Labelled g k ok N' u
  label_here (new a e) h l = new_label e
  label_here (won a b e) h l = new_label e
  label_here (lost a e) h l = still_labelled g k ok N N' fixed u e (l a.reached)
  label_here (stays a e) h l = absurd (let i = ap (λ (x : Note V). x.stage) e in cc)

  same_stage : Improved g s.laws (N (g.number u)) (N' (g.number u)) v n r → (N' (g.number u)).stage ≡ Settled
      → (N (g.number u)).stage ≡ Settled
  same_stage (new a e) h = absurd (let i = ap (λ (x : Note V). x.stage) e in cc)
  same_stage (won a b e) h = absurd (let i = ap (λ (x : Note V). x.stage) e in cc)
  same_stage (lost a e) h = ap (λ (x : Note V). x.stage) (sym e) ∙ h
  same_stage (stays a e) h = a

  pub was_settled : (j : ℕ) → (N' j).stage ≡ Settled → (N j).stage ≡ Settled
  was_settled j h = by_cases (same_or_not j (g.number u))
    where
      by_cases : (j ≡ g.number u) ⊎ (j ≢ g.number u) → (N j).stage ≡ Settled
      by_cases (inl e) = subst (λ (x : ℕ). (N x).stage ≡ Settled) (sym e)
          (same_stage how (subst (λ (x : ℕ). (N' x).stage ≡ Settled) e h))
      by_cases (inr e) = ap (λ (x : Note V). x.stage) (sym (up.there j e)) ∙ h

  -- D says what was due, and D' what still is: all but n at d
  pub relaxed : (D D' : ℕ → ℕ → Type 0) → ((j p : ℕ) → D j p → D' j p ⊎ ((j ≡ g.number d) × (p ≡ n)))
      → Frontier g k ok N t D → Frontier g k ok N' t D'
  relaxed D D' but f = record {
    root = still_settled g k ok N N' fixed (g.number k) f.root;
    traced = λ x ox h. let i = was_settled (g.number x) h in still_traced g k ok N N' fixed x i (f.traced x ox i);
    handled = λ e x p oe h i. let j = was_settled (g.number e) h in handled_at e x p oe j i (f.handled e x p oe j i);
    labelled = λ x ox h. labelled_at x ox h (same_or_not (g.number x) (g.number u));
  }
    where
      moved : (e x : A) (p : ℕ) → (N (g.number e)).stage ≡ Settled
          → Handled g N' t (g.number x) (g.costs.plus (N (g.number e)).cost (g.weight p)) p (g.number e)
          → Handled g N' t (g.number x) (g.costs.plus (N' (g.number e)).cost (g.weight p)) p (g.number e)
      moved e x p i h =
          subst (λ (y : Note V). Handled g N' t (g.number x) (g.costs.plus y.cost (g.weight p)) p (g.number e))
          (sym (fixed.at (g.number e) i)) h

      due_at : (e x : A) (p : ℕ) → ok e → g.step p e ≡ Some x
          → D' (g.number e) p ⊎ ((g.number e ≡ g.number d) × (p ≡ n))
          → Handled g N' t (g.number x) (g.costs.plus (N (g.number e)).cost (g.weight p)) p (g.number e)
          ⊎ D' (g.number e) p
      due_at e x p oe i (inl a) = inr a
      due_at e x p oe i (inr a) =
          let b : e ≡ d = s.apart e d oe od a.0 in
          let c : Some x ≡ Some u = sym i ∙ (ap (λ (y : ℕ). g.step y e) a.1 ∙ (ap (λ (y : A). g.step n y) b ∙ lands)) in
          let z : x ≡ u = cc in
          inl (subst (λ (y : A). Handled g N' t (g.number y) (g.costs.plus (N (g.number e)).cost (g.weight p)) p
          (g.number e)) (sym z)
          (subst (λ (y : A). Handled g N' t (g.number u) (g.costs.plus (N (g.number y)).cost (g.weight p)) p
          (g.number y)) (sym b)
          (subst (λ (y : ℕ). Handled g N' t (g.number u) (g.costs.plus (N (g.number d)).cost (g.weight y)) y
          (g.number d)) (sym a.1)
          (handled_here how))))

      both : (e x : A) (p : ℕ) → (N (g.number e)).stage ≡ Settled
          → Handled g N' t (g.number x) (g.costs.plus (N (g.number e)).cost (g.weight p)) p (g.number e)
          ⊎ D' (g.number e) p
          → Handled g N' t (g.number x) (g.costs.plus (N' (g.number e)).cost (g.weight p)) p (g.number e)
          ⊎ D' (g.number e) p
      both e x p h (inl a) = inl (moved e x p h a)
      both e x p h (inr a) = inr a

      handled_at : (e x : A) (p : ℕ) → ok e → (N (g.number e)).stage ≡ Settled → g.step p e ≡ Some x
          → Handled g N t (g.number x) (g.costs.plus (N (g.number e)).cost (g.weight p)) p (g.number e)
          ⊎ D (g.number e) p
          → Handled g N' t (g.number x) (g.costs.plus (N' (g.number e)).cost (g.weight p)) p (g.number e)
          ⊎ D' (g.number e) p
      handled_at e x p oe h i (inl a) = inl (moved e x p h (still_handled (g.number x) _ p (g.number e) a))
      handled_at e x p oe h i (inr a) = both e x p h (due_at e x p oe i (but (g.number e) p a))

      labelled_at : (x : A) → ok x → (N' (g.number x)).stage ≡ Reached
          → (g.number x ≡ g.number u) ⊎ (g.number x ≢ g.number u) → Labelled g k ok N' x
      labelled_at x ox h (inl e) =
          let z : x ≡ u = s.apart x u ox (s.goes n d u od lands) e in
          subst (λ (y : A). Labelled g k ok N' y) (sym z)
          (label_here how (subst (λ (y : ℕ). (N' y).stage ≡ Reached) e h) (f.labelled u (s.goes n d u od lands)))
      labelled_at x ox h (inr e) =
          let i = up.there (g.number x) e in
          still_labelled g k ok N N' fixed x i (f.labelled x ox (ap (λ (y : Note V). y.stage) (sym i) ∙ h))
