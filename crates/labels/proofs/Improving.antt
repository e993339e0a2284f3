-- The better of two notes is as good as either.
use Rattle.std.proofs.Common.{◌≡◌, ◌≢◌, ◌⊎◌, inl, inr, ◌∙◌, ℕ, Bool, true, false, cond, ◌&&◌, ◌||◌, ◌==◌, nat_lt, refl, sym, ap, arith}
use Rattle.std.proofs.lemmas.Bool.Decides.{nat_tests}
use Rattle.cost.specs.Costs.{CostLaws}
use Rattle.legs.specs.Graph.{Graph}
use Rattle.legs.specs.Leg.{Earlier}
use Rattle.legs.proofs.Order.{same_at_most}
use Rattle.labels.specs.Frontier.{Known}
use Rattle.labels.specs.Note.{Note, beats, improved, improved_at, reached}
use Rattle.labels.specs.declared.label.Stage.{Stage}
use Rattle.labels.specs.declared.label.Stage.TheVariants.{Unreached, Reached, Settled}

-- two numbers are the same, or they are not
pub same_or_not : (i j : ℕ) → (i ≡ j) ⊎ (i ≢ j)
same_or_not i j = by_cases (i == j) refl
  where
    by_cases : (b : Bool) → (i == j) ≡ b → (i ≡ j) ⊎ (i ≢ j)
    by_cases true e = inl (grind (arith, nat_tests))
    by_cases false e = inr (grind (arith, nat_tests))

earlier_same : (n r : ℕ) → Earlier n r n r
earlier_same n r = inr (refl, omega arith)

earlier_trans : (n r p q x y : ℕ) → Earlier n r p q → Earlier p q x y → Earlier n r x y
earlier_trans n r p q x y h k = grind arith

is_earlier : (n r p q : ℕ) → (nat_lt n p || (n == p && nat_lt r q)) ≡ true → Earlier n r p q
is_earlier n r p q h = grind (arith, nat_tests)

not_earlier : (n r p q : ℕ) → (nat_lt n p || (n == p && nat_lt r q)) ≡ false → Earlier p q n r
not_earlier n r p q h = grind (arith, nat_tests)

module _ {A V : Type 0} (g : Graph A V) (l : CostLaws g.costs) where
  pub record Better (a : Note V) (v : V) (n r : ℕ) : Type 0 where
    pub cost : g.costs.at_most v a.cost ≡ true
    pub tie : g.costs.at_most a.cost v ≡ true → Earlier n r a.motion a.from

  better : (a : Note V) (v : V) (n r : ℕ) → beats g.costs v n r a ≡ true → Better a v n r
  better a v n r h = by_cases (g.costs.at_most a.cost v) refl (g.costs.at_most v a.cost) refl
    where
      by_cases : (b : Bool) → g.costs.at_most a.cost v ≡ b → (d : Bool) → g.costs.at_most v a.cost ≡ d → Better a v n r
      by_cases false e d f = record { cost = l.total _ _ e; tie = λ i. absurd cc }
      by_cases true e true f = record {
        cost = f;
        tie = λ i. is_earlier n r a.motion a.from
            (sym (ap (λ x. cond x (g.costs.at_most v a.cost
            && (nat_lt n a.motion || (n == a.motion && nat_lt r a.from))) true) e
            ∙ ap (λ x. x && (nat_lt n a.motion || (n == a.motion && nat_lt r a.from))) f) ∙ h);
      }
      by_cases true e false f = absurd (
          let p = sym (ap (λ x. cond x (g.costs.at_most v a.cost
          && (nat_lt n a.motion || (n == a.motion && nat_lt r a.from))) true) e
          ∙ ap (λ x. x && (nat_lt n a.motion || (n == a.motion && nat_lt r a.from))) f) ∙ h in cc)

  not_better : (a : Note V) (v : V) (n r : ℕ) → a.stage ≡ Reached → beats g.costs v n r a ≡ false → Known g a v n r
  not_better a v n r s h = by_cases (g.costs.at_most a.cost v) refl (g.costs.at_most v a.cost) refl
    where
      by_cases : (b : Bool) → g.costs.at_most a.cost v ≡ b → (d : Bool) → g.costs.at_most v a.cost ≡ d → Known g a v n r
      by_cases false e d f = absurd (
          let p = sym (ap (λ x. cond x (g.costs.at_most v a.cost
          && (nat_lt n a.motion || (n == a.motion && nat_lt r a.from))) true) e)
          ∙ h in cc)
      by_cases true e false f = record { reached = s; cost = e; tie = λ i. absurd cc }
      by_cases true e true f = record {
        reached = s;
        cost = e;
        tie = λ i. not_earlier n r a.motion a.from
            (sym (ap (λ x. cond x (g.costs.at_most v a.cost
            && (nat_lt n a.motion || (n == a.motion && nat_lt r a.from))) true) e
            ∙ ap (λ x. x && (nat_lt n a.motion || (n == a.motion && nat_lt r a.from))) f) ∙ h);
      }

  pub reached_known : (v : V) (n r : ℕ) → Known g (reached v n r) v n r
  reached_known v n r = record { reached = refl; cost = same_at_most l v; tie = λ i. earlier_same n r }

  -- what is better than a is at least as good as what a is as good as
  pub better_known : (a : Note V) (v w : V) (n r p q : ℕ) → Better a v n r → Known g a w p q
      → Known g (reached v n r) w p q
  better_known a v w n r p q b h = record {
    reached = refl;
    cost = l.transitive _ _ _ b.cost h.cost;
    tie = λ i. earlier_trans n r a.motion a.from p q
        (b.tie (l.transitive _ _ _ h.cost i))
        (h.tie (l.transitive _ _ _ i b.cost));
  }

  -- the improved note, by cases
  pub data Improved (a x : Note V) (v : V) (n r : ℕ) : Type 0 where
    new : a.stage ≡ Unreached → x ≡ reached v n r → Improved a x v n r
    won : a.stage ≡ Reached → Better a v n r → x ≡ reached v n r → Improved a x v n r
    lost : Known g a v n r → x ≡ a → Improved a x v n r
    stays : a.stage ≡ Settled → x ≡ a → Improved a x v n r

  pub is_improved : (a : Note V) (v : V) (n r : ℕ) → Improved a (improved g.costs a v n r) v n r
  is_improved a v n r = by_stage a.stage refl
    where
      at_reached : a.stage ≡ Reached → (b : Bool) → beats g.costs v n r a ≡ b
          → Improved a (improved g.costs a v n r) v n r
      at_reached e true h = won e (better a v n r h)
          (ap (λ x. improved_at x g.costs a v n r) e ∙ ap (λ x. cond x (reached v n r) a) h)
      at_reached e false h = lost (not_better a v n r e h)
          (ap (λ x. improved_at x g.costs a v n r) e ∙ ap (λ x. cond x (reached v n r) a) h)

      by_stage : (s : Stage) → a.stage ≡ s → Improved a (improved g.costs a v n r) v n r
      by_stage Unreached e = new e (ap (λ x. improved_at x g.costs a v n r) e)
      by_stage Reached e = at_reached e (beats g.costs v n r a) refl
      by_stage Settled e = stays e (ap (λ x. improved_at x g.costs a v n r) e)

  -- a note that is as cheap already keeps its cost
  pub improved_cost : (a : Note V) (v : V) (n r : ℕ) → a.stage ≡ Reached → g.costs.at_most a.cost v ≡ true
      → (improved g.costs a v n r).cost ≡ a.cost
  improved_cost a v n r e h = by_cases (is_improved a v n r)
    where
      by_cases : Improved a (improved g.costs a v n r) v n r → (improved g.costs a v n r).cost ≡ a.cost
      by_cases (new i f) = absurd cc
      by_cases (won i b f) = ap (λ (x : Note V). x.cost) f ∙ l.ties _ _ b.cost h
      by_cases (lost i f) = ap (λ (x : Note V). x.cost) f
      by_cases (stays i f) = ap (λ (x : Note V). x.cost) f
