-- Where sequences end, and what that gives of their costs.
use Rattle.std.proofs.Common.{◌≡◌, ◌∙◌, ℕ, false, Some, option_and_then, ap, subst}
use Rattle.std.proofs.lemmas.Option.{option_and_then_some}
use Rattle.legs.specs.Graph.{Graph, Leads, ends, spent}
use Rattle.legs.specs.Sane.{Sane}
use Rattle.legs.specs.Sequence.{Sequence, none, then}
use Rattle.legs.proofs.Order.{below_at_most}

module _ {A V : Type 0} (g : Graph A V) (k : A) where
  -- a sequence and one motion more
  pub more : (w : Sequence) (n : ℕ) (d u : A) → Leads g k w d → g.step n d ≡ Some u → Leads g k (then w n) u
  more w n d u h s = ap (option_and_then (g.step n)) h ∙ s

  pub record Before (w : Sequence) (n : ℕ) (u : A) : Type 0 where
    pub state : A
    pub leads : Leads g k w state
    pub step : g.step n state ≡ Some u

  pub before : (w : Sequence) (n : ℕ) (u : A) → Leads g k (then w n) u → Before w n u
  before w n u h = option_and_then_some (g.step n) (ends g.step k w) u h
      (λ d e f. record { state = d; leads = e; step = f })

  -- a sequence ends in one state
  pub one_end : (w : Sequence) (d u : A) → Leads g k w d → Leads g k w u → d ≡ u
  one_end w d u h i = cc

module _ {A V : Type 0} (g : Graph A V) (k : A) (ok : A → Type 0) (m : ℕ) (s : Sane g k ok m) where
  pub ends_ok : (w : Sequence) (u : A) → Leads g k w u → ok u
  ends_ok none u h = let e : k ≡ u = cc in subst ok e s.begins
  ends_ok (then w n) u h = let b = before g k w n u h in s.goes n b.state u (ends_ok w b.state b.leads) b.step

  -- one motion more strictly adds
  pub adds_more : (w : Sequence) (n : ℕ) (u : A) → Leads g k (then w n) u
      → g.costs.at_most (spent g (then w n)) (spent g w) ≡ false
  adds_more w n u h = let b = before g k w n u h in
      s.adds n b.state u (ends_ok w b.state b.leads) b.step (spent g w)

  -- no sequence of some motions costs nothing
  pub above_zero : (w : Sequence) (n : ℕ) (u : A) → Leads g k (then w n) u
      → g.costs.at_most (spent g (then w n)) g.costs.zero ≡ false
  above_zero none n u h = adds_more none n u h
  above_zero (then w m) n u h = let b = before g k (then w m) n u h in
      below_at_most s.laws g.costs.zero (spent g (then w m)) (spent g (then (then w m) n))
      (above_zero w m b.state b.leads)
      (s.laws.total _ _ (adds_more (then w m) n u h))
