-- There is one leg only: of two, the last motions come before one another, so they are one, and depart from one state.
use Rattle.std.proofs.Common.{◌≡◌, ℕ, refl, subst, arith}
use Rattle.legs.specs.Graph.{Graph, Leads}
use Rattle.legs.specs.Leg.{Earlier, Least, Leg}
use Rattle.legs.specs.Sane.{Sane}
use Rattle.legs.specs.Sequence.{Sequence, none, then}
use Rattle.legs.proofs.Ends.{above_zero, ends_ok}

same_motion : (n r m q : ℕ) → Earlier n r m q → Earlier m q n r → n ≡ m
same_motion n r m q h k = grind arith

same_number : (n r m q : ℕ) → Earlier n r m q → Earlier m q n r → r ≡ q
same_number n r m q h k = grind arith

pub leg_leads : {A V : Type 0} (g : Graph A V) (k : A) (w : Sequence) (u : A) → Leg g k w u → Leads g k w u
leg_leads g k none u h = h.leads
leg_leads g k (then w n) u h = h.1.least.leads

module _ {A V : Type 0} (g : Graph A V) (k : A) (ok : A → Type 0) (m : ℕ) (s : Sane g k ok m) where
  not_both : (w : Sequence) (n : ℕ) (u : A) → Least g k none u → Least g k (then w n) u → ⊥
  not_both w n u h i = let a = i.least none h.leads in let b = above_zero g k ok m s w n u i.leads in cc

  pub least_of_leg : (w : Sequence) (u : A) → Leg g k w u → Least g k w u
  least_of_leg none u h = h
  least_of_leg (then w n) u h = h.1.least

  pub unique : (w x : Sequence) (u : A) → Leg g k w u → Leg g k x u → w ≡ x
  unique none none u h i = refl
  unique none (then x n) u h i = absurd (not_both x n u h i.1.least)
  unique (then w n) none u h i = absurd (not_both w n u i h.1.least)
  unique (then w n) (then x q) u h i =
      let a = h.1.first x i.0 q i.1.departs i.1.least in
      let b = i.1.first w h.0 n h.1.departs h.1.least in
      let e : n ≡ q = same_motion _ _ _ _ a b in
      let f : h.0 ≡ i.0 = s.apart h.0 i.0 (ends_ok g k ok m s w h.0 h.1.departs) (ends_ok g k ok m s x i.0 i.1.departs)
      (same_number _ _ _ _ a b) in
      let j : w ≡ x = unique w x i.0 (subst (λ (d : A). Leg g k w d) f h.2) i.2 in
      cc
