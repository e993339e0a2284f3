-- What the laws of costs give: the order is reflexive, and what is not at most another is above it.
use Rattle.std.proofs.Common.{◌≡◌, Bool, true, false, refl}
use Rattle.cost.specs.Costs.{CostLaws, Costs}

module _ {V : Type 0} {c : Costs V} (l : CostLaws c) where
  pub same_at_most : (a : V) → c.at_most a a ≡ true
  same_at_most a = by_cases (c.at_most a a) refl
    where
      by_cases : (b : Bool) → c.at_most a a ≡ b → c.at_most a a ≡ true
      by_cases true e = e
      by_cases false e = l.total a a e

  -- a is below b, and b at most d
  pub below_at_most : (a b d : V) → c.at_most b a ≡ false → c.at_most b d ≡ true → c.at_most d a ≡ false
  below_at_most a b d h k = by_cases (c.at_most d a) refl
    where
      by_cases : (t : Bool) → c.at_most d a ≡ t → c.at_most d a ≡ false
      by_cases false e = e
      by_cases true e = let f = l.transitive b d a k e in cc
