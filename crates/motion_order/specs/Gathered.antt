-- How the order of a panel's motions comes about.
--     Gathered a n os   the entries os tell of the first n motions of a panel with the answers a, in the order of their
--                       numbers; its retype counts as the last
--     before c o p      the entry o stands before p: its motion costs less, or as much and has a smaller number
--     ranked c o p      how the entry o compares with p: by cost, and where those are the same by number
--     Sorted c os       no entry of os stands before an earlier one
use Rattle.std.specs.Prelude.{◌≡◌, ℕ, ◌<◌, ◌≤◌, Bool, true, false, cond, nat_lt, List, length, All}
use Rattle.std.specs.Ordering.{nat_cmp}
use Rattle.std.specs.declared.cmp.Ordering.{Ordering}
use Rattle.std.specs.declared.cmp.Ordering.TheVariants.{Less, Greater}
use Rattle.cost.specs.Costs.{Costs}
use Rattle.motion_order.specs.InOrder.{Told, dearer, offer_at}
use Rattle.motion_order.specs.declared.offer.Offer.{Offer}
use Rattle.panel.specs.Answers.{Answers}

pub record Gathered (a : Answers) (n : ℕ) (os : List Offer) : Type 0 where
  pub size : length os ≡ n
  pub told : All (Told a) os
  pub numbered : (j : ℕ) → j < length os → (offer_at os j).motion ≡ j

abbrev pub before : {V : Type 0} → Costs V → Offer → Offer → Bool
before c o p = cond (dearer c o p) true (cond (dearer c p o) false (nat_lt o.motion p.motion))

abbrev pub ranked : {V : Type 0} → Costs V → Offer → Offer → Ordering
ranked c o p = cond (dearer c o p) Less (cond (dearer c p o) Greater (nat_cmp o.motion p.motion))

abbrev pub Sorted : {V : Type 0} → Costs V → List Offer → Type 0
Sorted c os = (i j : ℕ) → i ≤ j → j < length os → before c (offer_at os j) (offer_at os i) ≡ false
