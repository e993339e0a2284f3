-- The motions of a panel in classes of one cost.
--     InClasses c a K class   the K classes tell of all the motions of a panel with the answers a and of its retype;
--                             each has a motion, its motions cost the same and stand by their numbers, and the
--                             cheapest class is the first
use Rattle.std.specs.Prelude.{◌≡◌, ℕ, ◌<◌, ◌≤◌, true, false, List, length}
use Rattle.cost.specs.Costs.{Costs}
use Rattle.motion_order.specs.InOrder.{Told, offer_at, weighed}
use Rattle.motion_order.specs.declared.offer.Offer.{Offer}
use Rattle.motion_order.specs.declared.offer.TheConstants.{MOST_OFFERS}
use Rattle.panel.specs.Answers.{Answers}

pub record InClasses {V : Type 0} (c : Costs V) (a : Answers) (K : ℕ) (class : ℕ → List Offer) : Type 0 where
  pub few : K ≤ MOST_OFFERS
  pub told : (d h : ℕ) → d < K → h < length (class d) → Told a (offer_at (class d) h)
  pub all : (n : ℕ) → n ≤ a.motions → (d : ℕ) × (d < K)
      × ((h : ℕ) × (h < length (class d)) × ((offer_at (class d) h).motion ≡ n))
  pub some : (d : ℕ) → d < K → 0 < length (class d)
  pub same : (d h : ℕ) → d < K → h < length (class d)
      → weighed c (offer_at (class d) h) ≡ weighed c (offer_at (class d) 0)
  pub by_number : (d i j : ℕ) → d < K → i < j → j < length (class d)
      → (offer_at (class d) i).motion < (offer_at (class d) j).motion
  pub cheapest_first : (d e : ℕ) → d ≤ e → e < K
      → c.at_most (weighed c (offer_at (class d) 0)) (weighed c (offer_at (class e) 0)) ≡ true
  pub apart : (d e : ℕ) → d < e → e < K
      → c.at_most (weighed c (offer_at (class e) 0)) (weighed c (offer_at (class d) 0)) ≡ false
