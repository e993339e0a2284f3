-- The motions of a panel in the order of their costs.
--     unoffered           an entry of no motion
--     offer_at os j       the entry at j
--     weighed c o         what the motion of the entry o costs
--     dearer c o p        the motion of the entry p costs more than that of the entry o
--     Told a o            o tells of a motion of a panel with the answers a, or of its retype, how many bytes it has
--                         and how many milliseconds it takes; the retype has one byte and takes no time
--     CheapestFirst c os  no entry of os costs more than a later one
--     ByNumber c os       of entries of os that cost the same, each has a smaller number than a later one
--     InOrder c a os      the entries os tell of all the motions of such a panel and of its retype, the cheapest first,
--                         and those of one cost by their numbers
use Rattle.std.specs.Prelude.{◌≡◌, ℕ, ◌<◌, ◌≤◌, Bool, true, not, cond, ◌==◌, List, length, slice_index_or}
use Rattle.cost.specs.Costs.{Costs, Motion}
use Rattle.motion_order.specs.declared.offer.Offer.{Offer}
use Rattle.panel.specs.Answers.{Answers}

abbrev pub unoffered : Offer
unoffered = record { motion = 0; milliseconds = 0; bytes = 0 }

abbrev pub offer_at : List Offer → ℕ → Offer
offer_at os j = slice_index_or os j unoffered

abbrev pub weighed : {V : Type 0} → Costs V → Offer → V
weighed c o = c.motion o.bytes o.milliseconds

abbrev pub dearer : {V : Type 0} → Costs V → Offer → Offer → Bool
dearer c o p = not (c.at_most (weighed c p) (weighed c o))

pub record Told (a : Answers) (o : Offer) : Type 0 where
  pub numbered : o.motion ≤ a.motions
  pub bytes : o.bytes ≡ cond (o.motion == a.motions) 1 (length (a.motion_bytes o.motion))
  pub milliseconds : o.milliseconds ≡ cond (o.motion == a.motions) 0 (a.delay o.motion)
  pub limits : Motion o.bytes o.milliseconds

abbrev pub CheapestFirst : {V : Type 0} → Costs V → List Offer → Type 0
CheapestFirst c os = (i j : ℕ) → i ≤ j → j < length os
    → c.at_most (weighed c (offer_at os i)) (weighed c (offer_at os j)) ≡ true

abbrev pub ByNumber : {V : Type 0} → Costs V → List Offer → Type 0
ByNumber c os = (i j : ℕ) → i < j → j < length os → weighed c (offer_at os i) ≡ weighed c (offer_at os j)
    → (offer_at os i).motion < (offer_at os j).motion

pub record InOrder {V : Type 0} (c : Costs V) (a : Answers) (os : List Offer) : Type 0 where
  pub told : (j : ℕ) → j < length os → Told a (offer_at os j)
  pub all : (n : ℕ) → n ≤ a.motions → (j : ℕ) × (j < length os) × ((offer_at os j).motion ≡ n)
  pub cheapest_first : CheapestFirst c os
  pub by_number : ByNumber c os
