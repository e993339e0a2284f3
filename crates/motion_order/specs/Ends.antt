-- Where the classes of one cost end in a list of entries.
--     ends_at es d       where the class d ends, of classes that end at es; 0 where there is no such class
--     begins_at es d     where the class d begins: where the one before it ends, and the first at 0
--     class_at os es d   the entries os of the class d; none where there is no such class
--     OneCost c os b e   there are entries from b to below e, and those of os cost all the same
--     Marked c os es n   the first n of the entries os stand in classes of one cost that end at es, and each class but
--                        the first begins with a dearer entry than the one before it
use Rattle.std.specs.Prelude.{◌≡◌, ℕ, ◌+◌, ◌<◌, ◌≤◌, true, List, ◌∷◌, length, slice_index_or, drop, take}
use Rattle.cost.specs.Costs.{Costs}
use Rattle.motion_order.specs.InOrder.{dearer, offer_at, weighed}
use Rattle.motion_order.specs.declared.offer.Offer.{Offer}

abbrev pub ends_at : List ℕ → ℕ → ℕ
ends_at es d = slice_index_or es d 0

abbrev pub begins_at : List ℕ → ℕ → ℕ
begins_at es d = slice_index_or (0 ∷ es) d 0

abbrev pub class_at : List Offer → List ℕ → ℕ → List Offer
class_at os es d = drop (begins_at es d) (take (ends_at es d) os)

pub record OneCost {V : Type 0} (c : Costs V) (os : List Offer) (b e : ℕ) : Type 0 where
  pub some : b < e
  pub same : (j : ℕ) → b ≤ j → j < e → weighed c (offer_at os j) ≡ weighed c (offer_at os b)

pub record Marked {V : Type 0} (c : Costs V) (os : List Offer) (es : List ℕ) (n : ℕ) : Type 0 where
  pub whole : begins_at es (length es) ≡ n
  pub classes : (d : ℕ) → d < length es → OneCost c os (begins_at es d) (ends_at es d)
  pub apart : (d : ℕ) → d + 1 < length es
      → dearer c (offer_at os (begins_at es d)) (offer_at os (ends_at es d)) ≡ true
