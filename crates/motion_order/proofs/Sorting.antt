-- Costs and then numbers rank the motions, so the library's sort under a closure that compares by them puts the
-- cheapest first, and those of one cost by their numbers.
use Rattle.std.proofs.Common.{◌≡◌, ◌≤◌, true, false, Bor, List, arith, ◌∙◌, ap}
use Rattle.std.proofs.lemmas.Bool.Decides.{nat_tests}
use Rattle.std.proofs.lemmas.List.Sorted.{answers_always, sorted_far}
use Rattle.std.specs.Cmp.{IsStrictWeakOrder}
use Rattle.std.specs.Fn.{Called, Mut}
use Rattle.std.specs.List.Sorted.{IsSortedByClosure}
use Rattle.std.specs.Ordering.{is_lt}
use Rattle.std.specs.declared.cmp.Ordering.{Ordering}
use Rattle.cost.specs.Costs.{Costs, CostLaws}
use Rattle.motion_order.specs.declared.offer.Offer.{Offer}
use Rattle.motion_order.specs.Gathered.{Sorted, before, ranked}
use Rattle.motion_order.specs.InOrder.{CheapestFirst, offer_at, unoffered, weighed}

one_way : {V : Type 0} (c : Costs V) → CostLaws c → (o p : Offer) → before c o p ≡ true → before c p o ≡ false
one_way c laws o p h =
    let t = laws.total (weighed c o) (weighed c p) in
    let u = laws.total (weighed c p) (weighed c o) in
    grind (arith, nat_tests)

chain : {V : Type 0} (c : Costs V) → CostLaws c → (o p q : Offer) → before c o p ≡ false → before c p q ≡ false
    → before c o q ≡ false
chain c laws o p q h k =
    let x = laws.transitive (weighed c q) (weighed c p) (weighed c o) in
    let y = laws.transitive (weighed c o) (weighed c q) (weighed c p) in
    let z = laws.transitive (weighed c p) (weighed c o) (weighed c q) in
    grind (arith, nat_tests)

ranks : {V : Type 0} (c : Costs V) → CostLaws c → IsStrictWeakOrder (before c)
ranks c laws = record { one_way = one_way c laws; chain = chain c laws }

less_is_before : {V : Type 0} (c : Costs V) (o p : Offer) → is_lt (ranked c o p) ≡ before c o p
less_is_before c o p = grind (arith, nat_tests)

pub sorted : {V : Type 0} (c : Costs V) → CostLaws c
    → {F : Type 0} {g : Mut F (Bor Offer × (Bor Offer × Unit {0})) Ordering} {f : F} (os : List Offer)
    → IsSortedByClosure g f os
    → ((f : F) (a : Bor Offer × (Bor Offer × Unit {0})) (r : Ordering) (f' : F) → Called g f a r f'
    → r ≡ ranked c a.0.now a.1.0.now)
    → Sorted c os
sorted c laws {g = g} {f = f} os by answers =
    let by_before = answers_always g (λ a r. is_lt r ≡ before c a.0.now a.1.0.now) f
    (λ h a r h' called. ap is_lt (answers h a r h' called) ∙ less_is_before c a.0.now a.1.0.now) in
    λ i j le lt. sorted_far (before c) (ranks c laws) os (by (before c) (ranks c laws) by_before) i j unoffered le lt

at_most_later : {V : Type 0} (c : Costs V) (o p : Offer) → before c p o ≡ false
    → c.at_most (weighed c o) (weighed c p) ≡ true
at_most_later c o p h = grind (arith, nat_tests)

pub cheapest_first : {V : Type 0} (c : Costs V) (os : List Offer) → Sorted c os → CheapestFirst c os
cheapest_first c os h = λ i j le lt. at_most_later c (offer_at os i) (offer_at os j) (h i j le lt)

pub not_later : {V : Type 0} (c : Costs V) → CostLaws c → (o p : Offer) → before c p o ≡ false
    → weighed c o ≡ weighed c p → o.motion ≤ p.motion
not_later c laws o p h e =
    let t = laws.total (weighed c o) (weighed c p) in
    let u = laws.total (weighed c p) (weighed c o) in
    grind (arith, nat_tests)
