-- Entries in order stand in classes by where the classes end: a class is what stands between two ends, and each entry
-- stands between some two.
use Rattle.std.proofs.Common.{◌≡◌, ℕ, zero, suc, ◌+◌, ◌-◌, ◌<◌, ◌≤◌, true, false, not, List, length, drop, take, arith, ap, sym, ◌∙◌, ⊎_elim}
use Rattle.std.proofs.lemmas.Bool.{cases_lt}
use Rattle.std.proofs.lemmas.Bool.Decides.{nat_tests}
use Rattle.std.proofs.lemmas.Grind.{common_steps}
use Rattle.cost.specs.Costs.{CostLaws, Costs}
use Rattle.motion_order.specs.declared.offer.Offer.{Offer}
use Rattle.motion_order.specs.declared.offer.TheConstants.{MOST_OFFERS}
use Rattle.motion_order.specs.Ends.{Marked, begins_at, class_at, ends_at}
use Rattle.motion_order.specs.InClasses.{InClasses}
use Rattle.motion_order.specs.InOrder.{InOrder, offer_at, weighed}
use Rattle.motion_order.proofs.Marking.{begins_next, room}
use Rattle.panel.specs.Answers.{Answers}

-- what stands from b to below e
size_of : (os : List Offer) (b e : ℕ) → b < e → e ≤ length os → length (drop b (take e os)) + b ≡ e
size_of os b e lt le = grind (arith, common_steps)

entry_of : (os : List Offer) (b e h : ℕ) → b + h < e → e ≤ length os
    → offer_at (drop b (take e os)) h ≡ offer_at os (b + h)
entry_of os b e h lt le = grind (arith, common_steps)

rises : {V : Type 0} (c : Costs V) (os : List Offer) (es : List ℕ) (n : ℕ) → Marked c os es n
    → (d e : ℕ) → d ≤ e → e ≤ length es → begins_at es d ≤ begins_at es e
rises c os es n m d zero le within = let h : d ≡ 0 = omega arith in rw h (omega arith)
rises c os es n m d (suc e) le within = ⊎_elim
    (λ (below : d < suc e). let h = rises c os es n m d e (omega arith) (omega arith) in
    let s = (m.classes e (omega arith)).some in omega arith)
    (λ (from : suc e ≤ d). let h : d ≡ suc e = omega arith in rw h (omega arith)) (cases_lt d (suc e))

record Spans {V : Type 0} (c : Costs V) (os : List Offer) (es : List ℕ) (d : ℕ) : Type 0 where
  some : begins_at es d < ends_at es d
  within : ends_at es d ≤ length os
  size : length (class_at os es d) + begins_at es d ≡ ends_at es d
  entry : (h : ℕ) → h < length (class_at os es d)
      → offer_at (class_at os es d) h ≡ offer_at os (begins_at es d + h)
  first : offer_at (class_at os es d) 0 ≡ offer_at os (begins_at es d)
  same : (h : ℕ) → h < length (class_at os es d)
      → weighed c (offer_at os (begins_at es d + h)) ≡ weighed c (offer_at os (begins_at es d))

spans : {V : Type 0} (c : Costs V) (os : List Offer) (es : List ℕ) → Marked c os es (length os)
    → (d : ℕ) → d < length es → Spans c os es d
spans c os es m d lt =
    let one = m.classes d lt in
    let some = one.some in
    let up = rises c os es (length os) m (d + 1) (length es) (omega arith) (omega arith) in
    let within : ends_at es d ≤ length os = omega (arith, begins_next es d, m.whole) in
    let size = size_of os (begins_at es d) (ends_at es d) some within in
    let zeroth : begins_at es d + 0 ≡ begins_at es d = omega arith in
    record {
      some = some;
      within = within;
      size = size;
      entry = λ h below. entry_of os (begins_at es d) (ends_at es d) h (omega arith) within;
      first = entry_of os (begins_at es d) (ends_at es d) 0 (omega arith) within
          ∙ ap (λ (k : ℕ). offer_at os k) zeroth;
      same = λ h below. one.same (begins_at es d + h) (omega arith) (omega arith);
    }

found : (es : List ℕ) (j k : ℕ) → j < begins_at es k
    → (d : ℕ) × (d < k) × (begins_at es d ≤ j) × (j < ends_at es d)
found es j zero lt = absurd (omega arith)
found es j (suc k) lt = ⊎_elim
    (λ below. let f = found es j k below in (f.0, omega (arith, f.1), f.2, f.3))
    (λ from. (k, omega arith, from, lt)) (cases_lt j (begins_at es k))

all_found : {V : Type 0} (c : Costs V) (a : Answers) (os : List Offer) (es : List ℕ) → InOrder c a os
    → Marked c os es (length os) → (n : ℕ) → n ≤ a.motions
    → (d : ℕ) × (d < length es)
    × ((h : ℕ) × (h < length (class_at os es d)) × ((offer_at (class_at os es d) h).motion ≡ n))
all_found c a os es io m n le =
    let at = io.all n le in
    let j = at.0 in
    let below : j < begins_at es (length es) = omega (arith, m.whole, at.1) in
    let f = found es j (length es) below in
    let s = spans c os es m f.0 f.1 in
    let from : begins_at es f.0 ≤ j = f.2 in
    let to : j < ends_at es f.0 = f.3 in
    let size = s.size in
    let h = j - begins_at es f.0 in
    let lt : h < length (class_at os es f.0) = omega arith in
    let place : begins_at es f.0 + h ≡ j = omega arith in (
      f.0,
      f.1,
      (
        h,
        lt,
        ap (λ (o : Offer). o.motion) (s.entry h lt) ∙ (ap (λ (k : ℕ). (offer_at os k).motion) place ∙ at.2),
      ),
    )

numbers_rise : {V : Type 0} (c : Costs V) (a : Answers) (os : List Offer) (es : List ℕ) → InOrder c a os
    → (d i j : ℕ) → Spans c os es d → i < j → j < length (class_at os es d)
    → (offer_at (class_at os es d) i).motion < (offer_at (class_at os es d) j).motion
numbers_rise c a os es io d i j s before lt =
    let w = s.within in
    let z = s.size in
    let b = begins_at es d in
    let below : i < length (class_at os es d) = omega arith in
    rw (s.entry i below, s.entry j lt)
    (io.by_number (b + i) (b + j) (omega arith) (omega arith) (s.same i below ∙ sym (s.same j lt)))

later_dearer : {V : Type 0} (c : Costs V) → CostLaws c → (x y z : V) → not (c.at_most y x) ≡ true
    → c.at_most y z ≡ true → c.at_most z x ≡ false
later_dearer c laws x y z h k = let t = laws.transitive y z x k in grind (arith, nat_tests)

pub in_classes : {V : Type 0} (c : Costs V) → CostLaws c → (a : Answers) (os : List Offer) (es : List ℕ)
    → InOrder c a os → length os ≤ MOST_OFFERS → Marked c os es (length os)
    → InClasses c a (length es) (class_at os es)
in_classes c laws a os es io few m = record {
  few = let r = room c os es (length os) m (length es) (omega arith) in omega (arith, m.whole);
  told = λ d h lt below. let s = spans c os es m d lt in let z = s.size in let w = s.within in
      rw (s.entry h below) (io.told (begins_at es d + h) (omega arith));
  all = all_found c a os es io m;
  some = λ d lt. let s = spans c os es m d lt in let z = s.size in let o = s.some in omega arith;
  same = λ d h lt below. let s = spans c os es m d lt in rw (s.entry h below, s.first) (s.same h below);
  by_number = λ d i j lt before below. numbers_rise c a os es io d i j (spans c os es m d lt) before below;
  cheapest_first = λ d e le lt. let s = spans c os es m d (omega arith) in let t = spans c os es m e lt in
      let some = t.some in
      let within = t.within in
      rw (s.first, t.first) (io.cheapest_first (begins_at es d) (begins_at es e)
      (rises c os es (length os) m d e le (omega arith)) (omega arith));
  apart = λ d e before lt. let s = spans c os es m d (omega arith) in let t = spans c os es m e lt in
      let some = t.some in
      let within = t.within in
      let up = rises c os es (length os) m (d + 1) e (omega arith) (omega arith) in
      rw (s.first, t.first) (later_dearer c laws _ _ _ (m.apart d (omega arith))
      (io.cheapest_first (ends_at es d) (begins_at es e) (omega (arith, begins_next es d)) (omega arith)));
}
