-- A list of ends grows by one entry at a time: the entry begins a class of its own where it is dearer than the one
-- before it, and otherwise stands in the last class.
use Rattle.std.proofs.Common.{◌≡◌, ℕ, zero, suc, ◌+◌, ◌-◌, ◌<◌, ◌≤◌, true, false, List, [], ◌∷◌, ◌++◌, length, refl, arith, ◌∙◌, sym, ap, ⊎_elim}
use Rattle.std.proofs.lemmas.Bool.{cases_lt}
use Rattle.std.proofs.lemmas.Bool.Decides.{nat_tests}
use Rattle.std.proofs.lemmas.Grind.{common_steps}
use Rattle.cost.specs.Costs.{CostLaws, Costs}
use Rattle.motion_order.specs.declared.offer.Offer.{Offer}
use Rattle.motion_order.specs.Ends.{Marked, OneCost, begins_at, ends_at}
use Rattle.motion_order.specs.InOrder.{CheapestFirst, dearer, offer_at, weighed}

begins_more : (es : List ℕ) (x d : ℕ) → d ≤ length es → begins_at (es ++ x ∷ []) d ≡ begins_at es d
begins_more es x d le = grind (arith, common_steps)

ends_more : (es : List ℕ) (x d : ℕ) → d < length es → ends_at (es ++ x ∷ []) d ≡ ends_at es d
ends_more es x d lt = grind (arith, common_steps)

ends_last : (es : List ℕ) (x d : ℕ) → d ≡ length es → ends_at (es ++ x ∷ []) d ≡ x
ends_last es x d e = grind (arith, common_steps)

pub begins_next : (es : List ℕ) (d : ℕ) → begins_at es (d + 1) ≡ ends_at es d
begins_next es d = grind (arith, common_steps)

begins_last : (es : List ℕ) (x : ℕ) → begins_at (es ++ x ∷ []) (length (es ++ x ∷ [])) ≡ x
begins_last es x = grind (arith, common_steps)

length_more : (es : List ℕ) (x : ℕ) → length (es ++ x ∷ []) ≡ length es + 1
length_more es x = grind (arith, common_steps)

none : {V : Type 0} (c : Costs V) (os : List Offer) → Marked c os [] 0
none c os = record {
  whole = refl;
  classes = λ d lt. absurd (omega arith);
  apart = λ d lt. absurd (omega arith);
}

at_ends : {V : Type 0} (c : Costs V) (os : List Offer) (a b d e : ℕ) → a ≡ b → d ≡ e → OneCost c os b e
    → OneCost c os a d
at_ends c os a b d e p q h = rw (p, q) h

apart_at : {V : Type 0} (c : Costs V) (os : List Offer) (a b d e : ℕ) → a ≡ b → d ≡ e
    → dearer c (offer_at os b) (offer_at os e) ≡ true → dearer c (offer_at os a) (offer_at os d) ≡ true
apart_at c os a b d e p q h = rw (p, q) h

alone : {V : Type 0} (c : Costs V) (os : List Offer) (n : ℕ) → OneCost c os n (n + 1)
alone c os n = record {
  some = omega arith;
  same = λ j le lt. let e : j ≡ n = omega arith in ap (λ (k : ℕ). weighed c (offer_at os k)) e;
}

longer : {V : Type 0} (c : Costs V) (os : List Offer) (b n : ℕ) → OneCost c os b n
    → weighed c (offer_at os n) ≡ weighed c (offer_at os b) → OneCost c os b (n + 1)
longer c os b n h e = record {
  some = let s = h.some in omega arith;
  same = λ j le lt. ⊎_elim (λ below. h.same j le below)
      (λ from. let i : j ≡ n = omega arith in ap (λ (k : ℕ). weighed c (offer_at os k)) i ∙ e) (cases_lt j n);
}

opened_classes : {V : Type 0} (c : Costs V) (os : List Offer) (es : List ℕ) (n : ℕ) → Marked c os es n
    → (d : ℕ) → d < length (es ++ (n + 1) ∷ [])
    → OneCost c os (begins_at (es ++ (n + 1) ∷ []) d) (ends_at (es ++ (n + 1) ∷ []) d)
opened_classes c os es n m d lt =
    let l = length_more es (n + 1) in
    ⊎_elim (λ below. at_ends c os _ _ _ _ (begins_more es (n + 1) d (omega arith)) (ends_more es (n + 1) d below)
    (m.classes d below))
    (λ from. let e : d ≡ length es = omega arith in
    at_ends c os _ n _ (n + 1)
    (begins_more es (n + 1) d (omega arith) ∙ (ap (begins_at es) e ∙ m.whole)) (ends_last es (n + 1) d e)
    (alone c os n)) (cases_lt d (length es))

opened_apart : {V : Type 0} (c : Costs V) (os : List Offer) (es : List ℕ) (n : ℕ) → Marked c os es n
    → ((d : ℕ) → d + 1 ≡ length es → dearer c (offer_at os (begins_at es d)) (offer_at os n) ≡ true)
    → (d : ℕ) → d + 1 < length (es ++ (n + 1) ∷ [])
    → dearer c (offer_at os (begins_at (es ++ (n + 1) ∷ []) d)) (offer_at os (ends_at (es ++ (n + 1) ∷ []) d)) ≡ true
opened_apart c os es n m last d lt =
    let l = length_more es (n + 1) in
    let b = begins_more es (n + 1) d (omega arith) in
    let f = ends_more es (n + 1) d (omega arith) in
    ⊎_elim (λ below. apart_at c os _ _ _ _ b f (m.apart d below))
    (λ from. let e : d + 1 ≡ length es = omega arith in
    apart_at c os _ _ _ n b (f ∙ (sym (begins_next es d) ∙ (ap (begins_at es) e ∙ m.whole))) (last d e))
    (cases_lt (d + 1) (length es))

opened : {V : Type 0} (c : Costs V) (os : List Offer) (es : List ℕ) (n : ℕ) → Marked c os es n
    → ((d : ℕ) → d + 1 ≡ length es → dearer c (offer_at os (begins_at es d)) (offer_at os n) ≡ true)
    → Marked c os (es ++ (n + 1) ∷ []) (n + 1)
opened c os es n m last = record {
  whole = begins_last es (n + 1);
  classes = opened_classes c os es n m;
  apart = opened_apart c os es n m last;
}

pub begun : {V : Type 0} (c : Costs V) (os : List Offer) → Marked c os ([] ++ 1 ∷ []) 1
begun c os = opened c os [] 0 (none c os) (λ d e. absurd (omega arith))

-- the entry before the next one costs what the last class costs
in_last : {V : Type 0} (c : Costs V) (os : List Offer) (es : List ℕ) (n d : ℕ) → Marked c os (es ++ n ∷ []) n
    → d ≡ length es
    → weighed c (offer_at os (n - 1)) ≡ weighed c (offer_at os (begins_at (es ++ n ∷ []) d))
in_last c os es n d m e =
    let l = length_more es n in
    let f = ends_last es n d e in
    let h = m.classes d (omega arith) in
    let s = h.some in
    h.same (n - 1) (omega arith) (omega arith)

pub split : {V : Type 0} (c : Costs V) (os : List Offer) (es : List ℕ) (n : ℕ) → Marked c os (es ++ n ∷ []) n
    → dearer c (offer_at os (n - 1)) (offer_at os n) ≡ true → Marked c os ((es ++ n ∷ []) ++ (n + 1) ∷ []) (n + 1)
split c os es n m h = opened c os (es ++ n ∷ []) n m (λ d e.
    let l = length_more es n in
    rw (← in_last c os es n d m (omega arith)) h)

joined_classes : {V : Type 0} (c : Costs V) (os : List Offer) (es : List ℕ) (n : ℕ) → Marked c os (es ++ n ∷ []) n
    → weighed c (offer_at os n) ≡ weighed c (offer_at os (n - 1)) → (d : ℕ) → d < length (es ++ (n + 1) ∷ [])
    → OneCost c os (begins_at (es ++ (n + 1) ∷ []) d) (ends_at (es ++ (n + 1) ∷ []) d)
joined_classes c os es n m h d lt =
    let l = length_more es (n + 1) in
    let k = length_more es n in
    let b = begins_more es (n + 1) d (omega arith) ∙ sym (begins_more es n d (omega arith)) in
    let one = m.classes d (omega arith) in
    ⊎_elim (λ below. at_ends c os _ _ _ _ b (ends_more es (n + 1) d below ∙ sym (ends_more es n d below)) one)
    (λ from. let e : d ≡ length es = omega arith in
    at_ends c os _ _ _ (n + 1) b (ends_last es (n + 1) d e)
    (longer c os _ n (rw (ends_last es n d e) at one) (h ∙ in_last c os es n d m e)))
    (cases_lt d (length es))

joined_apart : {V : Type 0} (c : Costs V) (os : List Offer) (es : List ℕ) (n : ℕ) → Marked c os (es ++ n ∷ []) n
    → (d : ℕ) → d + 1 < length (es ++ (n + 1) ∷ [])
    → dearer c (offer_at os (begins_at (es ++ (n + 1) ∷ []) d)) (offer_at os (ends_at (es ++ (n + 1) ∷ []) d)) ≡ true
joined_apart c os es n m d lt =
    let l = length_more es (n + 1) in
    let k = length_more es n in
    let b = begins_more es (n + 1) d (omega arith) ∙ sym (begins_more es n d (omega arith)) in
    let f = ends_more es (n + 1) d (omega arith) ∙ sym (ends_more es n d (omega arith)) in
    apart_at c os _ _ _ _ b f (m.apart d (omega arith))

-- entries in order cost the same where the later one is not dearer
same_cost : {V : Type 0} (c : Costs V) → CostLaws c → (o p : Offer) → c.at_most (weighed c o) (weighed c p) ≡ true
    → dearer c o p ≡ false → weighed c p ≡ weighed c o
same_cost c laws o p h k = laws.ties (weighed c p) (weighed c o) (grind (arith, nat_tests)) h

pub joined : {V : Type 0} (c : Costs V) → CostLaws c → (os : List Offer) (es : List ℕ) (n : ℕ) → CheapestFirst c os
    → n < length os → Marked c os (es ++ n ∷ []) n → dearer c (offer_at os (n - 1)) (offer_at os n) ≡ false
    → Marked c os (es ++ (n + 1) ∷ []) (n + 1)
joined c laws os es n up lt m h = record {
  whole = begins_last es (n + 1);
  classes = joined_classes c os es n m
      (same_cost c laws (offer_at os (n - 1)) (offer_at os n) (up (n - 1) n (omega arith) lt) h);
  apart = joined_apart c os es n m;
}

-- as many classes end so far as there are entries at most
pub room : {V : Type 0} (c : Costs V) (os : List Offer) (es : List ℕ) (n : ℕ) → Marked c os es n
    → (d : ℕ) → d ≤ length es → d ≤ begins_at es d
room c os es n m zero le = omega arith
room c os es n m (suc d) le =
    let h = room c os es n m d (omega arith) in
    let k = m.classes d (omega arith) in
    let s = k.some in
    omega arith

pub fewer : {V : Type 0} (c : Costs V) (os : List Offer) (es : List ℕ) (n : ℕ) → Marked c os (es ++ n ∷ []) n
    → length es < n
fewer c os es n m =
    let l = length_more es n in
    let r = room c os (es ++ n ∷ []) n m (length (es ++ n ∷ [])) (omega arith) in
    omega (arith, m.whole)
