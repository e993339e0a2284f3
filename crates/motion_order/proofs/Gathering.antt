-- One entry for each number makes all of them, and a sort only moves entries.
use Rattle.std.proofs.Common.{◌≡◌, ◌≢◌, eqb, map, ℕ, ◌+◌, ◌<◌, List, [], ◌∷◌, ◌++◌, length, refl, arith, IsPermutation, sym, ap, ◌∙◌}
use Rattle.std.proofs.lemmas.Bool.Decides.{Decides-eqb, nat_tests}
use Rattle.std.proofs.lemmas.Grind.{common_steps}
use Rattle.std.proofs.lemmas.List.{get_or-map, get_or_read, length-map}
use Rattle.std.proofs.lemmas.List.Elements.{All-get_or, All-nil, All-push, Contains-get_or}
use Rattle.std.proofs.lemmas.List.Sorted.{All-permutation, Contains-permutation, IsPermutation-map}
use Rattle.std.proofs.lemmas.Map.Keys.{IsDistinct-IsPermutation, apart_from_distinct}
use Rattle.std.proofs.lemmas.Map.Made.{IsDistinct-from_AllPairs}
use Rattle.std.specs.List.{IsDistinct}
use Rattle.cost.specs.Costs.{CostLaws, Costs}
use Rattle.motion_order.specs.declared.offer.Offer.{Offer}
use Rattle.motion_order.specs.Gathered.{Gathered, Sorted}
use Rattle.motion_order.specs.InOrder.{InOrder, Told, offer_at, unoffered}
use Rattle.motion_order.proofs.Sorting.{cheapest_first, not_later}
use Rattle.panel.specs.Answers.{Answers}

pub none : (a : Answers) → Gathered a 0 []
none a = record { size = refl; told = All-nil (Told a); numbered = λ j h. absurd (omega arith) }

numbered_more : (n : ℕ) (os : List Offer) (o : Offer) → length os ≡ n → o.motion ≡ n
    → ((j : ℕ) → j < length os → (offer_at os j).motion ≡ j)
    → (j : ℕ) → j < length (os ++ o ∷ []) → (offer_at (os ++ o ∷ []) j).motion ≡ j
numbered_more n os o size e h j lt = grind (arith, common_steps)

pub more : (a : Answers) (n : ℕ) (os : List Offer) (o : Offer) → Gathered a n os → o.motion ≡ n → Told a o
    → Gathered a (n + 1) (os ++ o ∷ [])
more a n os o g e t = record {
  size = grind (arith, common_steps);
  told = All-push (Told a) os o g.told t;
  numbered = numbered_more n os o g.size e g.numbered;
}

-- the entry of a number stands somewhere in the list once it is sorted
moved : (os ps : List Offer) (n : ℕ) → IsPermutation os ps → n < length os → (offer_at os n).motion ≡ n
    → (j : ℕ) × (j < length ps) × ((offer_at ps j).motion ≡ n)
moved os ps n p lt e = let at = Contains-permutation os ps (offer_at os n) p (Contains-get_or os n unoffered lt)
    in (at.0, at.1, ap (λ (o : Offer). o.motion) (sym (get_or_read ps at.0 _ at.1 (sym at.2) unoffered)) ∙ e)

abbrev number : Offer → ℕ
number o = o.motion

distinct : (os : List Offer) → ((j : ℕ) → j < length os → (offer_at os j).motion ≡ j) → IsDistinct eqb (map number os)
distinct os numbered = IsDistinct-from_AllPairs Decides-eqb (map number os) (λ i j d before lt e.
    let l = length-map os number in
    let a = get_or-map number os i unoffered d (omega arith) in
    let b = get_or-map number os j unoffered d (omega arith) in
    let f = numbered i (omega arith) in
    let g = numbered j (omega arith) in
    omega arith)

-- no two entries have one number, and a sort does not change that
differ : (os ps : List Offer) → ((j : ℕ) → j < length os → (offer_at os j).motion ≡ j) → IsPermutation os ps
    → (i j : ℕ) → i < j → j < length ps → (offer_at ps i).motion ≢ (offer_at ps j).motion
differ os ps numbered p i j before lt e =
    let q = IsPermutation-map number os ps p in
    let d = IsDistinct-IsPermutation eqb (λ x y. grind (arith, nat_tests)) _ _ q (distinct os numbered) in
    let h = apart_from_distinct eqb (map number ps) i j 0 d before (omega (arith, length-map ps number)) in
    let a = get_or-map number ps i unoffered 0 (omega arith) in
    let b = get_or-map number ps j unoffered 0 lt in
    grind (arith, nat_tests)

pub in_order : {V : Type 0} (c : Costs V) → CostLaws c → (a : Answers) (os ps : List Offer)
    → Gathered a (a.motions + 1) os → IsPermutation os ps → Sorted c ps → InOrder c a ps
in_order c laws a os ps g p by = record {
  told = λ j lt. All-get_or (Told a) ps j unoffered lt (All-permutation (Told a) os ps p g.told);
  all = λ n le. moved os ps n p (omega arith) (g.numbered n (omega arith));
  cheapest_first = cheapest_first c ps by;
  by_number = λ i j before lt e. let h = not_later c laws (offer_at ps i) (offer_at ps j) (by i j (omega arith) lt) e in
      let k = differ os ps g.numbered p i j before lt in
      omega arith;
}
