-- One step of a number down or up a heap, and the root. A place has one parent, and its own number is earlier in the
-- row than those of its children: so an exchange with a child touches the pairs of these two places alone.
use Rattle.std.proofs.Common.{◌≡◌, ◌≢◌, ◌⊎◌, inl, inr, ◌∙◌, ℕ, ◌+◌, ◌-◌, ◌/◌, ◌<◌, ◌≤◌, Bool, true, false, zero, suc, refl, sym, ap, subst, arith}
use Rattle.std.proofs.lemmas.List.Edits.{Swapped}
use Rattle.due_queue.specs.Awake.{AllDue}
use Rattle.due_queue.specs.Heap.{Child, FirstChild, Heap, RisesAt, SinksAt}
use Rattle.due_queue.specs.Rank.{RankLaws}
use Rattle.due_queue.proofs.Swaps.{same_or_not}

pub parent : (i : ℕ) → 0 < i → (p : ℕ) × Child p i
parent i h = ((i - 1) / 2, record { from = omega arith; to = omega arith })

one_parent : (p q i : ℕ) → Child p i → Child q i → p ≡ q
one_parent p q i x y = let a = x.from in let b = x.to in let c = y.from in let d = y.to in omega arith

pub earlier : (p i : ℕ) → Child p i → p < i
earlier p i x = let a = x.from in omega arith

module _ (s : ℕ → ℕ → Bool) (f g : ℕ → ℕ) (e : ℕ) where
  -- the number at p changes places with the first of its children
  module _ (p c : ℕ) (w : Swapped f g p c) (h : SinksAt s f e p) (first : FirstChild s f e p c)
      (sooner : s (f c) (f p) ≡ true) where
    pub sunk : SinksAt s g e c
    sunk = record {
      others = λ q i x lt ne. others q i x lt ne (same_or_not i p) (same_or_not i c) (same_or_not q p);
      past = λ q i x y lt. past q i x y lt (one_parent q p c x first.child);
    }
      where
        others : (q i : ℕ) → Child q i → i < e → q ≢ c → (i ≡ p) ⊎ (i ≢ p) → (i ≡ c) ⊎ (i ≢ c) → (q ≡ p) ⊎ (q ≢ p)
            → s (g q) (g i) ≡ true
        others q i x lt ne (inl a) b d =
            let x2 : Child q p = subst (λ (z : ℕ). Child q z) a x in
            let k = h.past q c x2 first.child first.within in
            let l = earlier q p x2 in
            let gq : g q ≡ f q = w.2 q (λ (z : q ≡ p). absurd (omega arith)) ne in
            let gi : g i ≡ f c = ap g a ∙ w.0 in cc
        others q i x lt ne (inr a) (inl b) d =
            let z : q ≡ p = one_parent q p c (subst (λ (z : ℕ). Child q z) b x) first.child in
            let gq : g q ≡ f c = ap g z ∙ w.0 in
            let gi : g i ≡ f p = ap g b ∙ w.1 in cc
        others q i x lt ne (inr a) (inr b) (inl d) =
            let k = first.first i (subst (λ (z : ℕ). Child z i) d x) lt in
            let gq : g q ≡ f c = ap g d ∙ w.0 in
            let gi : g i ≡ f i = w.2 i a b in cc
        others q i x lt ne (inr a) (inr b) (inr d) =
            let k = h.others q i x lt d in
            let gq : g q ≡ f q = w.2 q d ne in
            let gi : g i ≡ f i = w.2 i a b in cc

        past : (q i : ℕ) → Child q c → Child c i → i < e → q ≡ p → s (g q) (g i) ≡ true
        past q i x y lt z =
            let l = earlier q c x in
            let m = earlier c i y in
            let k = h.others c i y lt (λ (z2 : c ≡ p). absurd (omega arith)) in
            let gq : g q ≡ f c = ap g z ∙ w.0 in
            let gi : g i ≡ f i = w.2 i (λ (z2 : i ≡ p). absurd (omega arith)) (λ (z2 : i ≡ c). absurd (omega arith)) in
            cc

  -- the number at p changes places with its parent
  module _ (D : ℕ → Type 0) (laws : RankLaws D s) (due : AllDue D f e)
      (p q : ℕ) (below : p < e) (w : Swapped f g p q) (h : RisesAt s f e p) (child : Child q p)
      (sooner : s (f p) (f q) ≡ true) where
    chain : (a b c : ℕ) → a < e → b < e → c < e → s (f a) (f b) ≡ true → s (f b) (f c) ≡ true → s (f a) (f c) ≡ true
    chain a b c x y z = laws.transitive (f a) (f b) (f c) (due.due a x) (due.due b y) (due.due c z)

    q_below : q < e
    q_below = let l = earlier q p child in omega arith

    q_not_p : q ≢ p
    q_not_p z = let l = earlier q p child in absurd (omega arith)

    pub risen : RisesAt s g e q
    risen = record {
      others = λ r i x lt ne. others r i x lt ne (same_or_not i p) (same_or_not r q) (same_or_not r p);
      past = λ r i x y lt. past r i x y lt (same_or_not i p);
    }
      where
        others : (r i : ℕ) → Child r i → i < e → i ≢ q → (i ≡ p) ⊎ (i ≢ p) → (r ≡ q) ⊎ (r ≢ q) → (r ≡ p) ⊎ (r ≢ p)
            → s (g r) (g i) ≡ true
        others r i x lt ne (inl a) b d =
            let z : r ≡ q = one_parent r q p (subst (λ (z : ℕ). Child r z) a x) child in
            let gr : g r ≡ f p = ap g z ∙ w.1 in
            let gi : g i ≡ f q = ap g a ∙ w.0 in cc
        others r i x lt ne (inr a) (inl b) d =
            let k = chain p q i below q_below lt sooner (h.others q i (subst (λ (z : ℕ). Child z i) b x) lt a) in
            let gr : g r ≡ f p = ap g b ∙ w.1 in
            let gi : g i ≡ f i = w.2 i a ne in cc
        others r i x lt ne (inr a) (inr b) (inl d) =
            let k = h.past q i child (subst (λ (z : ℕ). Child z i) d x) lt in
            let gr : g r ≡ f q = ap g d ∙ w.0 in
            let gi : g i ≡ f i = w.2 i a ne in cc
        others r i x lt ne (inr a) (inr b) (inr d) =
            let k = h.others r i x lt a in
            let gr : g r ≡ f r = w.2 r d b in
            let gi : g i ≡ f i = w.2 i a ne in cc

        past : (r i : ℕ) → Child r q → Child q i → i < e → (i ≡ p) ⊎ (i ≢ p) → s (g r) (g i) ≡ true
        past r i x y lt (inl a) =
            let l = earlier r q x in
            let m = earlier q p child in
            let k = h.others r q x q_below q_not_p in
            let gr : g r ≡ f r = w.2 r (λ (z : r ≡ p). absurd (omega arith)) (λ (z : r ≡ q). absurd (omega arith)) in
            let gi : g i ≡ f q = ap g a ∙ w.0 in cc
        past r i x y lt (inr a) =
            let l = earlier r q x in
            let m = earlier q p child in
            let m2 = earlier q i y in
            let k = chain r q i (omega arith) q_below lt (h.others r q x q_below q_not_p) (h.others q i y lt a) in
            let gr : g r ≡ f r = w.2 r (λ (z : r ≡ p). absurd (omega arith)) (λ (z : r ≡ q). absurd (omega arith)) in
            let gi : g i ≡ f i = w.2 i a (λ (z : i ≡ q). absurd (omega arith)) in cc

-- the number after a heap has no children there
pub rises_first : (s : ℕ → ℕ → Bool) (f : ℕ → ℕ) (e : ℕ) → Heap s f e → RisesAt s f (e + 1) e
rises_first s f e h = record {
  others = λ q i x lt ne. h.order q i x (omega arith);
  past = λ q i x y lt. let a = y.from in absurd (omega arith);
}

module _ (D : ℕ → Type 0) (s : ℕ → ℕ → Bool) (laws : RankLaws D s) (f : ℕ → ℕ) where
  no_later_than_itself : (a : ℕ) → D a → s a a ≡ true
  no_later_than_itself a d = by_cases (s a a) refl
    where
      by_cases : (b : Bool) → s a a ≡ b → s a a ≡ true
      by_cases true e = e
      by_cases false e = laws.total a a d d e

  -- the number at the root of a heap comes no later than any other
  pub root_first : (e : ℕ) → AllDue D f e → Heap s f e → (i : ℕ) → i < e → s (f 0) (f i) ≡ true
  root_first e due h i lt = within i i lt (omega arith)
    where
      step : {n : ℕ} → ((i : ℕ) → i < e → i ≤ n → s (f 0) (f i) ≡ true) → (i : ℕ) → i < e → i ≤ suc n
          → (i ≡ 0) ⊎ (i ≢ 0) → s (f 0) (f i) ≡ true
      step before i x y (inl z) = before i x (omega arith)
      step before i x y (inr z) =
          let p = parent i (omega arith) in
          let l = earlier p.0 i p.1 in
          laws.transitive (f 0) (f p.0) (f i) (due.due 0 (omega arith)) (due.due p.0 (omega arith)) (due.due i x)
          (before p.0 (omega arith) (omega arith)) (h.order p.0 i p.1 x)

      within : (n i : ℕ) → i < e → i ≤ n → s (f 0) (f i) ≡ true
      within zero i x y =
          let z : i ≡ 0 = omega arith in subst (λ (j : ℕ). s (f 0) (f j) ≡ true) (sym z)
          (no_later_than_itself (f 0) (due.due 0 (omega arith)))
      within (suc n) i x y = step (within n) i x y (same_or_not i 0)
