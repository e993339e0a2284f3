-- Two places change their numbers. Each place then has the number of one place before, so a numbering stays one.
use Rattle.std.proofs.Common.{◌≡◌, ◌≢◌, ◌⊎◌, inl, inr, ◌∙◌, ℕ, ◌<◌, List, Bool, true, false, ◌==◌, refl, sym, ap, subst, arith}
use Rattle.std.proofs.lemmas.Bool.Decides.{nat_tests}
use Rattle.std.proofs.lemmas.List.Edits.{Swapped}
use Rattle.std.specs.List.{SwappedAt}
use Rattle.due_queue.specs.Awake.{AllDue}
use Rattle.due_queue.specs.Numbering.{Numbering, Shuffled, placed}

pub same_or_not : (i j : ℕ) → (i ≡ j) ⊎ (i ≢ j)
same_or_not i j = by_cases (i == j) refl
  where
    by_cases : (b : Bool) → (i == j) ≡ b → (i ≡ j) ⊎ (i ≢ j)
    by_cases true e = inl (grind (arith, nat_tests))
    by_cases false e = inr (grind (arith, nat_tests))

pub swapped : (xs ys : List ℕ) (a b : ℕ) → SwappedAt xs ys a b → Swapped (placed xs) (placed ys) a b
swapped xs ys a b h = (h.0 0, h.1 0, λ m x y. h.2 m 0 x y)

module _ (n : ℕ) (f g : ℕ → ℕ) (a b : ℕ) (in_a : a < n) (in_b : b < n) (w : Swapped f g a b) where
  -- the place that had a place's number
  record From (i : ℕ) : Type 0 where
    pub place : ℕ
    pub same : g i ≡ f place
    pub below : i < n → place < n
    pub way : ((i ≡ a) × (place ≡ b)) ⊎ (((i ≡ b) × (place ≡ a)) ⊎ ((i ≢ a) × (i ≢ b) × (place ≡ i)))

  from : (i : ℕ) → From i
  from i = by_cases (same_or_not i a) (same_or_not i b)
    where
      by_cases : (i ≡ a) ⊎ (i ≢ a) → (i ≡ b) ⊎ (i ≢ b) → From i
      by_cases (inl e) h = record { place = b; same = ap g e ∙ w.0; below = λ _. in_b; way = inl (e, refl) }
      by_cases (inr e) (inl h) = record { place = a; same = ap g h ∙ w.1; below = λ _. in_a; way = inr (inl (h, refl)) }
      by_cases (inr e) (inr h) = record {
        place = i;
        same = w.2 i e h;
        below = λ lt. lt;
        way = inr (inr (e, h, refl));
      }

  apart : (i j : ℕ) (p : From i) (q : From j) → p.place ≡ q.place → i ≡ j
  apart i j p q e = by_cases p.way q.way
    where
      by_cases : ((i ≡ a) × (p.place ≡ b)) ⊎ (((i ≡ b) × (p.place ≡ a)) ⊎ ((i ≢ a) × (i ≢ b) × (p.place ≡ i)))
          → ((j ≡ a) × (q.place ≡ b)) ⊎ (((j ≡ b) × (q.place ≡ a)) ⊎ ((j ≢ a) × (j ≢ b) × (q.place ≡ j))) → i ≡ j
      by_cases (inl x) (inl y) = omega arith
      by_cases (inl x) (inr (inl y)) = omega arith
      by_cases (inl x) (inr (inr y)) = absurd (y.1 (omega arith))
      by_cases (inr (inl x)) (inl y) = omega arith
      by_cases (inr (inl x)) (inr (inl y)) = omega arith
      by_cases (inr (inl x)) (inr (inr y)) = absurd (y.0 (omega arith))
      by_cases (inr (inr x)) (inl y) = absurd (x.1 (omega arith))
      by_cases (inr (inr x)) (inr (inl y)) = absurd (x.0 (omega arith))
      by_cases (inr (inr x)) (inr (inr y)) = omega arith

  numbering : Numbering n f → Numbering n g
  numbering h = record {
    below = λ i lt. subst (λ (x : ℕ). x < n) (sym (from i).same) (h.below _ ((from i).below lt));
    apart = λ i j x y e. apart i j (from i) (from j)
        (h.apart _ _ ((from i).below x) ((from j).below y) (sym (from i).same ∙ (e ∙ (from j).same)));
    somewhere = λ y lt. let o = h.somewhere y lt in by_cases y o.0 o.1 o.2 (same_or_not o.0 a) (same_or_not o.0 b);
  }
    where
      by_cases : (y i : ℕ) → i < n → f i ≡ y → (i ≡ a) ⊎ (i ≢ a) → (i ≡ b) ⊎ (i ≢ b)
          → (j : ℕ) × (j < n) × (g j ≡ y)
      by_cases y i lt e (inl x) z = (b, in_b, w.1 ∙ (ap f (sym x) ∙ e))
      by_cases y i lt e (inr x) (inl z) = (a, in_a, w.0 ∙ (ap f (sym z) ∙ e))
      by_cases y i lt e (inr x) (inr z) = (i, lt, w.2 i x z ∙ e)

  pub swap_shuffles : (e : ℕ) → a < e → b < e → Shuffled n f g e
  swap_shuffles e x y = record {
    above = λ i le. w.2 i (λ (q : i ≡ a). absurd (omega arith)) (λ (q : i ≡ b). absurd (omega arith));
    moved = λ i lt. ((from i).place, by_way i lt (from i).place (from i).way, (from i).same);
    numbering = numbering;
  }
    where
      by_way : (i : ℕ) → i < e → (p : ℕ)
          → ((i ≡ a) × (p ≡ b)) ⊎ (((i ≡ b) × (p ≡ a)) ⊎ ((i ≢ a) × (i ≢ b) × (p ≡ i))) → p < e
      by_way i lt p (inl z) = omega arith
      by_way i lt p (inr (inl z)) = omega arith
      by_way i lt p (inr (inr z)) = omega arith

pub still : (n : ℕ) (f : ℕ → ℕ) (e : ℕ) → Shuffled n f f e
still n f e = record { above = λ i le. refl; moved = λ i lt. (i, lt, refl); numbering = λ h. h }

pub then_shuffled : (n : ℕ) (f g h : ℕ → ℕ) (e : ℕ) → Shuffled n f g e → Shuffled n g h e → Shuffled n f h e
then_shuffled n f g h e x y = record {
  above = λ i le. y.above i le ∙ x.above i le;
  moved = λ i lt. let j = y.moved i lt in let k = x.moved j.0 j.1 in (k.0, k.1, j.2 ∙ k.2);
  numbering = λ z. y.numbering (x.numbering z);
}

pub shuffled_due : (D : ℕ → Type 0) (n : ℕ) (f g : ℕ → ℕ) (e : ℕ) → Shuffled n f g e → AllDue D f e → AllDue D g e
shuffled_due D n f g e x y = record { due = λ i lt. let j = x.moved i lt in subst D (sym j.2) (y.due j.0 j.1) }
