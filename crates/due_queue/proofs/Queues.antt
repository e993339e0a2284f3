-- What is known of a queue from one answer to the next. The number that was answered stands at the root, and no other
-- place has it, so a change of its rank touches nothing that is known of the others.
use Rattle.std.proofs.Common.{◌≡◌, ◌≢◌, ◌⊎◌, inl, inr, ◌∙◌, ℕ, ◌+◌, ◌<◌, ◌≤◌, Bool, true, List, length, take, Option, Some, None, sym, ap, subst, arith, get_or-set_other, get_or-set_same, get_or-take}
use Rattle.std.proofs.Math.ListN.{set}
use Rattle.due_queue.specs.Numbering.{Numbering, placed}
use Rattle.due_queue.specs.Queue.{Answered, ChangedAt, FirstDue, Fresh, Places, Ready}
use Rattle.due_queue.specs.Rank.{RankLaws}
use Rattle.due_queue.proofs.Heaps.{earlier, root_first}
use Rattle.due_queue.proofs.Swaps.{same_or_not}

-- one place more has its own number
pub turn : (xs : List ℕ) (n : ℕ) → n < length xs → ((i : ℕ) → i < n → placed xs i ≡ i)
    → (i : ℕ) → i < n + 1 → placed (set xs n n) i ≡ i
turn xs n h k i lt = by_cases (same_or_not i n)
  where
    by_cases : (i ≡ n) ⊎ (i ≢ n) → placed (set xs n n) i ≡ i
    by_cases (inl z) = ap (placed (set xs n n)) z ∙ (get_or-set_same xs n n 0 h ∙ sym z)
    by_cases (inr z) = get_or-set_other xs n i n 0 z ∙ k i (omega arith)

-- numbers in their turn are a numbering
pub numbered_in_turn : (xs : List ℕ) (n : ℕ) → ((i : ℕ) → i < n → placed xs i ≡ i) → Numbering n (placed (take n xs))
numbered_in_turn xs n h = record {
  below = λ i lt. subst (λ (x : ℕ). x < n) (sym (own i lt)) lt;
  apart = λ i j x y e. sym (own i x) ∙ (e ∙ own j y);
  somewhere = λ y lt. (y, lt, own y lt);
}
  where
    own : (i : ℕ) → i < n → placed (take n xs) i ≡ i
    own i lt = get_or-take n xs i 0 lt ∙ h i lt

-- a new queue is ready for any rank: none is awake in it
pub ready_new : (D : ℕ → Type 0) (s : ℕ → ℕ → Bool) (q : Places) (n : ℕ) → Fresh n q → Ready D s q true
ready_new D s q n f = record {
  rest = record {
    due = λ i pos lt. absurd (let z = f.none in omega arith);
    order = λ p i pos child lt. absurd (let z = f.none in omega arith);
  };
  asleep = λ e. absurd cc;
}

module _ (D : ℕ → Type 0) (s : ℕ → ℕ → Bool) where
  -- the number at the root is due first
  pub first_due : RankLaws D s → (q : Places) (o : Option ℕ) → Answered D s q o → FirstDue D s (length q.numbers) o
  first_due laws q None a = λ y lt d.
      let at = a.numbering.somewhere y lt in
      a.parted.asleep.none at.0 (let z = a.root in omega arith) at.1 (subst D (sym at.2) d)
  first_due laws q (Some x) a = record {
    below = subst (λ (z : ℕ). z < n) a.root.1 (a.numbering.below 0 (omega arith));
    due = subst D a.root.1 (a.parted.awake.due 0 a.root.0);
    first = λ y lt d. let at = a.numbering.somewhere y lt in by_cases y at.0 at.1 at.2 d (at_least at.0 q.awake);
  }
    where
      n : ℕ
      n = length q.numbers

      at_least : (i e : ℕ) → (i < e) ⊎ (e ≤ i)
      at_least i e = grind arith

      by_cases : (y i : ℕ) → i < n → placed q.numbers i ≡ y → D y → (i < q.awake) ⊎ (q.awake ≤ i) → s x y ≡ true
      by_cases y i lt e d (inl h) =
          let k = root_first D s laws (placed q.numbers) q.awake a.parted.awake a.parted.heap i h in
          let r = a.root.1 in cc
      by_cases y i lt e d (inr h) = absurd (a.parted.asleep.none i h lt (subst D (sym e) d))

  module _ (D' : ℕ → Type 0) (s' : ℕ → ℕ → Bool) (q : Places) where
    -- a queue that has answered is ready once the rank of that number alone is another
    pub ready_again : (x : ℕ) (g : Bool) → Answered D s q (Some x) → ChangedAt D s D' s' (length q.numbers) x g
        → Ready D' s' q g
    ready_again x g a h = record {
      rest = record {
        due = λ i pos lt. h.still_due (placed q.numbers i) (below i lt) (other i pos lt) (a.parted.awake.due i lt);
        order = λ p i pos child lt.
            let l = earlier p i child in
            h.order (placed q.numbers p) (placed q.numbers i) (below p (omega arith)) (below i lt)
            (other p pos (omega arith)) (other i (omega arith) lt) (a.parted.awake.due p (omega arith))
            (a.parted.awake.due i lt) ∙ a.parted.heap.order p i child lt;
      };
      asleep = λ e. record {
        none = λ i le lt d. a.parted.asleep.none i le lt
            (h.none_new e (placed q.numbers i) (a.numbering.below i lt)
            (apart i (let z = a.root.0 in omega arith) lt) d);
      };
    }
      where
        apart : (i : ℕ) → 0 < i → i < length q.numbers → placed q.numbers i ≢ x
        apart i pos lt e =
            let z = a.numbering.apart i 0 lt (omega arith) (e ∙ sym a.root.1) in absurd (omega arith)

        below : (i : ℕ) → i < q.awake → placed q.numbers i < length q.numbers
        below i lt = let w = a.parted.within in a.numbering.below i (omega arith)

        other : (i : ℕ) → 0 < i → i < q.awake → placed q.numbers i ≢ x
        other i pos lt = let w = a.parted.within in apart i pos (omega arith)
