-- A number that has slept is awake: the first of those that sleep has taken its place, and it rises in the heap.
use Rattle.std.proofs.Common.{◌≡◌, ◌≢◌, ◌⊎◌, inl, inr, ◌∙◌, ℕ, ◌+◌, ◌<◌, ◌≤◌, Bool, sym, subst, arith}
use Rattle.std.proofs.lemmas.List.Edits.{Swapped}
use Rattle.due_queue.specs.Awake.{Parted}
use Rattle.due_queue.specs.Heap.{Heap}
use Rattle.due_queue.specs.Numbering.{Shuffled}
use Rattle.due_queue.proofs.Swaps.{same_or_not, shuffled_due}

module _ (D : ℕ → Type 0) (s : ℕ → ℕ → Bool) (n : ℕ) (f g h : ℕ → ℕ) (e k : ℕ) (before : Parted D s f e k)
    (w : Swapped f g e k) (shuffled : Shuffled n g h (e + 1)) where
  due_next : D (f k) → (i : ℕ) → i < e + 1 → (i ≡ e) ⊎ (i ≢ e) → D (g i)
  due_next d i lt (inl z) = subst (λ (j : ℕ). D (g j)) (sym z) (subst D (sym w.0) d)
  due_next d i lt (inr z) =
      let y = before.within in
      subst D (sym (w.2 i z (λ (q : i ≡ k). absurd (omega arith)))) (before.awake.due i (omega arith))

  slept : (i : ℕ) → e + 1 ≤ i → i < k + 1 → (i ≡ k) ⊎ (i ≢ k) → D (h i) → ⊥
  slept i le lt (inl z) d = before.asleep.none e (omega arith) (omega arith)
      (subst D (shuffled.above i le ∙ (subst (λ (j : ℕ). g j ≡ f e) (sym z) w.1)) d)
  slept i le lt (inr z) d = before.asleep.none i (omega arith) (omega arith)
      (subst D (shuffled.above i le ∙ w.2 i (λ (q : i ≡ e). absurd (omega arith)) z) d)

  pub woken : D (f k) → Heap s h (e + 1) → Parted D s h (e + 1) (k + 1)
  woken d heap = record {
    within = let y = before.within in omega arith;
    awake = shuffled_due D n g h (e + 1) shuffled (record { due = λ i lt. due_next d i lt (same_or_not i e) });
    heap = heap;
    asleep = record { none = λ i le lt. slept i le lt (same_or_not i k) };
  }
