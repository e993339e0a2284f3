-- Which numbers are awake: the first of a row of places, in a heap. The others are asleep. D says which numbers are due,
-- s which of two comes first, and f i is the number at the place i.
--     AllDue D f e       the numbers at the first e places are due
--     NoneDue D f e k    those at the places from e up to k are not due
--     Rest D s f e       all is known of the first e but for the root: the other numbers are due, and come no later
--                        than their children
--     Parted D s f e k   of the first k places the first e have a heap of due numbers, and the others none that is due
use Rattle.std.specs.Prelude.{◌≡◌, ℕ, ◌<◌, ◌≤◌, Bool, true}
use Rattle.due_queue.specs.Heap.{Child, Heap}

pub record AllDue (D : ℕ → Type 0) (f : ℕ → ℕ) (e : ℕ) : Type 0 where
  pub due : (i : ℕ) → i < e → D (f i)

pub record NoneDue (D : ℕ → Type 0) (f : ℕ → ℕ) (e k : ℕ) : Type 0 where
  pub none : (i : ℕ) → e ≤ i → i < k → D (f i) → ⊥

pub record Rest (D : ℕ → Type 0) (s : ℕ → ℕ → Bool) (f : ℕ → ℕ) (e : ℕ) : Type 0 where
  pub due : (i : ℕ) → 0 < i → i < e → D (f i)
  pub order : (p i : ℕ) → 0 < p → Child p i → i < e → s (f p) (f i) ≡ true

pub record Parted (D : ℕ → Type 0) (s : ℕ → ℕ → Bool) (f : ℕ → ℕ) (e k : ℕ) : Type 0 where
  pub within : e ≤ k
  pub awake : AllDue D f e
  pub heap : Heap s f e
  pub asleep : NoneDue D f e k
