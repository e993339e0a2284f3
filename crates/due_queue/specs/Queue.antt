-- Queues: some numbers in a row of places, of which the first are awake. The others are asleep: none of them is due.
-- D says which numbers are due, and s which of two comes first.
--     Places                       the numbers in the order of their places, and how many are awake
--     Fresh n q                    q has the first n numbers, 4097 of them at most, in their order, and none is awake
--     Earliest D s n x             x is one of the first n numbers, due, and no later than any of them that is due
--     FirstDue D s n o             o is such a number; there is one if any is due
--     Ready D s q g                all is known of q but for its root, and unless g holds none is due that sleeps
--     Root q o                     o is the number at the root, if any is awake
--     Answered D s q o             o was answered last of q, and nothing has changed since
--     ChangedAt D s D' s' n x g    D' and s' are at the first n numbers but for x what D and s were, and where g holds
--                                  others may have become due
use Rattle.std.specs.Prelude.{◌≡◌, ◌≢◌, ℕ, ◌<◌, Bool, true, false, List, length, Option, MatchOption, min}
use Rattle.due_queue.specs.Awake.{NoneDue, Parted, Rest}
use Rattle.due_queue.specs.Numbering.{Numbering, placed}

pub record Places : Type 0 where
  pub numbers : List ℕ
  pub awake : ℕ

pub record Fresh (n : ℕ) (q : Places) : Type 0 where
  pub size : length q.numbers ≡ min n 4097
  pub in_turn : (i : ℕ) → i < length q.numbers → placed q.numbers i ≡ i
  pub none : q.awake ≡ 0

pub record Earliest (D : ℕ → Type 0) (s : ℕ → ℕ → Bool) (n x : ℕ) : Type 0 where
  pub below : x < n
  pub due : D x
  pub first : (y : ℕ) → y < n → D y → s x y ≡ true

abbrev pub FirstDue : (ℕ → Type 0) → (ℕ → ℕ → Bool) → ℕ → Option ℕ → Type 0
FirstDue D s n o = MatchOption o ((y : ℕ) → y < n → D y → ⊥) (Earliest D s n)

pub record Ready (D : ℕ → Type 0) (s : ℕ → ℕ → Bool) (q : Places) (g : Bool) : Type 0 where
  pub rest : Rest D s (placed q.numbers) q.awake
  pub asleep : g ≡ false → NoneDue D (placed q.numbers) q.awake (length q.numbers)

abbrev pub Root : Places → Option ℕ → Type 0
Root q o = MatchOption o (q.awake ≡ 0) (λ x. (0 < q.awake) × (placed q.numbers 0 ≡ x))

pub record Answered (D : ℕ → Type 0) (s : ℕ → ℕ → Bool) (q : Places) (o : Option ℕ) : Type 0 where
  pub numbering : Numbering (length q.numbers) (placed q.numbers)
  pub parted : Parted D s (placed q.numbers) q.awake (length q.numbers)
  pub root : Root q o

pub record ChangedAt (D : ℕ → Type 0) (s : ℕ → ℕ → Bool) (D' : ℕ → Type 0) (s' : ℕ → ℕ → Bool) (n x : ℕ) (g : Bool)
    : Type 0 where
  pub still_due : (y : ℕ) → y < n → y ≢ x → D y → D' y
  pub order : (y z : ℕ) → y < n → z < n → y ≢ x → z ≢ x → D y → D z → s' y z ≡ s y z
  pub none_new : g ≡ false → (y : ℕ) → y < n → y ≢ x → D' y → D y
