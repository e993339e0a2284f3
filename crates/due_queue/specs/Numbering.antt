-- Numbers in a row of places, each at one.
--     placed xs          the number at each place of the list xs
--     Numbering n f      each number below n has its place below n, and no two places there have the same; f i is the
--                        number at the place i
--     Shuffled n f g e   g has the numbers of f, where those at the first e places may have changed places; n of them
--                        are a numbering still, if they were one
use Rattle.std.specs.Prelude.{◌≡◌, ℕ, ◌<◌, ◌≤◌, List, slice_index_or}

abbrev pub placed : List ℕ → ℕ → ℕ
placed xs i = slice_index_or xs i 0

pub record Numbering (n : ℕ) (f : ℕ → ℕ) : Type 0 where
  pub below : (i : ℕ) → i < n → f i < n
  pub apart : (i j : ℕ) → i < n → j < n → f i ≡ f j → i ≡ j
  pub somewhere : (y : ℕ) → y < n → (i : ℕ) × (i < n) × (f i ≡ y)

pub record Shuffled (n : ℕ) (f g : ℕ → ℕ) (e : ℕ) : Type 0 where
  pub above : (i : ℕ) → e ≤ i → g i ≡ f i
  pub moved : (i : ℕ) → i < e → (j : ℕ) × (j < e) × (g i ≡ f j)
  pub numbering : Numbering n f → Numbering n g
