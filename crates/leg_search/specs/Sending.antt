-- Sending the motions that labels hold.
--     Lengths bs n o    o is how many bytes bs are, if they are not more than n
--     Writes bs xs ys o the bytes bs are written at the start of xs, which gives ys, and o is how many they are; or xs
--                       is too short for them, nothing has changed, and o is none
use Rattle.std.specs.Prelude.{◌≡◌, ℕ, ◌<◌, ◌≤◌, Some, None, List, ◌++◌, Option, length, drop}

abbrev pub Lengths : List ℕ → ℕ → Option ℕ → Type 0
Lengths bs n None = n < length bs
Lengths bs n (Some c) = (c ≡ length bs) × (c ≤ n)

abbrev pub Writes : List ℕ → List ℕ → List ℕ → Option ℕ → Type 0
Writes bs xs ys None = (length xs < length bs) × (ys ≡ xs)
Writes bs xs ys (Some c) = (c ≡ length bs) × (c ≤ length xs) × (ys ≡ bs ++ drop c xs)
