-- Lists of glyphs, as a picture changes. Assumes nothing.
use Rattle.std.proofs.Common.{◌≡◌, ℕ, ◌*◌, ◌-◌, ◌≤◌, List, ◌++◌, length, take, drop, rules}
use Rattle.std.proofs.lemmas.List.{length-drop, take_at}

-- a list rotated by n keeps its rest in front
pub rotated_front : {X : Type 0} (n : ℕ) (xs : List X) → n ≤ length xs
    → take (length xs - n) (drop n xs ++ take n xs) ≡ drop n xs
rotated_front n xs h = take_at (drop n xs) (take n xs) (length xs - n) (length-drop n xs)

-- a row is no longer than the picture
pub row_within : (rows columns : ℕ) → 1 ≤ rows → columns ≤ rows * columns
row_within rows columns h = search rules
