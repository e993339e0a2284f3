-- Lists cut at a length. Assumes nothing.
use Rattle.std.proofs.Common.{◌≡◌, ℕ, List, ◌++◌, take, rules, arith}
use Rattle.std.proofs.lemmas.Grind.{common_steps}

-- what lies past the cut does not matter to what follows
pub capped_append : {X : Type 0} (n : ℕ) (xs ys : List X) → take n (take n xs ++ ys) ≡ take n (xs ++ ys)
capped_append n xs ys = grind (arith, common_steps)

-- one more piece after a list that was cut
pub capped_more : {X : Type 0} (n : ℕ) (xs ys was after : List X) → was ≡ take n xs → after ≡ take n (was ++ ys)
    → after ≡ take n (xs ++ ys)
capped_more n xs ys was after e f = search (rules, capped_append)
