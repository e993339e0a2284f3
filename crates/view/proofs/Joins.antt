-- One piece after the other. Assumes nothing.
use Rattle.std.proofs.Common.{◌≡◌, List, ◌++◌, append_assoc, rules}

pub then_more : {X : Type 0} (start was after x y : List X) → was ≡ start ++ x → after ≡ was ++ y
    → after ≡ start ++ (x ++ y)
then_more start was after x y e f = search (rules, append_assoc)
