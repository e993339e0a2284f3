-- One motion more is written. Assumes nothing.
use Rattle.std.proofs.Common.{◌≡◌, ℕ, ◌+◌, ◌<◌, List, [], ◌∷◌, ◌++◌, length, get_or, map, take, arith}
use Rattle.std.proofs.lemmas.Grind.{common_steps}
use Rattle.std.proofs.lemmas.List.{map-append, take_more}
use Rattle.std.specs.List.{flat_map}
use Rattle.labels.specs.Label.{step_of}
use Rattle.labels.specs.declared.label.Label.{Label}
use Rattle.leg_view.specs.Report.{motion_word}

pub motions_more : {K : Type 0} (ls : List (Label K)) (i : ℕ) (l : Label K) (start was after : List ℕ) → i < length ls
    → l ≡ get_or ls i l → was ≡ start ++ flat_map motion_word (map step_of (take i ls))
    → after ≡ was ++ motion_word (step_of l)
    → after ≡ start ++ flat_map motion_word (map step_of (take (i + 1) ls))
motions_more ls i l start was after h e so_far more =
    grind (arith, common_steps, take_more ls i l h, map-append step_of (take i ls) (get_or ls i l ∷ []))
