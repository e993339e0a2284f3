-- Cells laid out one after the other: each one more takes the place of the first cell behind them.
use Rattle.std.proofs.Common.{◌≡◌, ℕ, zero, suc, ◌+◌, ◌<◌, List, [], ◌∷◌, length, refl, ap, arith, slice_set, replicate, add-one}
use Rattle.screen.specs.Calls.{copied}

laid_next : {C : Type 0} (n : ℕ) (xs : List C) (x : C) → n < length xs
    → slice_set (copied n (replicate n x) xs) n x ≡ copied (suc n) (replicate (suc n) x) xs
laid_next zero [] x h = absurd (omega arith)
laid_next zero (y ∷ ys) x h = refl
laid_next (suc n) [] x h = absurd (omega arith)
laid_next (suc n) (y ∷ ys) x h = ap (λ zs. x ∷ zs) (laid_next n ys x (omega arith))

pub laid_more : {C : Type 0} (n : ℕ) (xs : List C) (x : C) → n < length xs
    → slice_set (copied n (replicate n x) xs) n x ≡ copied (n + 1) (replicate (n + 1) x) xs
laid_more n xs x h = rw add-one (laid_next n xs x h)
