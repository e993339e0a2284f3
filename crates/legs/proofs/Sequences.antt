-- A sequence and its motions tell the same. Assumes nothing.
use Rattle.std.proofs.Common.{◌≡◌, ◌∙◌, [], ◌∷◌, refl, ap}
use Rattle.std.proofs.lemmas.List.Sums.{fold-append}
use Rattle.legs.specs.Sequence.{Sequence, listed, none, sequence, then}

pub sequence_listed : (w : Sequence) → sequence (listed w) ≡ w
sequence_listed none = refl
sequence_listed (then w n) =
    fold-append then none (listed w) (n ∷ []) ∙ ap (λ (x : Sequence). then x n) (sequence_listed w)
