-- Sequences of motions.
--     Sequence     none, or a sequence and then one motion more, by its number
--     listed w     the motions of w, the first one first
--     sequence ns  the sequence of the motions ns
--     count w      how many motions w has
use Rattle.std.specs.Prelude.{ℕ, ◌+◌, List, [], ◌∷◌, ◌++◌, fold}

pub data Sequence : Type 0 where
  none : Sequence
  then : Sequence → ℕ → Sequence

abbrev pub listed : Sequence → List ℕ
listed none = []
listed (then w n) = listed w ++ (n ∷ [])

abbrev pub sequence : List ℕ → Sequence
sequence ns = fold then none ns

abbrev pub count : Sequence → ℕ
count none = 0
count (then w n) = count w + 1
