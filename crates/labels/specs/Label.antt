-- What a label says of its state, and which number it holds.
--     note f l      the note that the label l is, where f tells the value of a cost
--     unnoted v     the note of no label
--     noted f v ls  the notes of the labels ls, by the states' numbers; v is the value of no cost
--     step_of l     the number that l holds
use Rattle.std.specs.Prelude.{ℕ, List, map, slice_index_or}
use Rattle.labels.specs.Note.{Note}
use Rattle.labels.specs.declared.label.Label.{Label}
use Rattle.labels.specs.declared.label.Stage.TheVariants.{Unreached}

abbrev pub note : {K V : Type 0} → (K → V) → Label K → Note V
note f l = record { stage = l.stage; cost = f l.cost; motion = l.motion; from = l.from }

abbrev pub unnoted : {V : Type 0} → V → Note V
unnoted v = record { stage = Unreached; cost = v; motion = 0; from = 0 }

abbrev pub noted : {K V : Type 0} → (K → V) → V → List (Label K) → ℕ → Note V
noted f v ls j = slice_index_or (map (note f) ls) j (unnoted v)

abbrev pub step_of : {K : Type 0} → Label K → ℕ
step_of l = l.step
