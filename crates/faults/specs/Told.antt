-- What is told of a refusal.
--     Told          its number and its values
--     tell n vs     the number n and the values vs
--     told f        the number that the rules give the refusal f, and its values: a row and a column, the length that
--                   is needed, or nothing
--     value_word n  a space and the value n in decimal
--     words t       the number and the values in decimal, with spaces between them
use Rattle.std.specs.Prelude.{ℕ, List, [], ◌∷◌, ◌++◌, codes, decimal}
use Rattle.std.specs.List.{flat_map}
use Rattle.faults.specs.declared.fault.Fault.{Fault}
use Rattle.faults.specs.declared.fault.Fault.TheVariants.{Outside, NotCode, NotPen, UnsafeCorner, NotDrawn, NoSequence, OutputTooShort, TooSmall}

pub record Told : Type 0 where
  pub number : ℕ
  pub values : List ℕ

abbrev pub tell : ℕ → List ℕ → Told
tell n vs = record { number = n; values = vs }

abbrev pub told : Fault → Told
told (Outside r c) = tell 1 (r ∷ c ∷ [])
told (NotCode r c) = tell 2 (r ∷ c ∷ [])
told (NotPen r c) = tell 3 (r ∷ c ∷ [])
told (UnsafeCorner r c) = tell 4 (r ∷ c ∷ [])
told NotDrawn = tell 5 []
told (NoSequence r c) = tell 6 (r ∷ c ∷ [])
told (OutputTooShort n) = tell 7 (n ∷ [])
told TooSmall = tell 8 []

abbrev pub value_word : ℕ → List ℕ
value_word n = codes " " ++ decimal n

abbrev pub words : Told → List ℕ
words t = decimal t.number ++ flat_map value_word t.values
