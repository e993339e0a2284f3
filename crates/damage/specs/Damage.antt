-- The columns put in each row.
--     untouched          no column is put
--     least m n          the less of two columns
--     greatest m n       the greater of two columns
--     widened p c        p with the column c
--     added ps r c       the rows ps with the column c put in the row r, if there is such a row
--     hull cs            what is told once the columns cs are put, one after another
--     Ends cs f l        f is the least of the columns cs, and l the greatest
--     HullOf cs p        p tells of the columns cs: whether there is any, and then the least and the greatest
--     Spans p w o        o is the span of p on a panel of width w, or nothing where no column is put, or where they are
--                        no span of such a panel
--     CellsIn s xs o     o are the cells of the row xs from the first column of s to its last, or nothing where the row
--                        is not as wide as the panel
use Rattle.std.specs.Prelude.{◌≡◌, ℕ, ◌+◌, ◌-◌, ◌<◌, ◌≤◌, true, false, cond, ◌↔◌, List, length, drop, fold, take, All, Contains, Some, None, Option, nat_lt, slice_index_or, slice_set}
use Rattle.damage.specs.declared.damage.PutColumns.{PutColumns}
use Rattle.damage.specs.declared.span.Span.{Span}

abbrev pub untouched : PutColumns
untouched = record { first = 0; last = 0; any = false }

abbrev pub least : ℕ → ℕ → ℕ
least m n = cond (nat_lt m n) m n

abbrev pub greatest : ℕ → ℕ → ℕ
greatest m n = cond (nat_lt m n) n m

abbrev pub widened : PutColumns → ℕ → PutColumns
widened p c = cond p.any
    (record { first = least c p.first; last = greatest p.last c; any = true })
    (record { first = c; last = c; any = true })

abbrev pub added : List PutColumns → ℕ → ℕ → List PutColumns
added ps r c = slice_set ps r (widened (slice_index_or ps r untouched) c)

-- the columns are told in the order in which they were put
abbrev pub hull : List ℕ → PutColumns
hull cs = fold widened untouched cs

-- both ends are among the columns, and every column is from the one to the other
pub record Ends (cs : List ℕ) (f l : ℕ) : Type 0 where
  pub first : Contains cs f
  pub last : Contains cs l
  pub at_least : All (λ c. f ≤ c) cs
  pub at_most : All (λ c. c ≤ l) cs

pub record HullOf (cs : List ℕ) (p : PutColumns) : Type 0 where
  pub any : (p.any ≡ true) ↔ (0 < length cs)
  pub ends : 0 < length cs → Ends cs p.first p.last

abbrev pub Spans : PutColumns → ℕ → Option Span → Type 0
Spans p w None = (p.any ≡ true) × (p.first ≤ p.last) × (p.last < w) → ⊥
Spans p w (Some s) = (p.any ≡ true) × (s.first ≡ p.first) × (s.last ≡ p.last) × (s.width ≡ w)

abbrev pub CellsIn : {C : Type 0} → Span → List C → Option (List C) → Type 0
CellsIn s xs None = length xs ≡ s.width → ⊥
CellsIn s xs (Some cs) = (length xs ≡ s.width) × (cs ≡ take (s.last + 1 - s.first) (drop s.first xs))
