-- Why a cell cannot be put.
--     first_cause cs       what is told of the first of the causes cs that applies
--     is_on z r c          the row r and the column c are those of a place on a panel of size z
--     is_corner z r c      they are those of its last place
--     is_blank n p         the code n and the pen p are those of a blank
--     put_causes a A r c n p
--                          the causes why the code n in the pen p cannot be put at the row r and the column c of a
--                          panel with the answers a, in their order; A says which codes and pens the cells admit
--     put_cause            what is told of the first of them that applies, if any does
--     Judged f r c n p x   nothing is against it, and x is a cell that means the code and the pen, and its place; f
--                          tells what a cell means
--     Judges f r c n p y   y is the answer to it: such a cell and its place; or why not
--     glyph_cause a A n g  the first cause of the glyph g at the place with the number n
--     cell_cause a A gs n  the same of the cell at that place in the picture gs
--     FirstBad a A gs t    t tells why the first cell that cannot be put, by its number, cannot
--     AllGood a A gs       every cell can be put
--     Checks a A gs r      r is the answer for the whole picture: why its first bad cell cannot be put, or nothing
use Rattle.std.specs.Prelude.{◌≡◌, ℕ, ◌-◌, ◌*◌, ◌/◌, ◌%◌, ◌<◌, Bool, cond, not, ◌&&◌, ◌==◌, List, [], ◌∷◌, Some, None, Option, Result, Ok, Err, nat_lt, slice_index_or}
use Rattle.display.specs.Cell.{blank, glyph_of, is_code}
use Rattle.display.specs.Place.{On}
use Rattle.display.specs.Surface.{place_of}
use Rattle.display.specs.declared.cell.Glyph.{Glyph}
use Rattle.display.specs.declared.size.Size.{Size}
use Rattle.faults.specs.Told.{Told, tell, told}
use Rattle.faults.specs.declared.fault.Fault.{Fault}
use Rattle.faults.specs.declared.judge.Placed.{Placed}
use Rattle.panel.specs.Answers.{Answers}

abbrev pub first_cause : List (Bool × Told) → Option Told
first_cause [] = None
first_cause ((b, t) ∷ cs) = cond b (Some t) (first_cause cs)

abbrev pub is_on : Size → ℕ → ℕ → Bool
is_on z r c = nat_lt r z.rows && nat_lt c z.columns

abbrev pub is_corner : Size → ℕ → ℕ → Bool
is_corner z r c = r == z.rows - 1 && c == z.columns - 1

abbrev pub is_blank : ℕ → ℕ → Bool
is_blank n p = n == 32 && p == 0

module _ (a : Answers) (A : ℕ → ℕ → Bool) where
  abbrev pub put_causes : ℕ → ℕ → ℕ → ℕ → List (Bool × Told)
  put_causes r c n p =
      (not (is_on a.size r c), tell 1 (r ∷ c ∷ []))
      ∷ (not (is_code n), tell 2 (r ∷ c ∷ []))
      ∷ (not (nat_lt p a.pens && A n p), tell 3 (r ∷ c ∷ []))
      ∷ (not a.corner_safe && is_corner a.size r c && not (is_blank n p), tell 4 (r ∷ c ∷ []))
      ∷ []

  abbrev pub put_cause : ℕ → ℕ → ℕ → ℕ → Option Told
  put_cause r c n p = first_cause (put_causes r c n p)

  pub record Judged {C : Type 0} (f : C → Glyph) (r c n p : ℕ) (x : Placed C) : Type 0 where
    pub nothing_against : put_cause r c n p ≡ None
    pub place : x.place ≡ place_of r c
    pub on : On a.size x.place
    pub means : f x.cell ≡ glyph_of n p

  abbrev pub Judges : {C : Type 0} → (C → Glyph) → ℕ → ℕ → ℕ → ℕ → Result (Placed C) Fault → Type 0
  Judges f r c n p (Ok x) = Judged f r c n p x
  Judges f r c n p (Err why) = put_cause r c n p ≡ Some (told why)

  abbrev pub glyph_cause : ℕ → Glyph → Option Told
  glyph_cause n g = put_cause (n / a.size.columns) (n % a.size.columns) g.code g.pen

  abbrev pub cell_cause : List Glyph → ℕ → Option Told
  cell_cause gs n = glyph_cause n (slice_index_or gs n blank)

  pub record FirstBad (gs : List Glyph) (t : Told) : Type 0 where
    pub number : ℕ
    pub below : number < a.size.rows * a.size.columns
    pub is : cell_cause gs number ≡ Some t
    pub first : (n : ℕ) → n < number → cell_cause gs n ≡ None

  pub record AllGood (gs : List Glyph) : Type 0 where
    pub good : (n : ℕ) → n < a.size.rows * a.size.columns → cell_cause gs n ≡ None

  abbrev pub Checks : List Glyph → Option Fault → Type 0
  Checks gs None = AllGood gs
  Checks gs (Some why) = FirstBad gs (told why)
