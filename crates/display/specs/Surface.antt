-- What a panel holds besides its reading state.
--     Surface        a size, a picture row by row, the cursor, and the pen now set
--     corner s       the last place of a panel of size s
--     resting p      the cursor at p, unheld
--     stepped s p k  the cursor a column to the right of p, unheld; in the last column the cursor k
--     unless_held k o
--                    o, and nothing while the cursor k is held
--     pictured s p   s with the picture p
--     drawn s c      s with code c, in the pen now set, at the cursor's place
--     at_cursor s k  s with the cursor k
--     moved s p      s with the cursor at p, unheld
--     inked s p      s with pen p set
--     wiped z        all blanks, place (0, 0), unheld, pen 0
--     Told s p o     what is told of the cell at p: its glyph, or that there is no such place
--     Within P s     s is one that a panel with P pens can have
--     Fits P z s     s is one that a panel of size z with P pens can have
use Rattle.std.specs.Prelude.{◌≡◌, ℕ, ◌+◌, ◌-◌, ◌*◌, ◌<◌, Bool, true, false, cond, ◌&&◌, List, [], ◌∷◌, length, replicate, Some, None, Option, nat_lt, slice_index_or, slice_set}
use Rattle.std.specs.List.{AllByRecursion}
use Rattle.display.specs.Cell.{Code, blank, glyph_of, is_code}
use Rattle.display.specs.Place.{On, number}
use Rattle.display.specs.declared.cell.Glyph.{Glyph}
use Rattle.display.specs.declared.place.Cursor.{Cursor}
use Rattle.display.specs.declared.place.Place.{Place}
use Rattle.display.specs.declared.size.Size.{Size}

pub record Surface : Type 0 where
  pub size : Size
  pub picture : List Glyph
  pub cursor : Cursor
  pub pen : ℕ

abbrev pub place_of : ℕ → ℕ → Place
place_of r c = record { row = r; column = c }

abbrev pub corner : Size → Place
corner z = place_of (z.rows - 1) (z.columns - 1)

abbrev pub resting : Place → Cursor
resting p = record { place = p; held = false }

abbrev pub stepped : Size → Place → Cursor → Cursor
stepped s p k = cond (nat_lt (p.column + 1) s.columns) (resting (place_of p.row (p.column + 1))) k

abbrev pub unless_held : {X : Type 0} → Cursor → Option X → Option X
unless_held k o = cond k.held None o

abbrev pub pictured : Surface → List Glyph → Surface
pictured s p = record { size = s.size; picture = p; cursor = s.cursor; pen = s.pen }

abbrev pub drawn : Surface → ℕ → Surface
drawn s c = pictured s (slice_set s.picture (number s.size s.cursor.place) (glyph_of c s.pen))

abbrev pub at_cursor : Surface → Cursor → Surface
at_cursor s k = record { size = s.size; picture = s.picture; cursor = k; pen = s.pen }

abbrev pub moved : Surface → Place → Surface
moved s p = at_cursor s (resting p)

abbrev pub inked : Surface → ℕ → Surface
inked s p = record { size = s.size; picture = s.picture; cursor = s.cursor; pen = p }

abbrev pub blanks : Size → List Glyph
blanks z = replicate (z.rows * z.columns) blank

abbrev pub wiped : Size → Surface
wiped z = record { size = z; picture = blanks z; cursor = resting (place_of 0 0); pen = 0 }

-- a printable code in one of the pens below P
pub record Printed (P : ℕ) (g : Glyph) : Type 0 where
  pub code : Code g.code
  pub pen : g.pen < P

abbrev pub is_printed : ℕ → Glyph → Bool
is_printed P g = is_code g.code && nat_lt g.pen P

-- the same of every cell, as a test
abbrev pub all_printed : ℕ → List Glyph → Bool
all_printed P [] = true
all_printed P (g ∷ gs) = is_printed P g && all_printed P gs

pub record Within (P : ℕ) (s : Surface) : Type 0 where
  pub filled : length s.picture ≡ s.size.rows * s.size.columns
  pub cells : AllByRecursion (Printed P) s.picture
  pub place : On s.size s.cursor.place
  pub pen : s.pen < P

pub record Fits (P : ℕ) (z : Size) (s : Surface) : Type 0 where
  pub sized : s.size ≡ z
  pub within : Within P s

abbrev pub Told : Surface → Place → Option Glyph → Type 0
Told s p None = On s.size p → ⊥
Told s p (Some g) = On s.size p × (g ≡ slice_index_or s.picture (number s.size p) g)
