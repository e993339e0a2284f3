-- What the models of panels do alike.
--     cut z r c       row r and column c, or the edge of a panel of size z where they lie beyond it
--     goto s r c      the cursor goes there, unheld
--     went s o        the cursor goes to the place o, unheld, if there is one
--     holding s       the cursor stays, held
--     scrolled s      the picture moves up a row, and the last row is blank
--     line_fed s      the cursor goes a row down, unheld, keeping its column; on the last row the picture moves up
--                     instead
--     new_line s      the cursor goes to column 0 of the next row, unheld; on the last row the picture moves up
--                     instead
--     onward s t      the cursor goes a column to the right, unheld; in the last column the surface is t
--     cleared s       every cell is blank
use Rattle.std.specs.Prelude.{ℕ, ◌+◌, ◌-◌, min, true, cond, ◌++◌, drop, replicate, Some, None, Option, nat_lt}
use Rattle.display.specs.Cell.{blank}
use Rattle.display.specs.Surface.{Surface, at_cursor, blanks, moved, pictured, place_of}
use Rattle.display.specs.declared.place.Place.{Place}
use Rattle.display.specs.declared.size.Size.{Size}

abbrev pub cut : Size → ℕ → ℕ → Place
cut z r c = place_of (min r (z.rows - 1)) (min c (z.columns - 1))

abbrev pub goto : Surface → ℕ → ℕ → Surface
goto s r c = moved s (cut s.size r c)

abbrev pub went : Surface → Option Place → Surface
went s None = s
went s (Some p) = goto s p.row p.column

abbrev pub holding : Surface → Surface
holding s = at_cursor s (record { place = s.cursor.place; held = true })

abbrev pub scrolled : Surface → Surface
scrolled s = pictured s (drop s.size.columns s.picture ++ replicate s.size.columns blank)

abbrev pub line_fed : Surface → Surface
line_fed s =
    cond (nat_lt (s.cursor.place.row + 1) s.size.rows)
    (moved s (place_of (s.cursor.place.row + 1) s.cursor.place.column))
    (moved (scrolled s) s.cursor.place)

abbrev pub new_line : Surface → Surface
new_line s = line_fed (goto s s.cursor.place.row 0)

abbrev pub onward : Surface → Surface → Surface
onward s t =
    cond (nat_lt (s.cursor.place.column + 1) s.size.columns)
    (moved s (place_of s.cursor.place.row (s.cursor.place.column + 1))) t

abbrev pub cleared : Surface → Surface
cleared s = pictured s (blanks s.size)
