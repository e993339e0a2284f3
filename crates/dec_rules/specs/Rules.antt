-- What a byte does, by the reading state.
--     after z p         the cursor once a code was printed at p: the next column, or held in the last one
--     wrapped s         a pending wrap takes place: a held cursor goes to column 0 of the next row
--     printed s c       the surface s after the code c, drawn once a pending wrap has taken place
--     coded s r b       the byte b is a code, 20h to 7Eh
--     controlled s r b  the byte b is no code
--     fed m b           the meaning m after the byte b
use Rattle.std.specs.Prelude.{ℕ, ◌-◌, Bool, true, cond, ◌&&◌, ◌==◌, nat_le, nat_lt}
use Rattle.display.specs.Cell.{is_code}
use Rattle.display.specs.Surface.{Surface, at_cursor, drawn, stepped}
use Rattle.display.specs.declared.place.Cursor.{Cursor}
use Rattle.display.specs.declared.place.Place.{Place}
use Rattle.display.specs.declared.size.Size.{Size}
use Rattle.canvas.specs.Drawing.{goto, line_fed, new_line}
use Rattle.panel.specs.Meaning.{Meaning, of}
use Rattle.dec_rules.specs.Reading.{digit_read, ended, next_read, none}
use Rattle.dec_rules.specs.declared.reading.Reading.{Reading}
use Rattle.dec_rules.specs.declared.reading.Reading.TheVariants.{Ground, Escape, Sequence, Voided}

abbrev pub after : Size → Place → Cursor
after z p = stepped z p (record { place = p; held = true })

abbrev pub wrapped : Surface → Surface
wrapped s = cond s.cursor.held (new_line s) s

unfoldable pub printed : Surface → ℕ → Surface
printed s c = let t = wrapped s in at_cursor (drawn t c) (after t.size t.cursor.place)

abbrev pub is_digit : ℕ → Bool
is_digit b = nat_le 0x30 b && nat_le b 0x39

-- 5Bh is [, 30h to 39h are the digits, 3Bh is ;
unfoldable pub coded : Surface → Reading → ℕ → Meaning Reading
coded s Ground b = of (printed s b) Ground
coded s Escape b = of s (cond (b == 0x5b) (Sequence none) Ground)
coded s (Sequence ps) b =
    cond (is_digit b) (of s (Sequence (digit_read ps (b - 0x30)))) (
    cond (b == 0x3b) (of s (Sequence (next_read ps))) (
    cond (nat_lt b 0x40) (of s Voided) (of (ended s ps b) Ground)))
coded s Voided b = of s (cond (nat_lt b 0x40) Voided Ground)

-- 08h is the backspace, 0Ah the line feed, 0Dh the carriage return, 1Bh is ESC, 18h cancels
unfoldable pub controlled : Surface → Reading → ℕ → Meaning Reading
controlled s r b =
    let row = s.cursor.place.row in
    cond (b == 0x08) (of (goto s row (s.cursor.place.column - 1)) r) (
    cond (b == 0x0a) (of (line_fed s) r) (
    cond (b == 0x0d) (of (goto s row 0) r) (
    cond (b == 0x1b) (of s Escape) (
    cond (b == 0x18) (of s Ground) (of s r)))))

unfoldable pub fed : Meaning Reading → ℕ → Meaning Reading
fed m b = cond (is_code b) (coded m.surface m.mode b) (controlled m.surface m.mode b)
