-- What a byte does, by the reading state.
--     after z p        the cursor once a code was printed at p: the next column, or column 0 of the next row; after
--                      the corner,
--                      column 0 of the last row
--     printed s c      the surface s after the code c: in the last column the cursor goes to the next row, and on the
--                      last row the
--                      picture moves up
--     addressed s r c  the cursor goes to row r and column c, if that place is on the panel
--     acted s b        the surface s after the byte b, which is below 20h
--     coded s r b      the meaning after the byte b, which is a code
--     fed m b          the meaning m after the byte b
use Rattle.std.specs.Prelude.{ℕ, ◌+◌, ◌-◌, cond, ◌==◌, nat_lt}
use Rattle.display.specs.Cell.{is_code}
use Rattle.display.specs.Steps.{above, left_of, right_of, standing}
use Rattle.display.specs.Surface.{Surface, drawn, inked, place_of, resting, stepped, wiped}
use Rattle.display.specs.declared.place.Cursor.{Cursor}
use Rattle.display.specs.declared.place.Place.{Place}
use Rattle.display.specs.declared.size.Size.{Size}
use Rattle.canvas.specs.Drawing.{goto, line_fed, new_line, onward, went}
use Rattle.panel.specs.Meaning.{Meaning, of}
use Rattle.short_code_panel.specs.declared.reading.Reading.{Reading}
use Rattle.short_code_panel.specs.declared.reading.Reading.TheVariants.{Ready, Escape, Row, Column}

abbrev pub next_row : Size → Place → Place
next_row z p = place_of (cond (nat_lt (p.row + 1) z.rows) (p.row + 1) p.row) 0

abbrev pub after : Size → Place → Cursor
after z p = stepped z p (resting (next_row z p))

abbrev pub printed : Surface → ℕ → Surface
printed s c = let t = drawn s c in onward t (new_line t)

abbrev pub addressed : Surface → ℕ → ℕ → Surface
addressed s r c = went s (standing s.size r c)

-- 08h left, 0Ah line feed, 0Bh up, 0Ch right, 0Dh carriage return, 0Eh pen 1, 0Fh pen 0, 1Ah wipe, 1Eh first place
abbrev pub acted : Surface → ℕ → Surface
acted s b =
    let here = s.cursor.place in
    cond (b == 0x08) (went s (left_of here 1)) (
    cond (b == 0x0a) (line_fed s) (
    cond (b == 0x0b) (went s (above here 1)) (
    cond (b == 0x0c) (went s (right_of s.size here 1)) (
    cond (b == 0x0d) (goto s here.row 0) (
    cond (b == 0x0e) (inked s 1) (
    cond (b == 0x0f) (inked s 0) (
    cond (b == 0x1a) (wiped s.size) (
    cond (b == 0x1e) (goto s 0 0) s))))))))

-- 3Dh is =, and a coordinate is its byte less 20h
unfoldable pub coded : Surface → Reading → ℕ → Meaning Reading
coded s Ready b = of (printed s b) Ready
coded s Escape b = of s (cond (b == 0x3d) Row Ready)
coded s Row b = of s (Column (b - 0x20))
coded s (Column r) b = of (addressed s r (b - 0x20)) Ready

-- a byte below 20h ends a sequence, and 1Bh (ESC) begins one; 7Fh and above do nothing
unfoldable pub fed : Meaning Reading → ℕ → Meaning Reading
fed m b =
    cond (is_code b) (coded m.surface m.mode b) (
    cond (nat_lt b 0x20) (of (acted m.surface b) (cond (b == 0x1b) Escape Ready)) m)
