-- What a byte does.
--     Reading, ready    the one reading state: no sequence is ever half read
--     after z p         the cursor once a code was printed at p: the next column, or the same place in the last one
--     printed s c       the surface s after the code c: in the last column the cursor stays
--     controlled s b    the surface s after the byte b, which is no code
--     fed m b           the meaning m after the byte b
use Rattle.std.specs.Prelude.{ℕ, cond, ◌==◌}
use Rattle.display.specs.Cell.{is_code}
use Rattle.display.specs.Steps.{below, left_of}
use Rattle.display.specs.Surface.{Surface, drawn, resting, stepped, wiped}
use Rattle.display.specs.declared.place.Cursor.{Cursor}
use Rattle.display.specs.declared.place.Place.{Place}
use Rattle.display.specs.declared.size.Size.{Size}
use Rattle.canvas.specs.Drawing.{goto, onward, went}
use Rattle.panel.specs.Meaning.{Meaning, of}

abbrev pub Reading : Type 0
Reading = Unit {0}

abbrev pub ready : Reading
ready = tt

abbrev pub after : Size → Place → Cursor
after z p = stepped z p (resting p)

abbrev pub printed : Surface → ℕ → Surface
printed s c = let t = drawn s c in onward t t

-- 08h is the backspace, 0Ah the line feed, 0Dh the carriage return, 0Ch wipes
abbrev pub controlled : Surface → ℕ → Surface
controlled s b =
    let here = s.cursor.place in
    cond (b == 0x08) (went s (left_of here 1)) (
    cond (b == 0x0a) (went s (below s.size here 1)) (
    cond (b == 0x0d) (goto s here.row 0) (
    cond (b == 0x0c) (wiped s.size) s)))

unfoldable pub fed : Meaning Reading → ℕ → Meaning Reading
fed m b = of (cond (is_code b) (printed m.surface b) (controlled m.surface b)) ready
