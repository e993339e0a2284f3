-- The report on a panel, as bytes.
--     line bs            a line of text
--     row_of f s r       the row r of the picture of s, each cell written by f
--     rows_of f s        all rows, each between bars
--     pen_digit g        the pen of a cell as a hexadecimal digit
--     word p bit name    a name, if the pen p has the bit
--     plain gs           no cell has a pen other than 0
--     cursor_line k      where the cursor stands
--     pen_line p         the words of the pen
--     reported n s b     the whole report: n bytes were read, the surface is s, and b says whether the panel is ready
--     Reports r m n bs   bs is the report on a panel that means m after n bytes, where r is the reading state in
--                        which it is ready
use Rattle.std.specs.Prelude.{◌≡◌, ℕ, ◌+◌, ◌*◌, ◌%◌, Bool, cond, not, List, [], ◌∷◌, ◌++◌, map, take, drop, codes, decimal, Decides, ◌==◌, bit_and, nat_lt}
use Rattle.std.specs.List.{range_with_len, flat_map, list_all}
use Rattle.display.specs.Surface.{Surface}
use Rattle.display.specs.declared.cell.Glyph.{Glyph}
use Rattle.display.specs.declared.place.Cursor.{Cursor}
use Rattle.panel.specs.Meaning.{Meaning}

abbrev pub line : List ℕ → List ℕ
line bs = bs ++ (10 ∷ [])

abbrev pub row_of : (Glyph → ℕ) → Surface → ℕ → List ℕ
row_of f s r = map f (take s.size.columns (drop (r * s.size.columns) s.picture))

abbrev pub barred : List ℕ → List ℕ
barred bs = (124 ∷ []) ++ (bs ++ (124 ∷ 10 ∷ []))

abbrev pub rows_of : (Glyph → ℕ) → Surface → List ℕ
rows_of f s = flat_map (λ r. barred (row_of f s r)) (range_with_len 0 s.size.rows)

abbrev pub code_of : Glyph → ℕ
code_of g = g.code

abbrev pub hex_digit : ℕ → ℕ
hex_digit n = cond (nat_lt n 10) (48 + n) (55 + n)

abbrev pub pen_digit : Glyph → ℕ
pen_digit g = hex_digit (g.pen % 16)

abbrev pub plain : List Glyph → Bool
plain gs = list_all (λ g. g.pen == 0) gs

abbrev pub word : ℕ → ℕ → List ℕ → List ℕ
word p bit name = cond (not (bit_and p bit == 0)) name []

abbrev pub pen_words : ℕ → List ℕ
pen_words p =
    word p 1 (codes " bold")
    ++ (word p 2 (codes " underscore")
    ++ (word p 4 (codes " blink")
    ++ word p 8 (codes " reverse")))

abbrev pub pen_line : ℕ → List ℕ
pen_line p = line (codes "pen" ++ (cond (p == 0) (codes " plain") [] ++ pen_words p))

abbrev pub cursor_line : Cursor → List ℕ
cursor_line k = line (
    codes "at "
    ++ (decimal k.place.row
    ++ (codes " "
    ++ (decimal k.place.column
    ++ cond k.held (codes " held") []))))

abbrev pub reported : ℕ → Surface → Bool → List ℕ
reported n s ready =
    line (codes "read " ++ decimal n)
    ++ (rows_of code_of s
    ++ (cond (plain s.picture) [] (rows_of pen_digit s)
    ++ (cursor_line s.cursor
    ++ (pen_line s.pen
    ++ line (cond ready (codes "ready") (codes "reading"))))))

abbrev pub Reports : {Mode : Type 0} → Mode → Meaning Mode → ℕ → List ℕ → Type 0
Reports ready m n bs = (b : Bool) → Decides b (m.mode ≡ ready) → bs ≡ reported n m.surface b
