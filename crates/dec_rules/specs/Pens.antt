-- The bytes that set a pen, and the wipe bytes.
--     pen_bytes p    ESC [ 0, then ;1 ;4 ;5 ;7 for bold, underscore, blink, reverse, then m
--     wipe           pen 0, the first place, and all cells blank: ESC [ 0 m, ESC [ H, ESC [ 2 J
use Rattle.std.specs.Prelude.{ℕ, cond, List, [], ◌∷◌, ◌++◌, ◌==◌, bit_and}

-- the parameter v, if the pen p has the bit
abbrev pub attribute : ℕ → ℕ → ℕ → List ℕ
attribute p bit v = cond (bit_and p bit == 0) [] (0x3b ∷ (v ∷ []))

abbrev pub pen_bytes : ℕ → List ℕ
pen_bytes p =
    (0x1b ∷ 0x5b ∷ 0x30 ∷ [])
    ++ (attribute p 1 0x31 ++ (attribute p 2 0x34 ++ (attribute p 4 0x35 ++ (attribute p 8 0x37 ++ (0x6d ∷ [])))))

abbrev pub wipe : List ℕ
wipe = 0x1b ∷ 0x5b ∷ 0x30 ∷ 0x6d ∷ 0x1b ∷ 0x5b ∷ 0x48 ∷ 0x1b ∷ 0x5b ∷ 0x32 ∷ 0x4a ∷ []
