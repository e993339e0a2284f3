-- Parameters, and what the end of a control sequence does.
--     none             no parameter is read yet
--     digit_read p d   the digit d joins the parameter being read; a value above 999 counts as 999, and past the
--                      eighth nothing is kept
--     next_read p      the next parameter is read; after the eighth none is counted
--     first, second    a parameter that counts from 1: missing or 0 counts as 1
--     pen_after p v    the pen p after the parameter v: 0 sets pen 0; 1, 4, 5, 7 set bold, underscore, blink, reverse
--     pen_by p ps      the pen p after all parameters in their order
--     ended s ps b     the surface s after a sequence with the parameters ps that ends with the byte b
use Rattle.std.specs.Prelude.{ℕ, ◌+◌, ◌-◌, ◌*◌, min, max, cond, take, replicate, fold, ◌==◌, bit_or, nat_lt, slice_index, slice_set}
use Rattle.display.specs.Surface.{Surface, inked, moved}
use Rattle.canvas.specs.Drawing.{cleared, goto}
use Rattle.dec_rules.specs.declared.reading.Parameters.{Parameters}

abbrev pub none : Parameters
none = record { values = replicate 8 0; at = 0 }

abbrev pub valued : Parameters → ℕ → Parameters
valued p v = record { values = slice_set p.values p.at v; at = p.at }

-- the first eight parameters count
abbrev pub counting : Parameters → Parameters → Parameters
counting p q = cond (nat_lt p.at 8) q p

abbrev pub digit_read : Parameters → ℕ → Parameters
digit_read p d = counting p (valued p (min 999 (slice_index p.values p.at * 10 + d)))

abbrev pub next_read : Parameters → Parameters
next_read p = counting p (record { values = p.values; at = p.at + 1 })

abbrev pub first : Parameters → ℕ
first p = max (slice_index p.values 0) 1

abbrev pub second : Parameters → ℕ
second p = max (slice_index p.values 1) 1

abbrev pub pen_after : ℕ → ℕ → ℕ
pen_after p v =
    cond (v == 0) 0 (
    cond (v == 1) (bit_or p 1) (
    cond (v == 4) (bit_or p 2) (
    cond (v == 5) (bit_or p 4) (
    cond (v == 7) (bit_or p 8) p))))

abbrev pub pen_by : ℕ → Parameters → ℕ
pen_by p ps = fold pen_after p (take (ps.at + 1) ps.values)

-- 41h to 44h are A, B, C, D: up, down, right, left; 48h is H, 4Ah is J, 6Dh is m
unfoldable pub ended : Surface → Parameters → ℕ → Surface
ended s ps b =
    let r = s.cursor.place.row in
    let c = s.cursor.place.column in
    cond (b == 0x41) (goto s (r - first ps) c) (
    cond (b == 0x42) (goto s (r + first ps) c) (
    cond (b == 0x43) (goto s r (c + first ps)) (
    cond (b == 0x44) (goto s r (c - first ps)) (
    cond (b == 0x48) (goto s (first ps - 1) (second ps - 1)) (
    cond (b == 0x4a) (cond (slice_index ps.values 0 == 2) (moved (cleared s) s.cursor.place) s) (
    cond (b == 0x6d) (inked s (pen_by s.pen ps)) s))))))
