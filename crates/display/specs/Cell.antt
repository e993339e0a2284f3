-- Cells and what they mean.
--     Code n           n is a printable code, 20h to 7Eh
--     glyph_of c p     the glyph of code c and pen p
--     blank            the glyph of a space in pen 0
--     Built A G c p r  r is the answer to building a cell of code c and pen p, where A says what is admitted and G what a cell means
use Rattle.std.specs.Prelude.{◌≡◌, ℕ, ◌≤◌, Bool, true, false, ◌&&◌, Some, None, Option, ◌==◌, nat_le}
use Rattle.display.specs.declared.cell.Glyph.{Glyph}

pub record Code (n : ℕ) : Type 0 where
  pub least : 32 ≤ n
  pub most : n ≤ 126

abbrev pub is_code : ℕ → Bool
is_code n = nat_le 32 n && nat_le n 126

abbrev pub glyph_of : ℕ → ℕ → Glyph
glyph_of c p = record { code = c; pen = p }

abbrev pub blank : Glyph
blank = glyph_of 32 0

abbrev pub Built : {C : Type 0} → (ℕ → ℕ → Bool) → (C → Glyph) → ℕ → ℕ → Option C → Type 0
Built A G c p None = A c p ≡ false
Built A G c p (Some x) = (A c p ≡ true) × (G x ≡ glyph_of c p)

abbrev pub plain_admits : ℕ → ℕ → Bool
plain_admits c p = is_code c && p == 0

abbrev pub attributed_admits : ℕ → ℕ → Bool
attributed_admits c p = is_code c && nat_le p 15
