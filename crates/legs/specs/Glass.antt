-- What stands on the glass.
--     glass_glyph f xs ys s n    the glyph at the place with the number n: that of the n-th cell of xs, if n is below
--                                s, and else of ys; a blank where there is no such cell. f is what a cell means
use Rattle.std.specs.Prelude.{ℕ, cond, List, map, nat_lt, slice_index_or}
use Rattle.display.specs.Cell.{blank}
use Rattle.display.specs.declared.cell.Glyph.{Glyph}

abbrev pub glass_glyph : {C : Type 0} → (C → Glyph) → List C → List C → ℕ → ℕ → Glyph
glass_glyph f xs ys s n = slice_index_or (map f (cond (nat_lt n s) xs ys)) n blank
