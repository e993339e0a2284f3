-- A cell is its glyph. Assumes nothing.
use Rattle.std.proofs.Common.{◌≡◌, ◌∙◌, ℕ, List, [], ◌∷◌, get_or, length, map, refl, ap}
use Rattle.std.specs.List.{range_with_len}
use Rattle.display.specs.Cell.{blank}
use Rattle.display.specs.declared.cell.Glyph.{Glyph}
use Rattle.display.specs.declared.cell.attributed.Attributed.{Attributed}
use Rattle.view.proofs.Cells.{read_back}

abbrev pub cell_of : Glyph → Attributed
cell_of g = record { 0 = g }

abbrev glyph_in : Attributed → Glyph
glyph_in x = x.0

pub cell_is : (x : Attributed) (g : Glyph) → glyph_in x ≡ g → x ≡ cell_of g
cell_is x g h = ap cell_of h

glyphs_back : (f : ℕ → Glyph) (ns : List ℕ) → map glyph_in (map (λ n. cell_of (f n)) ns) ≡ map f ns
glyphs_back f [] = refl
glyphs_back f (n ∷ ns) = ap (λ gs. f n ∷ gs) (glyphs_back f ns)

-- a picture whose cells are made one by one
pub picture_back : (gs : List Glyph) (xs : List Attributed)
    → xs ≡ map (λ n. cell_of (get_or gs n blank)) (range_with_len 0 (length gs)) → map glyph_in xs ≡ gs
picture_back gs xs h = ap (map glyph_in) h
    ∙ (glyphs_back (λ n. get_or gs n blank) (range_with_len 0 (length gs)) ∙ read_back gs)
