-- Drawing the cells of a run.
--     numbered_place z n    the place with the number n
--     penned a p q          the bytes that set the pen q on a panel with the answers a where p is set: none where q is
--                           p
--     drawing a p gs        the bytes that draw the glyphs gs where the pen p is set: for each the bytes of its pen, if
--                           that is not the one now set, and its code
--     pen_after p gs        the pen that is then set
--     cells_of gs r         the glyphs of the run r in the picture gs
--     partly old new n      the picture old with the cells of new below the number n
use Rattle.std.specs.Prelude.{ℕ, ◌-◌, ◌/◌, ◌%◌, cond, ◌==◌, List, [], ◌∷◌, ◌++◌, drop, fold, take}
use Rattle.display.specs.Surface.{place_of}
use Rattle.display.specs.declared.cell.Glyph.{Glyph}
use Rattle.display.specs.declared.place.Place.{Place}
use Rattle.display.specs.declared.size.Size.{Size}
use Rattle.panel.specs.Answers.{Answers}
use Rattle.runs.specs.declared.run.Run.{Run}

abbrev pub numbered_place : Size → ℕ → Place
numbered_place z n = place_of (n / z.columns) (n % z.columns)

abbrev pub penned : Answers → ℕ → ℕ → List ℕ
penned a p q = cond (p == q) [] (a.pen_bytes q)

abbrev pub drawing : Answers → ℕ → List Glyph → List ℕ
drawing a p [] = []
drawing a p (g ∷ gs) = penned a p g.pen ++ (g.code ∷ drawing a g.pen gs)

abbrev pub pen_after : ℕ → List Glyph → ℕ
pen_after p gs = fold (λ q g. g.pen) p gs

abbrev pub cells_of : List Glyph → Run → List Glyph
cells_of gs r = take (r.end - r.first) (drop r.first gs)

abbrev pub partly : List Glyph → List Glyph → ℕ → List Glyph
partly old new n = take n new ++ drop n old
