-- Laying bytes into an output.
--     most_leg               the most bytes that a leg has
--     Pours bs xs ys i e     the bytes bs are counted behind i bytes, which makes e; and where xs has room for them
--                            they are laid there, which gives ys
--     Draws a gs p xs ys i o the same with the drawing of the glyphs gs where the pen p is set; o tells the pen that is
--                            then set, and the count
use Rattle.std.specs.Prelude.{◌≡◌, ℕ, ◌+◌, ◌*◌, ◌≤◌, List, ◌++◌, drop, length, take}
use Rattle.display.specs.declared.cell.Glyph.{Glyph}
use Rattle.panel.specs.Answers.{Answers}
use Rattle.plan.specs.Drawing.{drawing, pen_after}
use Rattle.planning.specs.declared.draw.Inked.{Inked}

abbrev pub most_leg : ℕ
most_leg = 30720

pub record Pours (bs xs ys : List ℕ) (i e : ℕ) : Type 0 where
  pub end : e ≡ i + length bs
  pub size : length ys ≡ length xs
  pub laid : e ≤ length xs → ys ≡ (take i xs ++ bs) ++ drop e xs

pub record Draws (a : Answers) (gs : List Glyph) (p : ℕ) (xs ys : List ℕ) (i : ℕ) (o : Inked) : Type 0 where
  pub pours : Pours (drawing a p gs) xs ys i o.count
  pub pen : o.pen ≡ pen_after p gs
  pub few : o.count ≤ i + 17 * length gs
