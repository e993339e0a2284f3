-- What is done to a surface leaves it one that a panel can have, and moves within the panel go where they say.
-- Assumes nothing.
use Rattle.std.proofs.Common.{◌≡◌, ℕ, zero, suc, ◌<◌, drop, replicate, rules, length-append, length-drop}
use lib.ListN.{length-replicate}
use Rattle.std.proofs.ByRecursion.{All-append, All-drop, All-set}
use Rattle.std.specs.List.{AllByRecursion}
use Rattle.display.specs.Cell.{Code, blank}
use Rattle.display.specs.Place.{On}
use Rattle.display.specs.Surface.{Printed, Surface, Within, at_cursor, drawn, inked, moved, place_of}
use Rattle.display.specs.declared.place.Cursor.{Cursor}
use Rattle.display.specs.declared.size.Size.{Size}
use Rattle.canvas.specs.Drawing.{cleared, cut, goto, line_fed, scrolled}
use Rattle.canvas.proofs.Pictures.{row_within}

pub cut_on : (z : Size) (r c : ℕ) → On z (cut z r c)
cut_on z r c = search rules

-- a place of the panel is not cut
pub cut_is : (z : Size) (r c : ℕ) → r < z.rows → c < z.columns → cut z r c ≡ place_of r c
cut_is z r c h w = search rules

pub goto_is : (s : Surface) (r c : ℕ) → r < s.size.rows → c < s.size.columns → goto s r c ≡ moved s (place_of r c)
goto_is s r c h w = search rules

pub all_blank : (P n : ℕ) → 0 < P → AllByRecursion (Printed P) (replicate n blank)
all_blank P zero h = tt
all_blank P (suc n) h = search (rules, all_blank P n h)

module _ (P : ℕ) (s : Surface) (h : Within P s) where
  pub within_cursor : (k : Cursor) → On s.size k.place → Within P (at_cursor s k)
  within_cursor k on = search rules

  pub within_goto : (r c : ℕ) → Within P (goto s r c)
  within_goto r c = search rules

  pub within_drawn : (c : ℕ) → Code c → Within P (drawn s c)
  within_drawn c code = search (rules, All-set)

  pub within_inked : (p : ℕ) → p < P → Within P (inked s p)
  within_inked p small = search rules

  some_pen : 0 < P
  some_pen = search rules

  pub within_cleared : Within P (cleared s)
  within_cleared = search (rules, all_blank, length-replicate)

  pub within_scrolled : Within P (scrolled s)
  within_scrolled =
      let w = s.size.columns in
      let kept = All-drop (Printed P) w s.picture h.cells in
      let cells = All-append (Printed P) (drop w s.picture) (replicate w blank) kept (all_blank P w some_pen) in
      search (rules, row_within, length-append, length-drop, length-replicate)

pub within_line_fed : (P : ℕ) (s : Surface) → Within P s → Within P (line_fed s)
within_line_fed P s h = let up = within_scrolled P s h in search rules
