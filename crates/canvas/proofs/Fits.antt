-- What is done to a surface of one size leaves it one that a panel of that size can have, whatever the number of
-- pens. Assumes nothing.
use Rattle.std.proofs.Common.{◌≡◌, ℕ, ◌<◌, true, Option, rules}
use lib.ListN.{length-replicate}
use Rattle.display.specs.Cell.{Code}
use Rattle.display.specs.Place.{On}
use Rattle.display.specs.Surface.{Fits, Surface, all_printed, at_cursor, drawn, inked, moved, wiped}
use Rattle.display.specs.declared.place.Cursor.{Cursor}
use Rattle.display.specs.declared.place.Place.{Place}
use Rattle.display.specs.declared.size.Size.{Size}
use Rattle.display.proofs.Codes.{decides_all_printed}
use Rattle.canvas.specs.Drawing.{cleared, goto, line_fed, new_line, onward, went}
use Rattle.canvas.specs.Held.{Whole}
use Rattle.canvas.proofs.Within.{all_blank, within_drawn, within_line_fed}

pub wiped_fits : (P : ℕ) (z : Size) → 0 < P → Fits P z (wiped z)
wiped_fits P z h = search (rules, all_blank, length-replicate)

module _ (P : ℕ) (z : Size) (s : Surface) (k : Fits P z s) where
  pub fits_cursor : (c : Cursor) → On s.size c.place → Fits P z (at_cursor s c)
  fits_cursor c on = search rules

  pub fits_goto : (r c : ℕ) → Fits P z (goto s r c)
  fits_goto r c = search rules

  pub fits_line_fed : Fits P z (line_fed s)
  fits_line_fed = let down = within_line_fed P s k.within in search rules

  pub fits_cleared : Fits P z (moved (cleared s) s.cursor.place)
  fits_cleared = search (rules, all_blank, length-replicate)

  pub fits_inked : (p : ℕ) → p < P → Fits P z (inked s p)
  fits_inked p h = search rules

  pub fits_drawn : (c : ℕ) → Code c → Fits P z (drawn s c)
  fits_drawn c code = search (rules, within_drawn)

  pub fits_onward : (t : Surface) → Fits P z t → Fits P z (onward s t)
  fits_onward t last = search rules

  pub fits_went : (o : Option Place) → Fits P z (went s o)
  fits_went o = search rules

  pub fits_wiped : Fits P z (wiped s.size)
  fits_wiped = search (rules, all_blank, length-replicate)

pub fits_new_line : (P : ℕ) (z : Size) (s : Surface) → Fits P z s → Fits P z (new_line s)
fits_new_line P z s k = search (rules, fits_line_fed, fits_goto)

-- what a canvas holds, which every canvas tells to be whole, fits, where its pen and the pens of its cells are below P
pub fits_canvas : (P : ℕ) (s : Surface) → Whole s → s.pen < P → all_printed P s.picture ≡ true → Fits P s.size s
fits_canvas P s whole pen cells = search (rules, decides_all_printed)

-- what a model keeps of its canvas, as tests
pub record Stays (P : ℕ) (z : Size) (s : Surface) : Type 0 where
  pub sized : s.size ≡ z
  pub pen : s.pen < P
  pub cells : all_printed P s.picture ≡ true

pub stays : (P : ℕ) (z : Size) (s : Surface) → Fits P z s → Stays P z s
stays P z s k = search (rules, decides_all_printed)

pub stays_wiped : (P : ℕ) (z : Size) (s : Surface) → 0 < P → s ≡ wiped z → Stays P z s
stays_wiped P z s h e = let k = stays P z (wiped z) (wiped_fits P z h) in search rules
