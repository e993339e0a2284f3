-- What a printed code, a pending wrap and a control byte leave is a surface that a panel of the same size can have.
-- Assumes nothing.
use Rattle.std.proofs.Common.{ℕ, rules}
use Rattle.display.specs.Cell.{Code}
use Rattle.display.specs.Place.{On}
use Rattle.display.specs.Surface.{Fits, Surface, at_cursor, drawn}
use Rattle.display.specs.declared.place.Place.{Place}
use Rattle.display.specs.declared.size.Size.{Size}
use Rattle.canvas.proofs.Fits.{fits_drawn, fits_goto, fits_line_fed, fits_new_line}
use Rattle.dec_rules.specs.Rules.{after, controlled, wrapped}
use Rattle.dec_rules.specs.declared.reading.Reading.{Reading}

pub after_on : (z : Size) (p : Place) → On z p → On z (after z p).place
after_on z p on = search rules

module _ (z : Size) (s : Surface) (k : Fits 16 z s) where
  pub kept_drawn : (c : ℕ) → Code c → Fits 16 z (at_cursor (drawn s c) (after s.size s.cursor.place))
  kept_drawn c code = let drew = fits_drawn 16 z s k c code in search rules

  pub kept_wrapped : Fits 16 z (wrapped s)
  kept_wrapped = let next = fits_new_line 16 z s k in search rules

  pub kept_controlled : (r : Reading) (b : ℕ) → Fits 16 z (controlled s r b).surface
  unfolding controlled
  kept_controlled r b =
      let to = fits_goto 16 z s k in
      let down = fits_line_fed 16 z s k in
      search rules
