-- A meaning is sound where its surface is one that a panel of that size and so many pens can have. Assumes nothing.
use Rattle.std.proofs.Common.{rules}
use denote.Struct.Props.{props}
use Rattle.display.specs.Facts.{within_prop}
use Rattle.display.specs.Surface.{Fits}
use Rattle.panel.specs.Answers.{Answers}
use Rattle.panel.specs.Lawful.{Sound}
use Rattle.panel.specs.Meaning.{Meaning}

module _ {Mode : Type 0} (a : Answers) (m : Meaning Mode) where
  pub sound_of : Fits a.pens a.size m.surface → Sound a m
  sound_of k = search rules

  pub fits_of : Sound a m → Fits a.pens a.size m.surface
  fits_of k = search rules

pub sound_prop : {Mode : Type 0} (a : Answers) (m : Meaning Mode) → IsProp (Sound a m)
sound_prop a m = hlevel (props, within_prop a.pens m.surface)
