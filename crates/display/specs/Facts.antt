-- What is said of a surface is a fact: there is one proof of it. Assumes nothing.
use Rattle.std.specs.Prelude.{ℕ}
use Rattle.std.specs.List.{AllByRecursion-prop}
use Rattle.display.specs.Surface.{Printed, Surface, Within}
use Rattle.display.specs.declared.cell.Glyph.{Glyph}
use denote.Struct.Props.{props}

printed_prop : (P : ℕ) (g : Glyph) → IsProp (Printed P g)
printed_prop P g = hlevel props

pub within_prop : (P : ℕ) (s : Surface) → IsProp (Within P s)
within_prop P s = hlevel (props, AllByRecursion-prop (Printed P) (printed_prop P) s.picture)
