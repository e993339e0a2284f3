-- The cursor is never held. Assumes nothing.
use Rattle.std.proofs.Common.{rules}
use Rattle.std.specs.Prelude.{ℕ}
use Rattle.display.specs.Surface.{Surface}
use Rattle.canvas.proofs.Unheld.{Unheld}
use Rattle.panel.specs.Meaning.{Meaning}
use Rattle.short_code_panel.specs.Rules.{acted, coded, fed}
use Rattle.short_code_panel.specs.declared.reading.Reading.{Reading}

module _ (s : Surface) (h : Unheld s) where
  unheld_acted : (b : ℕ) → Unheld (acted s b)
  unheld_acted b = search rules

  unheld_coded : (r : Reading) (b : ℕ) → Unheld (coded s r b).surface
  unfolding coded
  unheld_coded r b = search rules

pub unheld_fed : (m : Meaning Reading) (b : ℕ) → Unheld m.surface → Unheld (fed m b).surface
unfolding fed
unheld_fed m b h = search (rules, unheld_acted, unheld_coded)
