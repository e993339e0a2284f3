-- The cursor is never held. Assumes nothing.
use Rattle.std.proofs.Common.{rules}
use Rattle.std.specs.Prelude.{ℕ}
use Rattle.canvas.proofs.Unheld.{Unheld}
use Rattle.panel.specs.Meaning.{Meaning}
use Rattle.sticking_panel.specs.Rules.{Reading, fed}

pub unheld_fed : (m : Meaning Reading) (b : ℕ) → Unheld m.surface → Unheld (fed m b).surface
unfolding fed
unheld_fed m b h = search rules
