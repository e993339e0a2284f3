-- What a byte that follows the rules leaves of a sound meaning whose cursor is not held. Assumes nothing.
--     Follows z m b s     s is what the byte b leads m to, on a panel of size z, and the cursor is not held
use Rattle.std.specs.Prelude.{◌≡◌, ℕ}
use Rattle.std.proofs.Common.{rules}
use Rattle.display.specs.Surface.{Surface}
use Rattle.display.specs.declared.size.Size.{Size}
use Rattle.display.proofs.Codes.{decides_all_printed}
use Rattle.canvas.proofs.Fits.{Stays}
use Rattle.canvas.proofs.Unheld.{Unheld}
use Rattle.panel.specs.Lawful.{Sound}
use Rattle.panel.specs.Meaning.{Meaning, of}
use Rattle.panel.proofs.Soundness.{fits_of}
use Rattle.sticking_panel.specs.Motions.{answers}
use Rattle.sticking_panel.specs.Rules.{Reading, fed, ready}
use Rattle.sticking_panel.specs.Keeps.{keeps}
use Rattle.sticking_panel.specs.Marks.{unheld_fed}

pub record Follows (z : Size) (m : Meaning Reading) (b : ℕ) (s : Surface) : Type 0 where
  pub after : of s ready ≡ fed m b
  pub stays : Stays 1 z s
  pub unheld : Unheld s

pub follows : (z : Size) (m : Meaning Reading) (b : ℕ) (s : Surface) → Sound (answers z) m → Unheld m.surface
    → of s ready ≡ fed m b → Follows z m b s
follows z m b s h free e =
    let k = keeps z m b (fits_of (answers z) m h) in
    let u = unheld_fed m b free in
    search (rules, decides_all_printed)

-- the same of a byte that is known
pub acts : (z : Size) (m : Meaning Reading) (b is : ℕ) (s t : Surface) → Sound (answers z) m → Unheld m.surface
    → b ≡ is → fed m is ≡ of t ready → s ≡ t → Follows z m b s
acts z m b is s t h free same does e = let f = follows z m b s h free in search rules
