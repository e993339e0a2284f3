-- What a byte that follows the rules leaves of a sound meaning whose cursor is not held. Assumes nothing.
--     Follows z m b s r     s and r are what the byte b leads m to, on a panel of size z, and the cursor is not held
use Rattle.std.specs.Prelude.{◌≡◌, ℕ}
use Rattle.std.proofs.Common.{rules}
use Rattle.display.specs.Surface.{Surface}
use Rattle.display.specs.declared.size.Size.{Size}
use Rattle.display.proofs.Codes.{decides_all_printed}
use Rattle.canvas.proofs.Fits.{Stays}
use Rattle.canvas.proofs.Unheld.{Unheld}
use Rattle.panel.specs.Lawful.{Sound}
use Rattle.panel.specs.Meaning.{Meaning, of}
use Rattle.panel.proofs.Soundness.{fits_of}
use Rattle.short_code_panel.specs.Motions.{answers}
use Rattle.short_code_panel.specs.Rules.{fed}
use Rattle.short_code_panel.specs.declared.reading.Reading.{Reading}
use Rattle.short_code_panel.specs.Keeps.{keeps}
use Rattle.short_code_panel.specs.Marks.{unheld_fed}

pub record Follows (z : Size) (m : Meaning Reading) (b : ℕ) (s : Surface) (r : Reading) : Type 0 where
  pub after : of s r ≡ fed m b
  pub stays : Stays 2 z s
  pub unheld : Unheld s

pub follows : (z : Size) (m : Meaning Reading) (b : ℕ) (s : Surface) (r : Reading) → Sound (answers z) m
    → Unheld m.surface → of s r ≡ fed m b → Follows z m b s r
follows z m b s r h free e =
    let k = keeps z m b (fits_of (answers z) m h) in
    let u = unheld_fed m b free in
    search (rules, decides_all_printed)
