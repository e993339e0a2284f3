-- A byte that follows the rules leaves of a sound meaning a surface of the same size, with its pen and the pens of its
-- cells below 16. Assumes nothing.
use Rattle.std.proofs.Common.{◌≡◌, ℕ, rules}
use Rattle.display.specs.Surface.{Surface}
use Rattle.display.specs.declared.size.Size.{Size}
use Rattle.display.proofs.Codes.{decides_all_printed}
use Rattle.canvas.proofs.Fits.{Stays}
use Rattle.panel.specs.Lawful.{Sound}
use Rattle.panel.specs.Meaning.{Meaning, of}
use Rattle.panel.proofs.Soundness.{fits_of}
use Rattle.dec_rules.specs.Motions.{answers}
use Rattle.dec_rules.specs.Rules.{fed}
use Rattle.dec_rules.specs.declared.reading.Reading.{Reading}
use Rattle.dec_rules.proofs.Keeps.{keeps}

pub stays : (z : Size) (m : Meaning Reading) (b : ℕ) (s : Surface) (r : Reading) → Sound (answers z) m
    → of s r ≡ fed m b → Stays 16 z s
stays z m b s r h e = let k = keeps z m b (fits_of (answers z) m h) in search (rules, decides_all_printed)
