-- An unheld cursor, and what leaves it unheld. Assumes nothing.
use Rattle.std.proofs.Common.{◌≡◌, false, Option, rules}
use Rattle.display.specs.Surface.{Surface}
use Rattle.display.specs.declared.place.Place.{Place}
use Rattle.canvas.specs.Drawing.{line_fed, onward, went}

abbrev pub Unheld : Surface → Type 0
Unheld s = s.cursor.held ≡ false

pub unheld_line_fed : (s : Surface) → Unheld (line_fed s)
unheld_line_fed s = search rules

pub unheld_onward : (s t : Surface) → Unheld t → Unheld (onward s t)
unheld_onward s t last = search rules

pub unheld_went : (s : Surface) (o : Option Place) → Unheld s → Unheld (went s o)
unheld_went s o h = search rules
