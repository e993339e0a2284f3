-- What a byte does where the reading state, the byte and the surface are known by other names. Assumes nothing.
--     row_of k, column_of k     where the cursor k is
use Rattle.std.proofs.Common.{◌≡◌, ℕ, rules}
use Rattle.display.specs.Surface.{Surface}
use Rattle.display.specs.declared.place.Cursor.{Cursor}
use Rattle.canvas.specs.Drawing.{line_fed}
use Rattle.panel.specs.Meaning.{of}
use Rattle.dec_rules.specs.Rules.{fed}
use Rattle.dec_rules.specs.declared.reading.Reading.{Reading}
use Rattle.dec_rules.proofs.Steps.{fed_line_feed}

abbrev pub row_of : Cursor → ℕ
row_of k = k.place.row

abbrev pub column_of : Cursor → ℕ
column_of k = k.place.column

pub in_state : (s : Surface) (q r : Reading) (b : ℕ) → q ≡ r → fed (of s r) b ≡ fed (of s q) b
in_state s q r b e = search rules

pub line_fed_read : (s t : Surface) (r : Reading) (b : ℕ) → t ≡ line_fed s → b ≡ 0x0a → of t r ≡ fed (of s r) b
line_fed_read s t r b e is = search (rules, fed_line_feed)
