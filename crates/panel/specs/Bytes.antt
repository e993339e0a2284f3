-- Short byte strings.
--     bytes_of s    the bytes that s holds
use Rattle.std.specs.Prelude.{ℕ, List, take}
use Rattle.panel.specs.declared.bytes.ShortBytes.{ShortBytes}

abbrev pub bytes_of : ShortBytes → List ℕ
bytes_of s = take s.len s.bytes
