-- The words for costs.
--     bytes_worded n    n bytes
--     line_worded v     the milliseconds and the bytes of v
use Rattle.std.specs.Prelude.{◌≡◌, ℕ, List, ◌++◌, codes, decimal}
use Rattle.std.proofs.Common.{ap}
use Rattle.cost.specs.Line.{Line}

abbrev pub bytes_worded : ℕ → List ℕ
bytes_worded n = decimal n ++ codes " bytes"

abbrev pub line_worded : Line → List ℕ
line_worded v = decimal v.milliseconds ++ (codes " ms " ++ (decimal v.bytes ++ codes " bytes"))

pub bytes_same : (m n : ℕ) → m ≡ n → bytes_worded m ≡ bytes_worded n
bytes_same m n h = ap bytes_worded h

pub line_same : (v w : Line) → v ≡ w → line_worded v ≡ line_worded w
line_same v w h = ap line_worded h
