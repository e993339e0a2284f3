-- The sixteen digits. Assumes nothing.
use Rattle.std.proofs.Common.{◌≡◌, ℕ, ◌<◌, codes, get_or, arith}
use Rattle.std.proofs.lemmas.List.FromFn.{get_or-map-range_with_len}
use Rattle.view.specs.Report.{hex_digit}

pub hex_digit_at : (n : ℕ) → n < 16 → get_or (codes "0123456789ABCDEF") n 0 ≡ hex_digit n
hex_digit_at n few = get_or-map-range_with_len hex_digit 0 16 n n 0 (omega arith) (omega arith)
