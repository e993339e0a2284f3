-- A short byte string is short. Assumes nothing.
use Rattle.std.proofs.Common.{◌≤◌, length, arith, length-take}
use Rattle.panel.specs.Bytes.{bytes_of}
use Rattle.panel.specs.declared.bytes.ShortBytes.{ShortBytes}

pub bytes_short : (b : ShortBytes) → length (bytes_of b) ≤ 16
bytes_short b = let fits = b.fits in omega (arith, length-take b.len b.bytes)
