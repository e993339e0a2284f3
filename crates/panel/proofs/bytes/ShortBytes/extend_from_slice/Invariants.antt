use Rattle.std.proofs.Common.{◌≡◌, ◌++◌, take}
use Rattle.panel.specs.Bytes.{bytes_of}
use Rattle.panel.proofs.bytes.ShortBytes.extend_from_slice.Given as goal

-- the bytes so far stand at the end, as far as there is room
abbrev pub invariant-loop-byte : goal.invariant-loop-byte
invariant-loop-byte l = bytes_of l.self ≡ take 16 (bytes_of l.initial.self ++ take l.byte-index l.bytes)
