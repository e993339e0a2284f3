use Rattle.std.proofs.Common.{◌≡◌, ◌≤◌, length, take}
use Rattle.panel.specs.Meaning.{feeds}
use Rattle.panel.proofs.feeding.feed_all.Given as goal

-- the answers stand, and the bytes so far were fed
abbrev pub invariant-loop-byte : goal.invariant-loop-byte
invariant-loop-byte g l =
    let P = g.P.Panel in
    (l.byte-index ≤ length l.bytes)
    × (P.answers l.panel ≡ P.answers l.initial.panel)
    × (P.meaning l.panel
    ≡ feeds (P.fed (P.answers l.initial.panel)) (P.meaning l.initial.panel)
    (take l.byte-index l.bytes))
