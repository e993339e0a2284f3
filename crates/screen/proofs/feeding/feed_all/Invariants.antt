-- The answers stand, and the bytes so far were fed.
use Rattle.std.proofs.Common.{◌≡◌, ◌≤◌, length, take}
use Rattle.panel.specs.Meaning.{feeds}
use Rattle.screen.proofs.feeding.feed_all.Given as goal

abbrev pub invariant-loop-byte : goal.invariant-loop-byte
invariant-loop-byte g l =
    let P = g.P.Panel in
    (l.byte-index ≤ length l.bytes)
    × (P.answers l.charted ≡ P.answers l.initial.charted)
    × (P.meaning l.charted
    ≡ feeds (P.fed (P.answers l.initial.charted)) (P.meaning l.initial.charted)
    (take l.byte-index l.bytes))
