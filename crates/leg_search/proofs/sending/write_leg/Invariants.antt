-- The bytes of the motions so far stand at the start of the output, and there those have led.
use Rattle.std.proofs.Common.{◌≡◌, ◌++◌, drop, length}
use Rattle.leg_search.proofs.Sends.{first}
use Rattle.legs.specs.Graph.{ends}
use Rattle.legs.specs.Scene.{sent, steps}
use Rattle.legs.specs.Seen.{scened}
use Rattle.leg_search.proofs.sending.write_leg.Given as goal

abbrev pub invariant-loop-label : goal.invariant-loop-label
invariant-loop-label g l =
    (l.cursor ≡ ends (steps (scened g.P.Panel.answers g.C.Cell.glyph l.scene)) l.fn.start (first l.leg l.label-index))
    × (l.count ≡ length (sent (scened g.P.Panel.answers g.C.Cell.glyph l.scene) l.fn.start (first l.leg l.label-index)))
    × (l.output ≡ sent (scened g.P.Panel.answers g.C.Cell.glyph l.scene) l.fn.start (first l.leg l.label-index)
    ++ drop l.count l.fn.output)
