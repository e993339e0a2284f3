-- The bytes of the motions so far are laid behind those that were counted, and there those have led.
use Rattle.std.proofs.Common.{◌≡◌}
use Rattle.leg_search.proofs.Sends.{first}
use Rattle.legs.specs.Graph.{ends}
use Rattle.legs.specs.Scene.{sent, steps}
use Rattle.legs.specs.Seen.{scened}
use Rattle.planning.specs.Pours.{Pours}
use Rattle.planning.proofs.pour.pour_leg.Given as goal

abbrev pub invariant-loop-label : goal.invariant-loop-label
invariant-loop-label g l =
    (l.cursor ≡ ends (steps (scened g.P.Panel.answers g.C.Cell.glyph l.scene)) l.fn.start (first l.steps l.label-index))
    × Pours (sent (scened g.P.Panel.answers g.C.Cell.glyph l.scene) l.fn.start (first l.steps l.label-index))
    l.fn.output l.output l.fn.count l.count
