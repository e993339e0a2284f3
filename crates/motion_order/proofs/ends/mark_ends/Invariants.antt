use Rattle.std.proofs.Common.{[], ◌∷◌, ◌++◌}
use Rattle.motion_order.specs.Ends.{Marked}
use Rattle.motion_order.proofs.ends.mark_ends.Given as goal

abbrev pub invariant-loop-place : goal.invariant-loop-place
invariant-loop-place g l = Marked g.K.Cost.costs l.offers (l.ends ++ l.place ∷ []) l.place
