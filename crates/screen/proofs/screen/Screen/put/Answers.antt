-- The rows stay sane, since the column of the place is one of the panel.
use Rattle.std.proofs.Common.{◌<◌, subst}
use Rattle.screen.proofs.Rows.{put_kept}
use Rattle.screen.proofs.screen.Screen.put.Goals as goal

pub invariant_of-self : goal.invariant_of-self
invariant_of-self g c =
    put_kept _ _ _ _ _ _ _ c.put.ensures
    (subst (λ (p : g.row.P.Denot). c.in_ok-place.field-0.place.column < (g.P.Panel.answers p).size.columns)
    c.panel-2.ensures c.in_ok-place.ensures.on.column)
    c.self.invariant
