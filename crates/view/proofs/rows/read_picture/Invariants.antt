use Rattle.std.proofs.Common.{◌≡◌, ◌*◌, take, vec_items}
use Rattle.view.proofs.rows.read_picture.Given as goal

-- the rows so far are read
abbrev pub invariant-loop-row : goal.invariant-loop-row
invariant-loop-row g l =
    let s = (g.P.Panel.meaning l.panel).surface in
    vec_items l.picture ≡ take (l.row-counter * s.size.columns) s.picture
