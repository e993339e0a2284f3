-- By hand: whether the next entry opens a class decides by which lemma the ends stay right.
use Rattle.std.proofs.Common.{◌∙◌, sym, arith}
use Rattle.motion_order.proofs.Marking.{fewer, joined, split}
use Rattle.motion_order.proofs.ends.mark_ends.Goals as goal
use Rattle.motion_order.proofs.ends.mark_ends.Goals.{then-is_dearer, else-is_dearer}

pub push-requires-clause-room : goal.push-requires-clause-room
push-requires-clause-room g c =
    let h = fewer g.K.Cost.costs c.args.offers.now c.loop-place.ends c.loop-place.place c.loop-place.invariant in
    omega arith

pub loop-place-preserved : goal.loop-place-preserved
loop-place-preserved g c =
    let os = c.args.offers.now in
    let es = c.loop-place.ends in
    let place = c.loop-place.place in
    elim c.if-is_dearer.branch [
      | then-is_dearer w ↦ rw (w.ends-is, w.push.ensures)
          (split g.K.Cost.costs os es place c.loop-place.invariant (sym c.is_dearer.ensures ∙ w.if-is_dearer.true))
      | else-is_dearer w ↦ rw w.ends-is
          (joined g.K.Cost.costs g.met.K.Cost.laws os es place c.requires.cheapest_first (omega arith)
          c.loop-place.invariant (sym c.is_dearer.ensures ∙ w.if-is_dearer.false))
    ]

pub push-requires-2-clause-room : goal.push-requires-2-clause-room
push-requires-2-clause-room g c =
    let h = fewer g.K.Cost.costs c.args.offers.now c.loop-place.ends c.loop-place.place c.loop-place.invariant in
    omega arith
