-- One row more, and the last one. By hand: the search does not find what the inner iterator yields.
use Rattle.std.proofs.Common.{◌*◌, drop, length, map, take, vec_items, arith, rules}
use Rattle.std.proofs.lemmas.Grind.{common_steps}
use Rattle.std.proofs.lemmas.Iterator.{YieldsList-from_map, YieldsList-from_slice}
use Rattle.std.proofs.lemmas.Iterator.Adapters.{items_from_extend}
use Rattle.std.proofs.lemmas.List.{length_push}
use Rattle.view.specs.Report.{barred}
use Rattle.view.proofs.Cut.{HasCut-all, HasCut-more, written_more}
use Rattle.view.proofs.rows.append_rows.Goals as goal

pub loop-row-preserved : goal.loop-row-preserved
loop-row-preserved g c =
    let n = c.args.size.columns in
    let more = HasCut-more c.loop-row.invariant.0 c.requires.filled (omega arith) c.in-Some.row c.in-Some.ensures.steps in (
      rw length_push more.0,
      λ w computes.
          let cells =
          items_from_extend c.extend.result c.extend.ensures.ran
          (YieldsList-from_map _ w (YieldsList-from_slice c.in-Some.row.now (cc)) c.map.ensures.closure (λ x r q k. search (rules, computes))) in
          grind (arith, common_steps, cells, more.1, c.loop-row.invariant.1 w computes, written_more (λ r. barred (map w (take n (drop (r * n) c.args.picture.now)))) (vec_items c.args.out.now) (length c.loop-row.yielded)),
    )

pub returns : goal.returns
returns g c s w size picture computes =
    let all = HasCut-all c.loop-row.invariant.0 c.requires.filled (omega arith) c.in-None.ensures.steps in
    grind (arith, common_steps, all, size, picture, c.loop-row.invariant.1 w computes)
