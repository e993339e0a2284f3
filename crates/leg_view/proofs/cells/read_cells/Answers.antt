-- The picture's cells by their numbers. By hand: the search does not find what the iterator yields.
use Rattle.std.proofs.Common.{◌≡◌, ◌*◌, get_or, length, sym, ap, ◌∙◌, arith, rules}
use Rattle.std.proofs.lemmas.Iterator.{YieldsList-from_map, YieldsList-from_range, items_from_collect}
use Rattle.std.proofs.lemmas.Result.{IfOk-weaker}
use Rattle.display.specs.Cell.{blank}
use Rattle.display.specs.declared.size.Size.{Size}
use Rattle.leg_view.proofs.Pictures.{cell_is, cell_of, picture_back}
use Rattle.leg_view.proofs.cells.read_cells.Goals as goal

pub returns : goal.returns
returns g c =
    let s = (g.P.Panel.meaning c.args.panel.now).surface in
    let sound = g.met.P.Panel.sound c.args.panel.now in
    let whole : c.places.result ≡ length s.picture =
    c.places.ensures ∙ ap (λ (z : Size). z.rows * z.columns) (c.size.ensures ∙ sym sound.sized)
    ∙ sym sound.within.filled in
    let read =
    items_from_collect c.collect.result c.collect.ensures.ran
    (YieldsList-from_map _ (λ k. cell_of (get_or s.picture k blank))
    (YieldsList-from_range 0 c.places.result (length s.picture) (cc) (omega arith))
    c.map.ensures.closure (λ x r q k. search (rules, cell_is))) in
    IfOk-weaker c.collect.result _ _ (λ v h. picture_back s.picture v.items h) read
