-- A row of cells more. By hand: the search does not find what the iterator yields.
use Rattle.std.proofs.Common.{◌≡◌, ◌*◌, ◌+◌, ◌≤◌, get_or, length, sym, ap, ◌∙◌, arith, rules}
use Rattle.std.proofs.lemmas.Nat.{mul-le}
use Rattle.std.proofs.lemmas.Grind.{common_steps}
use Rattle.std.proofs.lemmas.Iterator.{YieldsList-from_map, YieldsList-from_range}
use Rattle.std.proofs.lemmas.Iterator.Adapters.{items_from_extend}
use Rattle.std.proofs.lemmas.List.{take_all}
use Rattle.display.specs.Cell.{blank}
use Rattle.view.proofs.Cells.{read_on}
use Rattle.display.specs.declared.size.Size.{Size}
use Rattle.view.proofs.rows.read_picture.Goals as goal

pub returns-clause-filled : goal.returns-clause-filled
returns-clause-filled g c =
    let sound = g.met.P.Panel.sound c.args.panel.now in
    sound.within.filled ∙ ap (λ (z : Size). z.rows * z.columns) sound.sized

pub loop-row-preserved : goal.loop-row-preserved
loop-row-preserved g c =
    let s = (g.P.Panel.meaning c.args.panel.now).surface in
    let sound = g.met.P.Panel.sound c.args.panel.now in
    let k = c.loop-row.row-counter in
    let n = s.size.columns in
    let size : c.size-size.result ≡ s.size = c.size-size.ensures ∙ sym sound.sized in
    let wide : c.size-size.result.columns ≡ n = ap (λ (z : Size). z.columns) size in
    let high : c.size-size.result.rows ≡ s.size.rows = ap (λ (z : Size). z.rows) size in
    let low : k + 1 ≤ s.size.rows = let below = c.loop-row-test.true in omega arith in
    let enough : k * n + n ≤ length s.picture =
    rw sound.within.filled (grind (arith, mul-le (k + 1) n s.size.rows n)) in
    let cells =
    items_from_extend c.extend.result c.extend.ensures.ran
    (YieldsList-from_map _ (λ c. get_or s.picture (k * n + c) blank)
    (YieldsList-from_range 0 c.size-size.result.columns n (cc) (omega arith))
    c.map.ensures.closure (λ x r q k. search rules)) in
    let one_more : (k + 1) * n ≡ k * n + n = omega arith in
    grind (arith, common_steps, cells, c.loop-row.invariant, one_more, read_on s.picture (k * n) n enough)

pub returns-clause-read : goal.returns-clause-read
returns-clause-read g c =
    let s = (g.P.Panel.meaning c.args.panel.now).surface in
    let sound = g.met.P.Panel.sound c.args.panel.now in
    let size : c.size-size.result ≡ s.size = c.size-size.ensures ∙ sym sound.sized in
    let high : c.size-size.result.rows ≡ s.size.rows = ap (λ (z : Size). z.rows) size in
    let all : c.loop-row.row-counter ≡ s.size.rows =
    let past = c.loop-row-test.false in let within = c.loop-row.auto.row-counter-end in omega arith in
    c.loop-row.invariant
    ∙ take_all (c.loop-row.row-counter * s.size.columns) s.picture (rw all (rw sound.within.filled (omega arith)))
