-- So can those of the present one, where its fault is none; and the first bad cell of a row behind good ones is the
-- picture's.
use Rattle.std.proofs.Common.{map, ◌<◌, ap, subst, below_more, arith}
use Rattle.display.specs.declared.size.Size.{Size}
use Rattle.faults.proofs.Rows.{all_good, first_bad}
use Rattle.faults.specs.Rows.{GoodRow}
use Rattle.faults.specs.Told.{told}
use Rattle.faults.proofs.cells.first_fault.Goals as goal

pub loop-row-preserved : goal.loop-row-preserved
loop-row-preserved g c =
    below_more
    (GoodRow (g.P.Panel.answers c.args.panel.now) g.C.Cell.admits (map g.C.Cell.glyph c.args.picture.now))
    _ c.loop-row.invariant c.in_default.ensures

pub returns-in-Some : goal.returns-in-Some
returns-in-Some g c =
    first_bad (g.P.Panel.answers c.args.panel.now) g.C.Cell.admits (map g.C.Cell.glyph c.args.picture.now)
    c.loop-row.row (told c.in-Some.fault) c.loop-row.invariant c.in-Some.ensures
    (subst (λ (z : Size). c.loop-row.row < z.rows) c.size-row-end.ensures c.loop-row-test.true)

pub returns : goal.returns
returns g c =
    all_good (g.P.Panel.answers c.args.panel.now) g.C.Cell.admits (map g.C.Cell.glyph c.args.picture.now)
    (λ r below.
    let rows = ap (λ (z : Size). z.rows) c.size-row-end.ensures in
    let all = c.loop-row-test.false in c.loop-row.invariant r (omega arith))
