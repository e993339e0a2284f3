-- The leg leads to the run's first place, and its last place is on the panel.
use Rattle.std.proofs.Common.{◌≡◌, ◌∙◌, ◌-◌, ◌*◌, ◌<◌, map, sym, ap, arith}
use Rattle.std.proofs.lemmas.List.{length-map}
use Rattle.display.specs.declared.size.Size.{Size}
use Rattle.planning.proofs.Takes.{below_most, numbered_is, took}
use Rattle.planning.proofs.walk.take_run.Goals as goal

pub numbered-requires-clause-number : goal.numbered-requires-clause-number
numbered-requires-clause-number g c =
    let z = (g.P.Panel.answers c.args.charted.now).size in
    let same : c.size-size.result ≡ z = c.size-size.ensures ∙ ap (λ p. (g.P.Panel.answers p).size) c.panel.ensures in
    let columns : c.from-columns.result ≡ z.columns =
    c.from-columns.ensures ∙ ap (λ (x : Size). x.columns) same in
    let below : c.args.run.end - 1 < z.rows * z.columns =
    let a = c.requires.run.some in let b = c.requires.run.below in omega arith in
    let most = below_most z (c.args.run.end - 1) below in omega arith

pub returns-clause-taken : goal.returns-clause-taken
returns-clause-taken g c =
    let a = g.P.Panel.answers c.args.charted.now in
    let same : c.size-size.result ≡ a.size =
    c.size-size.ensures ∙ ap (λ p. (g.P.Panel.answers p).size) c.panel.ensures in
    took g.K.Cost.costs a (map g.C.Cell.glyph c.args.pictures.shown.now) (map g.C.Cell.glyph c.args.pictures.wanted.now)
    c.args.run c.args.progress (g.P.Panel.answers c.panel-2.result.now) c.numbered-first.result c.numbered.result
    c.args.output.now c.go.new.output c.draw_run-inked.new.output c.in-Some.count c.draw_run-inked.result
    c.after_print.result (ap g.P.Panel.answers c.panel-2.ensures)
    (let e = length-map c.args.pictures.wanted.now g.C.Cell.glyph in let f = c.requires.few in omega arith)
    (numbered_is a.size c.size-size.result c.from-columns.result c.args.run.first c.numbered-first.result same
    c.from-columns.ensures c.numbered-first.ensures)
    (numbered_is a.size c.size-size.result c.from-columns.result (c.args.run.end - 1) c.numbered.result same
    c.from-columns.ensures c.numbered.ensures)
    c.in-Some.ensures.goes c.draw_run-inked.ensures
    (c.after_print.ensures ∙ ap (λ p. (g.P.Panel.answers p).after c.numbered.result)
    (c.panel-3.ensures ∙ sym c.panel-2.ensures))
