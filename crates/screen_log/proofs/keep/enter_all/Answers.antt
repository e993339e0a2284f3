-- Each entry is one line more.
use Rattle.std.proofs.Common.{◌∙◌, length, arith, refl, slice_index_or}
use Rattle.screen_log.specs.declared.entry.Entry.TheVariants.{Put}
use Rattle.screen_log.proofs.Keeping.{keeping_all, keeping_more, keeping_none}
use Rattle.screen_log.proofs.keep.enter_all.Goals as goal

pub loop-index-init : goal.loop-index-init
loop-index-init g c = (
  refl,
  keeping_none g.K.Cost.costs g.P.Panel.answers g.P.Panel.meaning g.P.Panel.fed g.P.Panel.ready g.C.Cell.glyph
      g.C.Cell.admits c.args.screen.now.panel c.args.wanted.now c.args.shown.now (length c.args.labels.now)
      c.args.output.now c.args.entries.now c.args.lines.now c.args.screen.now refl c.requires,
)

pub loop-index-preserved : goal.loop-index-preserved
loop-index-preserved g c = (
  c.enter_one-first.ensures.labels ∙ c.loop-index.invariant.0,
  keeping_more g.K.Cost.costs g.P.Panel.answers g.P.Panel.meaning g.P.Panel.fed g.P.Panel.ready g.C.Cell.glyph
      g.C.Cell.admits c.args.screen.now.panel c.args.wanted.now c.args.shown.now (length c.args.labels.now)
      c.args.output.now c.args.entries.now c.args.lines.now c.loop-index.screen c.enter_one-first.new.screen
      c.loop-index.wanted c.enter_one-first.new.wanted c.loop-index.shown c.enter_one-first.new.shown
      c.loop-index.output c.enter_one-first.new.rest c.loop-index.lines c.loop-index.index c.loop-index.first
      (slice_index_or c.args.entries.now c.loop-index.index (Put 0 0 0 0)) (Put 0 0 0 0) c.enter_one-first.new.line
      c.enter_one-first.ensures.begin c.loop-index.invariant.1 c.loop-index.auto.lines
      (let e = c.min-index-end.ensures in omega arith) (let e = c.min-index-end.ensures in omega arith) refl
      c.enter_one-first.result (length c.loop-index.labels) c.enter_one-first.ensures.count c.loop-index.invariant.0
      c.enter_one-first.ensures.enters,
)

pub returns-clause-keeps : goal.returns-clause-keeps
returns-clause-keeps g c =
    keeping_all g.K.Cost.costs g.P.Panel.answers g.P.Panel.meaning g.P.Panel.fed g.P.Panel.ready g.C.Cell.glyph
    g.C.Cell.admits c.args.screen.now.panel c.args.wanted.now c.args.shown.now (length c.args.labels.now)
    c.args.output.now c.args.entries.now c.args.lines.now c.loop-index.screen c.loop-index.wanted c.loop-index.shown
    c.loop-index.output c.loop-index.lines c.loop-index.index c.loop-index.first
    (let e = c.min-index-end.ensures in omega arith) c.loop-index.invariant.1
