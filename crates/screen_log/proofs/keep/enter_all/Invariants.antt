-- The entries before the index are made.
use Rattle.std.proofs.Common.{◌≡◌, length}
use Rattle.screen_log.specs.Step.{Keeping}
use Rattle.screen_log.proofs.keep.enter_all.Given as goal

abbrev pub invariant-loop-index : goal.invariant-loop-index
invariant-loop-index g l =
    (length l.labels ≡ length l.fn.labels)
    × Keeping g.K.Cost.costs g.P.Panel.answers g.P.Panel.meaning g.P.Panel.fed g.P.Panel.ready g.C.Cell.glyph
    g.C.Cell.admits l.fn.screen.panel l.fn.wanted l.wanted l.fn.shown l.shown (length l.fn.labels) l.fn.output l.output
    l.fn.entries l.fn.lines l.lines l.index l.first l.screen
