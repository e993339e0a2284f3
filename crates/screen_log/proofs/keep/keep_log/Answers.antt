-- The log is kept from the opening on.
use Rattle.std.proofs.Common.{length}
use Rattle.screen_log.proofs.Opening.{kept_opened, opened_tied}
use Rattle.screen_log.proofs.keep.keep_log.Goals as goal

pub enter_all-requires : goal.enter_all-requires
enter_all-requires g c =
    opened_tied g.P.Panel.answers g.P.Panel.meaning g.P.Panel.ready g.C.Cell.glyph c.args.panel c.args.wanted.now
    c.open.new.wanted c.args.shown.now c.open.new.shown c.in_ok-screen.screen c.in_ok-screen.ensures

pub returns-clause-keeps : goal.returns-clause-keeps
returns-clause-keeps g c =
    kept_opened g.P.Panel.answers g.P.Panel.meaning g.P.Panel.ready g.C.Cell.glyph c.args.panel c.args.wanted.now
    c.open.new.wanted c.args.shown.now c.open.new.shown c.in_ok-screen.screen c.in_ok-screen.ensures g.K.Cost.costs
    g.P.Panel.fed g.C.Cell.admits c.enter_all.new.wanted c.enter_all.new.shown (length c.args.labels.now)
    c.args.output.now c.enter_all.new.output c.args.entries.now c.args.lines.now c.enter_all.new.lines
    c.enter_all.new.screen c.enter_all.ensures.keeps
