-- A showing is lent some of the labels, and the first bytes of the output.
use Rattle.screen_log.proofs.Entering.{redraws, refreshes}
use Rattle.screen_log.proofs.enter.enter.Goals as goal

pub returns-in-Refresh-clause-enters : goal.returns-in-Refresh-clause-enters
returns-in-Refresh-clause-enters g c =
    refreshes g.K.Cost.costs g.P.Panel.answers g.P.Panel.meaning g.P.Panel.fed g.P.Panel.ready g.C.Cell.glyph
    g.C.Cell.admits c.args.screen.now c.refresh.new.self c.args.wanted.now c.args.shown.now c.refresh.new.shown
    c.args.labels.now c.refresh.new.labels c.args.output.now c.refresh.new.output c.in-Refresh.count c.in-Refresh.room
    c.min-count.result c.min-room.result c.refresh.result c.min-count.ensures c.min-room.ensures c.args.entry.now
    c.in-Refresh.is c.refresh.ensures.outcome c.refresh.ensures.faces

pub returns-in-Redraw-clause-enters : goal.returns-in-Redraw-clause-enters
returns-in-Redraw-clause-enters g c =
    redraws g.K.Cost.costs g.P.Panel.answers g.P.Panel.meaning g.P.Panel.fed g.P.Panel.ready g.C.Cell.glyph
    g.C.Cell.admits c.args.screen.now c.redraw.new.self c.args.wanted.now c.args.shown.now c.redraw.new.shown
    c.args.labels.now c.redraw.new.labels c.args.output.now c.redraw.new.output c.in-Redraw.count c.in-Redraw.room
    c.min-count-in-Redraw.result c.min-room-in-Redraw.result c.redraw.result c.min-count-in-Redraw.ensures
    c.min-room-in-Redraw.ensures c.args.entry.now c.in-Redraw.is c.redraw.ensures.outcome c.redraw.ensures.faces
