-- A refresh is refused or accepted as its plan is, and the panel faces the wanted picture then.
use Rattle.std.proofs.Common.{rules}
use Rattle.panel.specs.Bytes.{bytes_of}
use Rattle.screen.proofs.Faced.{refresh_faces}
use Rattle.screen.proofs.Refresh.{refresh_accepted, refresh_refused}
use Rattle.screen.proofs.Refused.{check_refused}
use Rattle.screen.proofs.screen.Screen.refresh.Goals as goal

pub returns-in_err-check-clause-outcome : goal.returns-in_err-check-clause-outcome
returns-in_err-check-clause-outcome g c =
    check_refused g.K.Cost.costs g.P.Panel.answers g.P.Panel.meaning g.P.Panel.fed g.C.Cell.admits g.C.Cell.glyph
    c.args.self.now c.args.wanted.now c.args.shown.now c.args.labels.now c.args.output.now _ _ _ _
    c.from_residual.result c.in_err-check.field-0.0 (search rules) c.in_err-check.ensures

pub returns-in_err-sent-clause-outcome : goal.returns-in_err-sent-clause-outcome
returns-in_err-sent-clause-outcome g c =
    refresh_refused g.K.Cost.costs g.P.Panel.answers g.P.Panel.meaning g.P.Panel.fed g.C.Cell.admits g.C.Cell.glyph
    c.args.self.now c.args.wanted.now c.args.shown.now c.args.labels.now c.send_plan.new.labels c.args.output.now
    c.send_plan.new.output _ _ _ _ c.self.view_is c.self.invariant c.in-Some.start c.in-Some.is
    (bytes_of c.new-head.result) c.new-head.ensures c.in_ok-check.ensures c.from_residual-in_err-sent.result
    c.in_err-sent.field-0.0 (search rules) c.in_err-sent.ensures

pub returns-clause-outcome : goal.returns-clause-outcome
returns-clause-outcome g c =
    refresh_accepted g.K.Cost.costs g.P.Panel.answers g.P.Panel.meaning g.P.Panel.fed g.C.Cell.admits g.C.Cell.glyph
    c.args.self.now c.args.wanted.now c.args.shown.now c.args.labels.now c.send_plan.new.labels c.args.output.now
    c.send_plan.new.output _ _ _ _ c.self.view_is c.self.invariant c.in-Some.start c.in-Some.is
    (bytes_of c.new-head.result) c.new-head.ensures c.in_ok-check.ensures c.accept.new.shown c.in_ok-sent.sent
    c.accept.new.self c.accept.result c.in_ok-sent.ensures c.accept.ensures

pub returns-clause-faces : goal.returns-clause-faces
returns-clause-faces g c =
    refresh_faces g.K.Cost.costs g.P.Panel.answers g.P.Panel.meaning g.P.Panel.fed g.C.Cell.admits g.C.Cell.glyph
    g.P.Panel.ready c.args.self.now c.accept.new.self c.args.wanted.now c.args.shown.now c.accept.new.shown
    c.args.labels.now c.send_plan.new.labels c.args.output.now c.send_plan.new.output c.accept.result
    (g.met.P.Panel.lawful c.args.self.now.panel) (g.met.P.Panel.sound c.args.self.now.panel)
    (returns-clause-outcome g c)
