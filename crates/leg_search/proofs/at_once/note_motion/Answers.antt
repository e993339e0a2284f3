-- The motion lands on the panel, whose places all have labels; its note is improved.
use Rattle.std.proofs.Common.{◌≡◌, ◌∙◌, ◌*◌, ◌<◌, ℕ, ap, arith, length, rules, sym}
use Rattle.display.specs.Place.{number}
use Rattle.display.specs.declared.size.Size.{Size}
use Rattle.labels.specs.Note.{Note}
use Rattle.labels.specs.declared.label.Label.{Label}
use Rattle.legs.proofs.Panels.{landed_below}
use Rattle.legs.specs.Seen.{scened}
use Rattle.leg_search.proofs.Unsettled.{improved_waiting, unsettled_same}
use Rattle.leg_search.proofs.Writes.{improves}
use Rattle.leg_search.specs.AtOnce.{there, waiting}
use Rattle.leg_search.proofs.at_once.note_motion.Goals as goal

pub bounds-labels-state : goal.bounds-labels-state
bounds-labels-state g c =
    let i = c.number-state.ensures ∙ ap (λ (z : Size). number z c.in-Some.place) c.size.ensures in
    let b = landed_below (scened g.P.Panel.answers g.C.Cell.glyph c.args.task.now.scene)
    (g.met.P.Panel.lawful c.args.task.now.scene.panel.now).bounded c.args.motion c.args.departure.cursor
    c.in-Some.place c.requires.on (sym c.landing.ensures ∙ c.in-Some.is) in
    let m = c.requires.memory in omega arith

pub offset_bounds-labels-state : goal.offset_bounds-labels-state
offset_bounds-labels-state g c =
    let i = c.number-state.ensures ∙ ap (λ (z : Size). number z c.in-Some.place) c.size.ensures in
    let b = landed_below (scened g.P.Panel.answers g.C.Cell.glyph c.args.task.now.scene)
    (g.met.P.Panel.lawful c.args.task.now.scene.panel.now).bounded c.args.motion c.args.departure.cursor
    c.in-Some.place c.requires.on (sym c.landing.ensures ∙ c.in-Some.is) in
    let h : c.number-state.result < length c.args.labels.now = let m = c.requires.memory in omega arith in
    search rules

pub returns-in-Some-clause-unsettled : goal.returns-in-Some-clause-unsettled
returns-in-Some-clause-unsettled g c =
    let i = c.number-state.ensures ∙ ap (λ (z : Size). number z c.in-Some.place) c.size.ensures in
    let b = landed_below (scened g.P.Panel.answers g.C.Cell.glyph c.args.task.now.scene)
    (g.met.P.Panel.lawful c.args.task.now.scene.panel.now).bounded c.args.motion c.args.departure.cursor
    c.in-Some.place c.requires.on (sym c.landing.ensures ∙ c.in-Some.is) in
    unsettled_same c.args.labels.now c.number-state.result c.index-labels-state.result c.improve.new.self
    (let m = c.requires.memory in omega arith) c.index-labels-state.is
    (ap (λ (a : Note _). waiting a.stage) c.improve.ensures.note
    ∙ (improved_waiting g.K.Cost.costs _ (g.K.Cost.value c.args.departure.cost) c.args.motion c.args.departure.number
    ∙ ap (λ (l : Label _). waiting l.stage) (sym c.index-labels-state.is)))

pub returns-in-Some-clause-marks : goal.returns-in-Some-clause-marks
returns-in-Some-clause-marks g c =
    let i = c.number-state.ensures ∙ ap (λ (z : Size). number z c.in-Some.place) c.size.ensures in
    let b = landed_below (scened g.P.Panel.answers g.C.Cell.glyph c.args.task.now.scene)
    (g.met.P.Panel.lawful c.args.task.now.scene.panel.now).bounded c.args.motion c.args.departure.cursor
    c.in-Some.place c.requires.on (sym c.landing.ensures ∙ c.in-Some.is) in
    there c.in-Some.place (sym c.landing.ensures ∙ c.in-Some.is)
    (improves g.K.Cost.value g.K.Cost.costs c.args.labels.now c.number-state.result _ c.index-labels-state.result
    c.improve.new.self (g.K.Cost.value c.args.departure.cost) c.args.motion c.args.departure.number i
    (let m = c.requires.memory in omega arith) c.index-labels-state.is c.improve.ensures.note)
