-- The motion lands on the panel, whose places all have labels, and there is room in the line while a place is new.
use Rattle.std.proofs.Common.{◌∙◌, ℕ, ap, arith, refl, subst, sym}
use Rattle.display.specs.Place.{number}
use Rattle.display.specs.declared.size.Size.{Size}
use Rattle.leg_search.specs.Noting.{Noted, there}
use Rattle.leg_search.specs.Reading.{reach_of}
use Rattle.legs.proofs.Panels.{landed_below}
use Rattle.legs.specs.Seen.{scened}
use Rattle.leg_search.proofs.take.take_motion.Goals as goal

pub note-requires-clause-state : goal.note-requires-clause-state
note-requires-clause-state g c =
    let i = c.number-state.ensures ∙ ap (λ (z : Size). number z c.in-Some.place) c.size.ensures in
    let b = landed_below (scened g.P.Panel.answers g.C.Cell.glyph c.args.task.now.scene)
    (g.met.P.Panel.lawful c.args.task.now.scene.panel.now).bounded c.args.motion c.args.departure.cursor
    c.in-Some.place c.requires.on (sym c.landing.ensures ∙ c.in-Some.is) in
    let m = c.requires.memory in omega arith

pub note-requires-clause-room : goal.note-requires-clause-room
note-requires-clause-room g c = λ h.
    let i = c.number-state.ensures ∙ ap (λ (z : Size). number z c.in-Some.place) c.size.ensures in
    let b = landed_below (scened g.P.Panel.answers g.C.Cell.glyph c.args.task.now.scene)
    (g.met.P.Panel.lawful c.args.task.now.scene.panel.now).bounded c.args.motion c.args.departure.cursor
    c.in-Some.place c.requires.on (sym c.landing.ensures ∙ c.in-Some.is) in
    let r = c.requires.room.room c.number-state.result (omega arith) h in
    let m = c.requires.memory in omega arith

pub returns-in-Some-clause-took : goal.returns-in-Some-clause-took
returns-in-Some-clause-took g c = there refl c.in-Some.place (sym c.landing.ensures ∙ c.in-Some.is)
    (subst (λ (n : ℕ). Noted g.K.Cost.costs c.args.task.now.goal
    (reach_of g.K.Cost.value g.K.Cost.costs.zero c.args.labels.now c.args.front.now)
    (reach_of g.K.Cost.value g.K.Cost.costs.zero c.note.new.labels c.note.new.front)
    (g.K.Cost.value c.args.departure.cost) c.args.motion c.args.departure.number n)
    (c.number-state.ensures ∙ ap (λ (z : Size). number z c.in-Some.place) c.size.ensures)
    c.note.ensures.noted)

pub returns-then-is_reached-clause-took : goal.returns-then-is_reached-clause-took
returns-then-is_reached-clause-took g c = c.take_last.ensures.took c.args.front.now
