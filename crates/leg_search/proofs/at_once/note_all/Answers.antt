-- The classes are dealt with one by one.
use Rattle.std.proofs.Common.{◌≡◌, ◌∙◌, ◌<◌, ◌≤◌, ℕ, List, ap, arith, subst, sym}
use Rattle.cost.specs.Costs.{Addable}
use Rattle.labels.specs.Label.{noted}
use Rattle.leg_search.proofs.AtOnce.{all_ended, class_begun, rest_beyond}
use Rattle.leg_search.proofs.Standing.{sum_of_settled}
use Rattle.leg_search.specs.Reading.{task_of}
use Rattle.leg_search.specs.Run.{Exceeds}
use Rattle.leg_search.specs.Task.{price}
use Rattle.motion_order.specs.InOrder.{offer_at, weighed}
use Rattle.motion_order.specs.declared.offer.Offer.{Offer}
use Rattle.leg_search.proofs.at_once.note_all.Goals as goal

pub plus-cost-requires : goal.plus-cost-requires
plus-cost-requires g c =
    let a = c.loop-class.invariant.2 in
    let lt : c.loop-class.class < (task_of g.P.Panel.answers g.C.Cell.glyph g.K.Cost.costs c.args.task.now).count = (let e = c.count-class-end.ensures in let h = c.loop-class-test.true in omega arith) in
    subst (λ (v : g.K.Cost.Value). Addable g.K.Cost.Few v (g.K.Cost.value c.price.result)) a.cost
    (subst (λ (v : g.K.Cost.Value). Addable g.K.Cost.Few
    ((noted g.K.Cost.value g.K.Cost.costs.zero c.loop-class.labels) c.args.from.number).cost v)
    (sym (c.price.ensures ∙ ap (λ (os : List Offer). weighed g.K.Cost.costs (offer_at os 0)) c.class-offers.ensures))
    (subst (λ (n : ℕ). Addable g.K.Cost.Few ((noted g.K.Cost.value g.K.Cost.costs.zero c.loop-class.labels) n).cost
    (price (task_of g.P.Panel.answers g.C.Cell.glyph g.K.Cost.costs c.args.task.now) c.loop-class.class)) (sym a.is)
    (sum_of_settled (task_of g.P.Panel.answers g.C.Cell.glyph g.K.Cost.costs c.args.task.now) c.requires.asks g.met.K.Cost.laws
    (g.met.P.Panel.lawful c.args.task.now.scene.panel.now).bounded g.K.Cost.Few g.met.K.Cost.few_laws
    (noted g.K.Cost.value g.K.Cost.costs.zero c.loop-class.labels) _ a.frontier a.waits c.args.from.cursor a.fit
    (ap (λ (n : ℕ). ((noted g.K.Cost.value g.K.Cost.costs.zero c.loop-class.labels) n).stage) (sym a.is) ∙ a.settled)
    c.loop-class.class lt)))

pub returns-then-is_beyond-clause-at_once : goal.returns-then-is_beyond-clause-at_once
returns-then-is_beyond-clause-at_once g c = rest_beyond (task_of g.P.Panel.answers g.C.Cell.glyph g.K.Cost.costs c.args.task.now) g.met.K.Cost.laws
    (g.met.P.Panel.lawful c.args.task.now.scene.panel.now).bounded c.requires.asks c.args.from.cursor
    c.args.from.number (g.K.Cost.value c.args.from.cost)
    (noted g.K.Cost.value g.K.Cost.costs.zero c.loop-class.labels) c.loop-class.class c.loop-class.invariant.2
    (subst (λ (v : g.K.Cost.Value). Exceeds g.K.Cost.costs ((noted g.K.Cost.value g.K.Cost.costs.zero c.loop-class.labels)
    c.args.task.now.goal) v)
    (c.plus-cost.ensures ∙ ap (g.K.Cost.costs.plus (g.K.Cost.value c.args.from.cost)) (c.price.ensures ∙ ap (λ (os : List Offer). weighed g.K.Cost.costs (offer_at os 0)) c.class-offers.ensures))
    (c.is_beyond.ensures.0 c.if-is_beyond.true))

pub note_class-requires-clause-cost : goal.note_class-requires-clause-cost
note_class-requires-clause-cost g c = c.plus-cost.ensures
    ∙ ap (g.K.Cost.costs.plus (g.K.Cost.value c.args.from.cost)) (c.price.ensures ∙ ap (λ (os : List Offer). weighed g.K.Cost.costs (offer_at os 0)) c.class-offers.ensures)

pub note_class-requires-clause-at_once : goal.note_class-requires-clause-at_once
note_class-requires-clause-at_once g c = class_begun (task_of g.P.Panel.answers g.C.Cell.glyph g.K.Cost.costs c.args.task.now) g.met.K.Cost.laws
    (g.met.P.Panel.lawful c.args.task.now.scene.panel.now).bounded c.requires.asks c.args.from.cursor
    c.args.from.number (g.K.Cost.value c.args.from.cost)
    (noted g.K.Cost.value g.K.Cost.costs.zero c.loop-class.labels) c.loop-class.class c.loop-class.invariant.2

pub returns-clause-at_once : goal.returns-clause-at_once
returns-clause-at_once g c = all_ended (task_of g.P.Panel.answers g.C.Cell.glyph g.K.Cost.costs c.args.task.now) g.met.K.Cost.laws
    (g.met.P.Panel.lawful c.args.task.now.scene.panel.now).bounded c.requires.asks c.args.from.cursor
    c.args.from.number (g.K.Cost.value c.args.from.cost)
    (noted g.K.Cost.value g.K.Cost.costs.zero c.loop-class.labels) c.loop-class.class (let e = c.count-class-end.ensures in omega arith)
    c.loop-class.invariant.2
