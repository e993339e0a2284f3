-- The motions are dealt with one by one.
use Rattle.std.proofs.Common.{◌∙◌, ◌<◌, ◌≤◌, Bool, List, ap, arith, length, subst}
use Rattle.leg_search.proofs.Standing.{roomy}
use Rattle.leg_search.proofs.Takes.{takes_all, takes_last, takes_on}
use Rattle.leg_search.specs.Noting.{Took}
use Rattle.leg_search.specs.Reading.{reach_of, task_of}
use Rattle.motion_order.specs.InOrder.{offer_at}
use Rattle.motion_order.specs.declared.offer.Offer.{Offer}
use Rattle.leg_search.proofs.take.take.Goals as goal

pub take_motion-requires-clause-room : goal.take_motion-requires-clause-room
take_motion-requires-clause-room g c =
    roomy (task_of g.P.Panel.answers g.C.Cell.glyph g.K.Cost.costs c.args.task.now) c.requires.asks
    (reach_of g.K.Cost.value g.K.Cost.costs.zero c.loop-offer.labels c.loop-offer.front) c.loop-offer.invariant.2.settled
    _ c.loop-offer.invariant.2.taking.stands

pub returns-then-take_motion-clause-in_turn : goal.returns-then-take_motion-clause-in_turn
returns-then-take_motion-clause-in_turn g c =
    (takes_last (task_of g.P.Panel.answers g.C.Cell.glyph g.K.Cost.costs c.args.task.now) g.met.K.Cost.laws
    (g.met.P.Panel.lawful c.args.task.now.scene.panel.now).bounded c.requires.asks
    (reach_of g.K.Cost.value g.K.Cost.costs.zero c.args.labels.now c.args.front.now)
    c.args.class (g.K.Cost.value c.args.departure.cost) c.args.departure.cursor
    (reach_of g.K.Cost.value g.K.Cost.costs.zero c.loop-offer.labels c.loop-offer.front)
    c.loop-offer.offer-index c.loop-offer.invariant.2
    (subst (λ (os : List Offer). c.loop-offer.offer-index < length os) c.requires.offers c.loop-offer-test.true)
    c.args.departure.number _ c.requires.number
    (ap (λ (os : List Offer). (offer_at os c.loop-offer.offer-index).motion) c.requires.offers)
    (reach_of g.K.Cost.value g.K.Cost.costs.zero c.take_motion.new.labels c.take_motion.new.front)
    (subst (λ (b : Bool). Took (task_of g.P.Panel.answers g.C.Cell.glyph g.K.Cost.costs c.args.task.now)
    (reach_of g.K.Cost.value g.K.Cost.costs.zero c.loop-offer.labels c.loop-offer.front)
    (reach_of g.K.Cost.value g.K.Cost.costs.zero c.take_motion.new.labels c.take_motion.new.front)
    (g.K.Cost.value c.args.departure.cost) c.args.departure.cursor c.args.departure.number
    (offer_at c.args.offers.now c.loop-offer.offer-index).motion b) c.if-take_motion.true c.take_motion.ensures.took)).0

pub returns-then-take_motion-clause-grown : goal.returns-then-take_motion-clause-grown
returns-then-take_motion-clause-grown g c =
    (takes_last (task_of g.P.Panel.answers g.C.Cell.glyph g.K.Cost.costs c.args.task.now) g.met.K.Cost.laws
    (g.met.P.Panel.lawful c.args.task.now.scene.panel.now).bounded c.requires.asks
    (reach_of g.K.Cost.value g.K.Cost.costs.zero c.args.labels.now c.args.front.now)
    c.args.class (g.K.Cost.value c.args.departure.cost) c.args.departure.cursor
    (reach_of g.K.Cost.value g.K.Cost.costs.zero c.loop-offer.labels c.loop-offer.front)
    c.loop-offer.offer-index c.loop-offer.invariant.2
    (subst (λ (os : List Offer). c.loop-offer.offer-index < length os) c.requires.offers c.loop-offer-test.true)
    c.args.departure.number _ c.requires.number
    (ap (λ (os : List Offer). (offer_at os c.loop-offer.offer-index).motion) c.requires.offers)
    (reach_of g.K.Cost.value g.K.Cost.costs.zero c.take_motion.new.labels c.take_motion.new.front)
    (subst (λ (b : Bool). Took (task_of g.P.Panel.answers g.C.Cell.glyph g.K.Cost.costs c.args.task.now)
    (reach_of g.K.Cost.value g.K.Cost.costs.zero c.loop-offer.labels c.loop-offer.front)
    (reach_of g.K.Cost.value g.K.Cost.costs.zero c.take_motion.new.labels c.take_motion.new.front)
    (g.K.Cost.value c.args.departure.cost) c.args.departure.cursor c.args.departure.number
    (offer_at c.args.offers.now c.loop-offer.offer-index).motion b) c.if-take_motion.true c.take_motion.ensures.took)).1

pub loop-offer-preserved : goal.loop-offer-preserved
loop-offer-preserved g c = (
  c.take_motion.ensures.same ∙ c.loop-offer.invariant.0,
  c.take_motion.ensures.next ∙ c.loop-offer.invariant.1,
  takes_on (task_of g.P.Panel.answers g.C.Cell.glyph g.K.Cost.costs c.args.task.now) g.met.K.Cost.laws
      (g.met.P.Panel.lawful c.args.task.now.scene.panel.now).bounded c.requires.asks
      (reach_of g.K.Cost.value g.K.Cost.costs.zero c.args.labels.now c.args.front.now)
      c.args.class (g.K.Cost.value c.args.departure.cost) c.args.departure.cursor
      (reach_of g.K.Cost.value g.K.Cost.costs.zero c.loop-offer.labels c.loop-offer.front)
      c.loop-offer.offer-index c.loop-offer.invariant.2
      (subst (λ (os : List Offer). c.loop-offer.offer-index < length os) c.requires.offers c.loop-offer-test.true)
      c.args.departure.number _ c.requires.number
      (ap (λ (os : List Offer). (offer_at os c.loop-offer.offer-index).motion) c.requires.offers)
      (reach_of g.K.Cost.value g.K.Cost.costs.zero c.take_motion.new.labels c.take_motion.new.front)
      (subst (λ (b : Bool). Took (task_of g.P.Panel.answers g.C.Cell.glyph g.K.Cost.costs c.args.task.now)
      (reach_of g.K.Cost.value g.K.Cost.costs.zero c.loop-offer.labels c.loop-offer.front)
      (reach_of g.K.Cost.value g.K.Cost.costs.zero c.take_motion.new.labels c.take_motion.new.front)
      (g.K.Cost.value c.args.departure.cost) c.args.departure.cursor c.args.departure.number
      (offer_at c.args.offers.now c.loop-offer.offer-index).motion b) c.if-take_motion.false c.take_motion.ensures.took),
)

pub returns-clause-in_turn : goal.returns-clause-in_turn
returns-clause-in_turn g c =
    takes_all (task_of g.P.Panel.answers g.C.Cell.glyph g.K.Cost.costs c.args.task.now) g.met.K.Cost.laws
    (g.met.P.Panel.lawful c.args.task.now.scene.panel.now).bounded c.requires.asks
    (reach_of g.K.Cost.value g.K.Cost.costs.zero c.args.labels.now c.args.front.now)
    c.args.class (g.K.Cost.value c.args.departure.cost) c.args.departure.cursor
    (reach_of g.K.Cost.value g.K.Cost.costs.zero c.loop-offer.labels c.loop-offer.front)
    c.loop-offer.offer-index c.loop-offer.invariant.2
    (subst (λ (os : List Offer). length os ≤ c.loop-offer.offer-index) c.requires.offers (omega arith))
