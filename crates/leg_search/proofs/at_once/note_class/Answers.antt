-- The motions are dealt with one by one.
use Rattle.std.proofs.Common.{◌≡◌, ◌∙◌, ◌<◌, ◌≤◌, ℕ, List, ap, arith, length, subst}
use Rattle.labels.specs.Label.{noted}
use Rattle.leg_search.proofs.AtOnce.{class_ended, one_marked}
use Rattle.leg_search.specs.AtOnce.{Marks}
use Rattle.leg_search.specs.Reading.{task_of}
use Rattle.motion_order.specs.Classes.{class_of}
use Rattle.motion_order.specs.InOrder.{offer_at}
use Rattle.motion_order.specs.declared.offer.Offer.{Offer}
use Rattle.leg_search.proofs.at_once.note_class.Goals as goal

pub note_motion-requires-clause-on : goal.note_motion-requires-clause-on
note_motion-requires-clause-on g c = c.requires.at_once.fit.on

pub loop-offer-preserved : goal.loop-offer-preserved
loop-offer-preserved g c = (
  c.note_motion.ensures.same ∙ c.loop-offer.invariant.0,
  c.note_motion.ensures.unsettled ∙ c.loop-offer.invariant.1,
  one_marked (task_of g.P.Panel.answers g.C.Cell.glyph g.K.Cost.costs c.args.task.now) g.met.K.Cost.laws
      (g.met.P.Panel.lawful c.args.task.now.scene.panel.now).bounded c.requires.asks c.args.from.cursor
      c.args.from.number (g.K.Cost.value c.args.from.cost)
      (noted g.K.Cost.value g.K.Cost.costs.zero c.loop-offer.labels)
      (noted g.K.Cost.value g.K.Cost.costs.zero c.note_motion.new.labels) c.args.class c.loop-offer.offer-index
      c.requires.class
      (subst (λ (os : List Offer). c.loop-offer.offer-index < length os) c.requires.offers c.loop-offer-test.true)
      c.loop-offer.invariant.2
      (subst (λ (v : g.K.Cost.Value). Marks (task_of g.P.Panel.answers g.C.Cell.glyph g.K.Cost.costs c.args.task.now)
      (noted g.K.Cost.value g.K.Cost.costs.zero c.loop-offer.labels)
      (noted g.K.Cost.value g.K.Cost.costs.zero c.note_motion.new.labels) v c.args.from.cursor c.args.from.number
      (offer_at (class_of c.args.task.now.classes c.args.class) c.loop-offer.offer-index).motion) c.requires.cost
      (subst (λ (os : List Offer). Marks (task_of g.P.Panel.answers g.C.Cell.glyph g.K.Cost.costs c.args.task.now)
      (noted g.K.Cost.value g.K.Cost.costs.zero c.loop-offer.labels)
      (noted g.K.Cost.value g.K.Cost.costs.zero c.note_motion.new.labels) (g.K.Cost.value c.args.cost)
      c.args.from.cursor c.args.from.number (offer_at os c.loop-offer.offer-index).motion) c.requires.offers
      c.note_motion.ensures.marks)),
)

pub returns-clause-at_once : goal.returns-clause-at_once
returns-clause-at_once g c = class_ended (task_of g.P.Panel.answers g.C.Cell.glyph g.K.Cost.costs c.args.task.now) g.met.K.Cost.laws
    (g.met.P.Panel.lawful c.args.task.now.scene.panel.now).bounded c.requires.asks c.args.from.cursor
    c.args.from.number (g.K.Cost.value c.args.from.cost)
    (noted g.K.Cost.value g.K.Cost.costs.zero c.loop-offer.labels) c.args.class c.loop-offer.offer-index
    (subst (λ (os : List Offer). length os ≤ c.loop-offer.offer-index) c.requires.offers (omega arith))
    c.loop-offer.invariant.2
