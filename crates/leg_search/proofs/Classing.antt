-- The classes of a panel's motions are classes of the graph: each motion that is offered is of one, and costs what the
-- class does.
use Rattle.std.proofs.Common.{◌≡◌, ◌∙◌, ℕ, ◌<◌, Bool, true, false, cond, ◌==◌, length, refl, sym, ap}
use Rattle.cost.specs.Costs.{CostLaws, Costs}
use Rattle.labels.specs.Line.{Classes}
use Rattle.legs.proofs.Panels.{landing, offered_below}
use Rattle.legs.specs.Scene.{priced}
use Rattle.leg_search.specs.Task.{Asks, Fit, OfClass, Task, asked, price}
use Rattle.motion_order.specs.InOrder.{Told, offer_at, weighed}
use Rattle.motion_order.specs.declared.offer.Offer.{Offer}
use Rattle.panel.specs.Answers.{Answers, Bounded}

-- what an offer costs is what its motion costs
weighed_priced : {V : Type 0} (c : Costs V) (a : Answers) (o : Offer) → Told a o → weighed c o ≡ priced c a o.motion
weighed_priced c a o h = by_cases (o.motion == a.motions) refl
  where
    by_cases : (t : Bool) → (o.motion == a.motions) ≡ t → weighed c o ≡ priced c a o.motion
    by_cases true e =
        let x : o.bytes ≡ 1 = h.bytes ∙ ap (λ t. cond t 1 (length (a.motion_bytes o.motion))) e in
        let y : o.milliseconds ≡ 0 = h.milliseconds ∙ ap (λ t. cond t 0 (a.delay o.motion)) e in
        ap (λ (n : ℕ). c.motion n o.milliseconds) x ∙ (ap (λ (n : ℕ). c.motion 1 n) y
        ∙ sym (ap (λ t. cond t (c.motion 1 0) (c.motion (length (a.motion_bytes o.motion)) (a.delay o.motion))) e))
    by_cases false e =
        let x : o.bytes ≡ length (a.motion_bytes o.motion) =
        h.bytes ∙ ap (λ t. cond t 1 (length (a.motion_bytes o.motion))) e in
        let y : o.milliseconds ≡ a.delay o.motion = h.milliseconds ∙ ap (λ t. cond t 0 (a.delay o.motion)) e in
        ap (λ (n : ℕ). c.motion n o.milliseconds) x ∙ (ap (λ (n : ℕ). c.motion (length (a.motion_bytes o.motion)) n) y
        ∙ sym (ap (λ t. cond t (c.motion 1 0) (c.motion (length (a.motion_bytes o.motion)) (a.delay o.motion))) e))

module _ {V : Type 0} (x : Task V) (q : Asks x) where
  pub class_price : (d h : ℕ) → d < x.count → h < length (x.class d)
      → priced x.costs x.scene.answers (offer_at (x.class d) h).motion ≡ price x d
  class_price d h lt in_class = sym (weighed_priced x.costs x.scene.answers _ (q.classes.told d h lt in_class))
      ∙ q.classes.same d h lt in_class

  pub of_price : (d p : ℕ) → OfClass x d p → priced x.costs x.scene.answers p ≡ price x d
  of_price d p o = ap (priced x.costs x.scene.answers) (sym o.is) ∙ class_price d o.place o.below o.within

  -- a motion of a class strictly adds
  pub price_adds : CostLaws x.costs → (v : V) (d : ℕ) → d < x.count
      → x.costs.at_most (x.costs.plus v (price x d)) v ≡ false
  price_adds l v d lt = l.strict v _ _ (q.classes.told d 0 lt (q.classes.some d lt)).limits

  pub classes : Bounded x.scene.answers → Classes (asked x) (Fit x) x.count (OfClass x) (price x)
  classes b = record {
    classed = λ d u p od st.
        let la = landing x.scene p d u st in
        let a = q.classes.all p (offered_below x.scene b p d la.place la.there) in
        let o : OfClass x a.0 p = record { below = a.1; place = a.2.0; within = a.2.1; is = a.2.2 } in
        record { class = a.0; below = a.1; is_of = o; price = of_price a.0 p o };
    priced = λ c p d u od st o. (o.below, of_price c p o);
  }
