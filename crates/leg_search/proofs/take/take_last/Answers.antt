-- Note is taken of what lands on the goal; what lands elsewhere counts no more.
use Rattle.std.proofs.Common.{◌∙◌, inl, ℕ, ap, refl, subst, sym}
use Rattle.display.specs.Place.{number}
use Rattle.display.specs.declared.size.Size.{Size}
use Rattle.leg_search.proofs.Fronts.{noted_known}
use Rattle.leg_search.specs.Noting.{Noted, past, there}
use Rattle.leg_search.specs.Reading.{reach_of}
use Rattle.std.proofs.Math.ListN.{set}
use Rattle.leg_search.proofs.take.take_last.Goals as goal

pub returns-then-number-task-clause-took : goal.returns-then-number-task-clause-took
returns-then-number-task-clause-took g c = λ front. there refl c.in-Some.place (sym c.landing.ensures ∙ c.in-Some.is)
    (subst (λ (n : ℕ). Noted g.K.Cost.costs c.args.task.now.goal
    (reach_of g.K.Cost.value g.K.Cost.costs.zero c.args.labels.now front)
    (reach_of g.K.Cost.value g.K.Cost.costs.zero (set c.args.labels.now c.args.task.now.goal c.improve.new.self) front)
    (g.K.Cost.value c.args.departure.cost) c.args.motion c.args.departure.number n)
    (sym c.if-number-task.true ∙ (c.number.ensures ∙ ap (λ (z : Size). number z c.in-Some.place) c.size.ensures))
    (noted_known g.K.Cost.value g.K.Cost.costs c.args.task.now.goal front (g.K.Cost.value c.args.departure.cost)
    c.args.motion c.args.departure.number c.args.task.now.goal c.args.labels.now c.args.task.now.goal
    c.index-labels-task-then-number-task.result c.improve.new.self refl c.requires.goal
    c.index-labels-task-then-number-task.is c.improve.ensures.note c.improve.ensures.step (inl refl)))

pub returns-else-number-task-clause-took : goal.returns-else-number-task-clause-took
returns-else-number-task-clause-took g c = λ front. past refl c.in-Some.place (sym c.landing.ensures ∙ c.in-Some.is)
    (λ e. c.if-number-task.false
    (c.number.ensures ∙ (ap (λ (z : Size). number z c.in-Some.place) c.size.ensures ∙ e)))
    c.requires.reached refl
