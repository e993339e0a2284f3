-- What a search has found, however it has ended.
use Rattle.std.proofs.Common.{◌≡◌, ◌≢◌, ℕ, ◌≤◌, List, length}
use Rattle.cost.specs.Costs.{CostLaws}
use Rattle.display.specs.Place.{On, number}
use Rattle.display.specs.declared.place.Place.{Place}
use Rattle.labels.specs.Note.{Note}
use Rattle.labels.specs.declared.label.Label.{Label}
use Rattle.labels.specs.declared.label.Stage.TheVariants.{Reached}
use Rattle.legs.specs.Scene.{NoWay, numbered}
use Rattle.leg_search.proofs.Searches.{no_way, told, trailed}
use Rattle.leg_search.specs.Answer.{Tells}
use Rattle.leg_search.specs.Memory.{Traces, Trailed, held}
use Rattle.leg_search.specs.Run.{Ends, at_once, by_class}
use Rattle.leg_search.specs.Task.{Asks, Task, places}
use Rattle.leg_search.specs.declared.leg.Leg.{Leg as Told}
use Rattle.panel.specs.Answers.{Bounded}

module _ {V : Type 0} (x : Task V) (l : CostLaws x.costs) (bd : Bounded x.scene.answers) (q : Asks x) (N : ℕ → Note V)
    (p : Place) (on : On x.scene.answers.size p) (is : x.goal ≡ number x.scene.answers.size p) where
  pub found_none : Ends x N → (N x.goal).stage ≢ Reached → NoWay x.costs x.scene x.start p
  found_none (by_class r en) = no_way x l bd q N _ en p on is
  found_none (at_once en) = no_way x l bd q N _ en p on is

  module _ (h : (N x.goal).stage ≡ Reached) (b m : ℕ) (begins : b ≡ numbered x.scene.answers.size x.start)
      (few : m ≡ places x) where
    pub found_trailed : Ends x N → Trailed N b x.goal m
    found_trailed (by_class r en) = trailed x l bd q N _ en p on is h b m begins few
    found_trailed (at_once en) = trailed x l bd q N _ en p on is h b m begins few

    pub found_told : {K : Type 0} (f : K → V) (ls : List (Label K)) (a : Told K) → Ends x N → a.first ≤ a.end
        → a.end ≤ length ls → Traces N b x.goal m (held ls a.first a.end) → f a.cost ≡ (N x.goal).cost
        → Tells x.costs f x.scene x.start p ls a
    found_told f ls a (by_class r en) = told x l bd q N _ en p on is h b m begins few f ls a
    found_told f ls a (at_once en) = told x l bd q N _ en p on is h b m begins few f ls a
