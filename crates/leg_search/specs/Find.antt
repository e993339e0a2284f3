-- What is asked of a search, and what it refuses.
--     Covered z ls            on a panel of size z, so many labels are enough: one for each place and one more
--     Astray z k q p          p is the first of the start k and the goal q that is not on the panel
--     Refused why             the search is refused for a reason that holds, and the labels are as they were
--     Searched o              nothing is amiss, and o is the answer
--     Finds r                 r is the one or the other: too few labels are refused first, then a place that is
--                             not on the panel
use Rattle.std.specs.Prelude.{◌≡◌, ◌⊎◌, ℕ, ◌*◌, ◌<◌, List, Option, Result, Ok, Err, length}
use Rattle.cost.specs.Costs.{Costs}
use Rattle.display.specs.Place.{On}
use Rattle.display.specs.declared.place.Cursor.{Cursor}
use Rattle.display.specs.declared.place.Place.{Place}
use Rattle.display.specs.declared.size.Size.{Size}
use Rattle.labels.specs.declared.label.Label.{Label}
use Rattle.leg_search.specs.Answer.{Answered}
use Rattle.leg_search.specs.declared.leg.Leg.{Leg as Told}
use Rattle.leg_search.specs.declared.leg.Refusal.{Refusal}
use Rattle.leg_search.specs.declared.leg.Refusal.TheVariants.{TooShort, Outside}
use Rattle.legs.specs.Scene.{Scene}

pub record Covered (z : Size) (labels : ℕ) : Type 0 where
  pub memory : z.rows * z.columns < labels

abbrev pub Astray : Size → Cursor → Place → Place → Type 0
Astray z k q p = ((On z k.place → ⊥) × (p ≡ k.place)) ⊎ (On z k.place × (On z q → ⊥) × (p ≡ q))

module _ {K V : Type 0} (c : Costs V) (f : K → V) (s : Scene) (k : Cursor) (q : Place)
    (ls ms : List (Label K)) where
  pub record Refused (why : Type 0) : Type 0 where
    pub because : why
    pub kept : ms ≡ ls

  pub record Searched (o : Option (Told K)) : Type 0 where
    pub covered : Covered s.answers.size (length ls)
    pub start : On s.answers.size k.place
    pub goal : On s.answers.size q
    pub answered : Answered c f s k q ms o

  abbrev pub Finds : Result (Option (Told K)) Refusal → Type 0
  Finds (Ok o) = Searched o
  Finds (Err TooShort) = Refused (Covered s.answers.size (length ls) → ⊥)
  Finds (Err (Outside p)) =
      Refused (Covered s.answers.size (length ls) × Astray s.answers.size k q p)
