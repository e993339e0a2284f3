-- What a search answers.
--     Tells c f s k q ls l    the answer l tells the leg by the costs c from the cursor k to the place q in the scene
--                             s: the labels ls hold its motions, and its cost is told. It is the only one, no sequence
--                             that leads there costs less, and it has at most as many motions as there are places. f
--                             tells the value of a cost
--     Answered c f s k q ls o o tells the leg, or that no sequence leads there
use Rattle.std.specs.Prelude.{◌≡◌, ◌*◌, ◌≤◌, true, Some, None, List, Option, length}
use Rattle.cost.specs.Costs.{Costs}
use Rattle.display.specs.Surface.{resting}
use Rattle.display.specs.declared.place.Cursor.{Cursor}
use Rattle.display.specs.declared.place.Place.{Place}
use Rattle.labels.specs.declared.label.Label.{Label}
use Rattle.leg_search.specs.Memory.{held}
use Rattle.leg_search.specs.declared.leg.Leg.{Leg as Told}
use Rattle.legs.specs.Graph.{Leads, spent}
use Rattle.legs.specs.Leg.{Leg}
use Rattle.legs.specs.Scene.{NoWay, Scene, graph}
use Rattle.legs.specs.Sequence.{Sequence, count, listed}

pub record Tells {K V : Type 0} (c : Costs V) (f : K → V) (s : Scene) (k : Cursor) (q : Place) (ls : List (Label K))
    (l : Told K) : Type 0 where
  pub way : Sequence
  pub leg : Leg (graph c s) k way (resting q)
  pub only : (x : Sequence) → Leg (graph c s) k x (resting q) → x ≡ way
  pub least : (x : Sequence) → Leads (graph c s) k x (resting q)
      → c.at_most (spent (graph c s) way) (spent (graph c s) x) ≡ true
  pub short : count way ≤ s.answers.size.rows * s.answers.size.columns
  pub within : l.first ≤ l.end
  pub kept : l.end ≤ length ls
  pub motions : held ls l.first l.end ≡ listed way
  pub cost : f l.cost ≡ spent (graph c s) way

abbrev pub Answered : {K V : Type 0} → Costs V → (K → V) → Scene → Cursor → Place → List (Label K) → Option (Told K)
    → Type 0
Answered c f s k q ls None = NoWay c s k q
Answered c f s k q ls (Some l) = Tells c f s k q ls l
