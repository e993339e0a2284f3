-- What is asked of a graph for its legs to be what one expects.
--     Sane g k ok m    the costs obey their laws; the states that are ok include k and are kept by every motion; no two
--                      of them have one number; a motion strictly adds; and it lands on a number below m
--     Node a k u       u is a cursor that sequences from k come to on a panel with the answers a: on the panel, and
--                      held only if it is k itself
use Rattle.std.specs.Prelude.{◌≡◌, ◌⊎◌, ℕ, ◌<◌, false, Some}
use Rattle.cost.specs.Costs.{CostLaws}
use Rattle.display.specs.Place.{On}
use Rattle.display.specs.declared.place.Cursor.{Cursor}
use Rattle.legs.specs.Graph.{Graph}
use Rattle.panel.specs.Answers.{Answers}

pub record Sane {A V : Type 0} (g : Graph A V) (k : A) (ok : A → Type 0) (m : ℕ) : Type 0 where
  pub laws : CostLaws g.costs
  pub begins : ok k
  pub goes : (n : ℕ) (d u : A) → ok d → g.step n d ≡ Some u → ok u
  pub apart : (d u : A) → ok d → ok u → g.number d ≡ g.number u → d ≡ u
  pub adds : (n : ℕ) (d u : A) → ok d → g.step n d ≡ Some u
      → (v : V) → g.costs.at_most (g.costs.plus v (g.weight n)) v ≡ false
  pub lands : (n : ℕ) (d u : A) → ok d → g.step n d ≡ Some u → g.number u < m

pub record Node (a : Answers) (k u : Cursor) : Type 0 where
  pub on : On a.size u.place
  pub free : (u.held ≡ false) ⊎ (u ≡ k)
