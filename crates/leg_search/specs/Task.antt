-- What a search is asked.
--     Task V        the costs, the scene, the cursor at which the search begins, the number of the state at which it ends,
--                   and the classes of the motions: how many there are, and which motions are of each
--     asked x       the cursors and the motions between them, as the task x has them
--     Fit x u       the cursor u is one that sequences from the start come to
--     places x      how many places the panel has
--     price x d     what the motions of the class d cost
--     OfClass x d p the motion p is of the class d
--     Asks x        the start is on the panel, the goal is the number of a place, and the classes are the panel's
use Rattle.std.specs.Prelude.{◌≡◌, ℕ, ◌*◌, ◌<◌, List, length}
use Rattle.cost.specs.Costs.{Costs}
use Rattle.display.specs.Place.{On}
use Rattle.display.specs.declared.place.Cursor.{Cursor}
use Rattle.legs.specs.Graph.{Graph}
use Rattle.legs.specs.Sane.{Node}
use Rattle.legs.specs.Scene.{Scene, graph}
use Rattle.motion_order.specs.InClasses.{InClasses}
use Rattle.motion_order.specs.InOrder.{offer_at, weighed}
use Rattle.motion_order.specs.declared.offer.Offer.{Offer}

pub record Task (V : Type 0) : Type 0 where
  pub costs : Costs V
  pub scene : Scene
  pub start : Cursor
  pub goal : ℕ
  pub count : ℕ
  pub class : ℕ → List Offer

abbrev pub asked : {V : Type 0} → Task V → Graph Cursor V
asked x = graph x.costs x.scene

abbrev pub Fit : {V : Type 0} → Task V → Cursor → Type 0
Fit x u = Node x.scene.answers x.start u

abbrev pub places : {V : Type 0} → Task V → ℕ
places x = x.scene.answers.size.rows * x.scene.answers.size.columns

abbrev pub price : {V : Type 0} → Task V → ℕ → V
price x d = weighed x.costs (offer_at (x.class d) 0)

pub record OfClass {V : Type 0} (x : Task V) (d p : ℕ) : Type 0 where
  pub below : d < x.count
  pub place : ℕ
  pub within : place < length (x.class d)
  pub is : (offer_at (x.class d) place).motion ≡ p

pub record Asks {V : Type 0} (x : Task V) : Type 0 where
  pub start : On x.scene.answers.size x.start.place
  pub goal : x.goal < places x
  pub classes : InClasses x.costs x.scene.answers x.count x.class
