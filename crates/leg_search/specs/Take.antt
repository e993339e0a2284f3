-- Taking the motions of one class from one state.
--     After x d j p       the motion p is of the class d, but none of its first j
--     Left x r d j i q p  the motion p is still due at the state q, where the first j motions of the class d are dealt with
--                         from the state at the place i, and the class is due from the place after it on
--     At x r v            it is the turn of the cost v, and the goal costs no less where it is reached
--     Taking x r b d j i v u
--                         what holds then: u is the cursor of that state, which is one of the b that are settled, and v is
--                         what a sequence costs that ends there with a motion of the class
--     Takes x r s d j v u all this, once r has become s since the first motion of the class d was taken
--     InTurn x r v        it is the turn of the cost v, and no class is being taken
--     Roomy x r           while some state is new, the line has room for one more
use Rattle.std.specs.Prelude.{◌≡◌, ◌⊎◌, ℕ, ◌<◌, ◌≤◌, true, length}
use Rattle.display.specs.declared.place.Cursor.{Cursor}
use Rattle.labels.specs.declared.label.Stage.TheVariants.{Unreached, Reached}
use Rattle.legs.specs.Scene.{numbered}
use Rattle.leg_search.specs.Noting.{Grown}
use Rattle.leg_search.specs.Reach.{DueIn, Late, Reach, Stands}
use Rattle.leg_search.specs.Task.{Fit, Task, places, price}
use Rattle.motion_order.specs.InOrder.{offer_at}

pub record After {V : Type 0} (x : Task V) (d j p : ℕ) : Type 0 where
  pub place : ℕ
  pub from : j ≤ place
  pub within : place < length (x.class d)
  pub is : (offer_at (x.class d) place).motion ≡ p

abbrev pub Left : {V : Type 0} → Task V → Reach V → ℕ → ℕ → ℕ → ℕ → ℕ → Type 0
Left x r d j i q p = DueIn x r q p ⊎ ((q ≡ r.line i) × After x d j p)

pub record At {V : Type 0} (x : Task V) (r : Reach V) (v : V) : Type 0 where
  pub late : Late x r v
  pub goal : (r.notes x.goal).stage ≡ Reached → x.costs.at_most v (r.notes x.goal).cost ≡ true

pub record Taking {V : Type 0} (x : Task V) (r : Reach V) (b d j i : ℕ) (v : V) (u : Cursor) : Type 0 where
  pub stands : Stands x r b (Left x r d j i)
  pub at : At x r v
  pub class : d < x.count
  pub fit : Fit x u
  pub is : r.line i ≡ numbered x.scene.answers.size u
  pub before : i < b
  pub cost : v ≡ x.costs.plus (r.notes (r.line i)).cost (price x d)

pub record Takes {V : Type 0} (x : Task V) (r s : Reach V) (d j : ℕ) (v : V) (u : Cursor) : Type 0 where
  pub settled : ℕ
  pub place : ℕ
  pub taking : Taking x s settled d j place v u
  pub grown : Grown r s

pub record InTurn {V : Type 0} (x : Task V) (r : Reach V) (v : V) : Type 0 where
  pub settled : ℕ
  pub stands : Stands x r settled (DueIn x r)
  pub at : At x r v

pub record Roomy {V : Type 0} (x : Task V) (r : Reach V) : Type 0 where
  pub room : (n : ℕ) → n < places x → (r.notes n).stage ≡ Unreached → r.end ≤ places x
