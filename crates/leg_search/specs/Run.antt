-- The turns of a search.
--     Exceeds c a v   the note a is of a reached state, and v is more than it costs
--     Ended x N D     a search has come to its end, with the notes N: the frontier is kept and the goal is not settled;
--                     where it is reached, all that is due and all that the reached states lead to comes to more; where
--                     it is not, no state is reached, and no motion that is offered is due. D tells what is due
--     Ends x N        it has ended class by class, or with nothing left due
--     Queued x r q g  the classes are in the queue q, and all is known of it but the class that was answered last; g says
--                     whether others may have become due
use Rattle.std.specs.Prelude.{◌≡◌, ◌≢◌, ℕ, Bool, false, length, Some}
use Rattle.cost.specs.Costs.{Costs}
use Rattle.due_queue.specs.Queue.{Places, Ready}
use Rattle.display.specs.declared.place.Cursor.{Cursor}
use Rattle.labels.specs.Frontier.{Dearer, Frontier}
use Rattle.labels.specs.Note.{Note}
use Rattle.labels.specs.declared.label.Stage.TheVariants.{Reached, Settled}
use Rattle.legs.specs.Scene.{numbered}
use Rattle.leg_search.specs.AtOnce.{NoneDue}
use Rattle.leg_search.specs.Due.{DueOf, sooner_of}
use Rattle.leg_search.specs.Reach.{DueIn, Reach}
use Rattle.leg_search.specs.Task.{Fit, Task, asked}

pub record Exceeds {V : Type 0} (c : Costs V) (a : Note V) (v : V) : Type 0 where
  pub reached : a.stage ≡ Reached
  pub more : c.at_most v a.cost ≡ false

pub record Ended {V : Type 0} (x : Task V) (N : ℕ → Note V) (D : ℕ → ℕ → Type 0) : Type 0 where
  pub frontier : Frontier (asked x) x.start (Fit x) N x.goal D
  pub waits : (N x.goal).stage ≢ Settled
  pub dearer : (N x.goal).stage ≡ Reached → Dearer (asked x) x.start (Fit x) N D (N x.goal).cost
  pub empty : (N x.goal).stage ≢ Reached → (u : Cursor) → Fit x u
      → (N (numbered x.scene.answers.size u)).stage ≡ Reached → ⊥
  pub over : (N x.goal).stage ≢ Reached → (d u : Cursor) (p : ℕ) → Fit x d → (asked x).step p d ≡ Some u
      → D (numbered x.scene.answers.size d) p → ⊥

pub data Ends {V : Type 0} (x : Task V) (N : ℕ → Note V) : Type 0 where
  by_class : (r : Reach V) → Ended x N (DueIn x r) → Ends x N
  at_once : Ended x N NoneDue → Ends x N

pub record Queued {V : Type 0} (x : Task V) (r : Reach V) (q : Places) (g : Bool) : Type 0 where
  pub classes : length q.numbers ≡ x.count
  pub ready : Ready (DueOf x r) (sooner_of x r) q g
