-- Taking all motions of a state at once, but for those that cannot matter any more.
--     NoneDue              no motion of any state is due
--     Least c N e n        n is a reached state with a number below e, and none of those costs less
--     Best c N e o         o is such a state, or none of them is reached
--     Rest x q d           of the state with the number q the motions of the class d and of those after it are due, and of
--                          no other state any
--     RestIn x q d j       the same, where the first j motions of the class d are dealt with
--     Marks x N M v u q p  note is taken of the motion p of the cursor u, which has the number q, at the cost v, if it is
--                          offered there
--     AtOnce x N u q v D   the frontier is kept with the notes N, where D tells what is due, and the goal is not settled; u
--                          is the cursor of the state with the number q, which is settled, and v is what its leg costs
--     Idle x N             the frontier is kept with nothing due, and the goal is not settled
--     waiting s            1 for a stage s that is not settled, and 0 for a settled one
--     unsettled ls         how many of the labels are not of settled states
use Rattle.std.specs.Prelude.{◌≡◌, ◌≢◌, ◌⊎◌, ℕ, ◌+◌, ◌<◌, ◌≤◌, true, List, Some, None, Option}
use Rattle.std.specs.List.{sum_by}
use Rattle.cost.specs.Costs.{Costs}
use Rattle.display.specs.Place.{number}
use Rattle.display.specs.declared.place.Cursor.{Cursor}
use Rattle.display.specs.declared.place.Place.{Place}
use Rattle.labels.specs.Frontier.{Frontier}
use Rattle.labels.specs.Note.{Note, Updated, improved}
use Rattle.labels.specs.declared.label.Label.{Label}
use Rattle.labels.specs.declared.label.Stage.{Stage}
use Rattle.labels.specs.declared.label.Stage.TheVariants.{Unreached, Reached, Settled}
use Rattle.legs.specs.Scene.{lands, numbered}
use Rattle.leg_search.specs.Take.{After}
use Rattle.leg_search.specs.Task.{Fit, OfClass, Task, asked}

abbrev pub NoneDue : ℕ → ℕ → Type 0
NoneDue a p = ⊥

pub record Least {V : Type 0} (c : Costs V) (N : ℕ → Note V) (e n : ℕ) : Type 0 where
  pub below : n < e
  pub reached : (N n).stage ≡ Reached
  pub least : (j : ℕ) → j < e → (N j).stage ≡ Reached → c.at_most (N n).cost (N j).cost ≡ true

abbrev pub Best : {V : Type 0} → Costs V → (ℕ → Note V) → ℕ → Option ℕ → Type 0
Best c N e None = (j : ℕ) → j < e → (N j).stage ≡ Reached → ⊥
Best c N e (Some n) = Least c N e n

abbrev pub Rest : {V : Type 0} → Task V → ℕ → ℕ → ℕ → ℕ → Type 0
Rest x q d a p = (a ≡ q) × ((e : ℕ) × (d ≤ e) × OfClass x e p)

abbrev pub RestIn : {V : Type 0} → Task V → ℕ → ℕ → ℕ → ℕ → ℕ → Type 0
RestIn x q d j a p = Rest x q (d + 1) a p ⊎ ((a ≡ q) × After x d j p)

pub data Marks {V : Type 0} (x : Task V) (N M : ℕ → Note V) (v : V) (u : Cursor) (q p : ℕ) : Type 0 where
  nowhere : lands x.scene p u ≡ None → M ≡ N → Marks x N M v u q p
  there : (a : Place) → lands x.scene p u ≡ Some a
      → Updated N M (number x.scene.answers.size a) (improved x.costs (N (number x.scene.answers.size a)) v p q)
      → Marks x N M v u q p

pub record AtOnce {V : Type 0} (x : Task V) (N : ℕ → Note V) (u : Cursor) (q : ℕ) (v : V) (D : ℕ → ℕ → Type 0)
    : Type 0 where
  pub frontier : Frontier (asked x) x.start (Fit x) N x.goal D
  pub waits : (N x.goal).stage ≢ Settled
  pub fit : Fit x u
  pub is : q ≡ numbered x.scene.answers.size u
  pub settled : (N q).stage ≡ Settled
  pub cost : (N q).cost ≡ v

pub record Idle {V : Type 0} (x : Task V) (N : ℕ → Note V) : Type 0 where
  pub frontier : Frontier (asked x) x.start (Fit x) N x.goal NoneDue
  pub waits : (N x.goal).stage ≢ Settled

abbrev pub waiting : Stage → ℕ
waiting Unreached = 1
waiting Reached = 1
waiting Settled = 0

unfoldable pub unsettled : {K : Type 0} → List (Label K) → ℕ
unsettled ls = sum_by (λ l. waiting l.stage) ls
