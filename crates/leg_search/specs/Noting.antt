-- What becomes of a motion that is taken.
--     Appends r s n         s is r, with the state n at the end of the line
--     Noted c t r s v p q n note is taken of a sequence to the state n, at the cost v, with the last motion p from the state
--                           q: it was known, or is the goal t; or it is new, and comes to stand in the line
--     Preceded a p          the note a is of a reached state, by a motion before p
--     Took x r s v u q p b  what became of the motion p of the cursor u, which has the number q: r is how far the search
--                           had come, and s how far it came. b says that it comes after the goal's, and then it is left
--                           out. It is left out, too, where it is not offered, or lands elsewhere once the goal is reached
--     Grown r s             from r to s the line has only become longer, and the costs of its states are as they were
use Rattle.std.specs.Prelude.{◌≡◌, ◌≢◌, ◌⊎◌, ℕ, ◌+◌, ◌<◌, ◌≤◌, Bool, true, false, Some, None}
use Rattle.cost.specs.Costs.{Costs}
use Rattle.display.specs.Place.{number}
use Rattle.display.specs.declared.place.Cursor.{Cursor}
use Rattle.display.specs.declared.place.Place.{Place}
use Rattle.labels.specs.Note.{Note, Updated, improved}
use Rattle.labels.specs.declared.label.Stage.TheVariants.{Unreached, Reached}
use Rattle.legs.specs.Scene.{lands}
use Rattle.leg_search.specs.Reach.{Reach}
use Rattle.leg_search.specs.Task.{Task}

pub record Appends {V : Type 0} (r s : Reach V) (n : ℕ) : Type 0 where
  pub notes : s.notes ≡ r.notes
  pub at_end : s.line r.end ≡ n
  pub elsewhere : (i : ℕ) → i ≢ r.end → s.line i ≡ r.line i
  pub end : s.end ≡ r.end + 1
  pub next : s.next ≡ r.next

pub data Noted {V : Type 0} (c : Costs V) (t : ℕ) (r s : Reach V) (v : V) (p q n : ℕ) : Type 0 where
  known : (n ≡ t) ⊎ ((r.notes n).stage ≢ Unreached) → (M : ℕ → Note V)
      → Updated r.notes M n (improved c (r.notes n) v p q) → s ≡ record r { notes = M } → Noted c t r s v p q n
  new : (r.notes n).stage ≡ Unreached → n ≢ t → (r.notes t).stage ≢ Reached → (M : ℕ → Note V)
      → Updated r.notes M n (improved c (r.notes n) v p q) → (m : Reach V) → Appends r m n
      → s ≡ record m { notes = M } → Noted c t r s v p q n

pub record Preceded {V : Type 0} (a : Note V) (p : ℕ) : Type 0 where
  pub reached : a.stage ≡ Reached
  pub earlier : a.motion < p

pub data Took {V : Type 0} (x : Task V) (r s : Reach V) (v : V) (u : Cursor) (q p : ℕ) (b : Bool) : Type 0 where
  late : b ≡ true → Preceded (r.notes x.goal) p → s ≡ r → Took x r s v u q p b
  nowhere : b ≡ false → lands x.scene p u ≡ None → s ≡ r → Took x r s v u q p b
  past : b ≡ false → (a : Place) → lands x.scene p u ≡ Some a → number x.scene.answers.size a ≢ x.goal
      → (r.notes x.goal).stage ≡ Reached → s ≡ r → Took x r s v u q p b
  there : b ≡ false → (a : Place) → lands x.scene p u ≡ Some a
      → Noted x.costs x.goal r s v p q (number x.scene.answers.size a) → Took x r s v u q p b

pub record Grown {V : Type 0} (r s : Reach V) : Type 0 where
  pub end : r.end ≤ s.end
  pub line : (i : ℕ) → i < r.end → s.line i ≡ r.line i
  pub cost : (i : ℕ) → i < r.end → (s.notes (s.line i)).cost ≡ (r.notes (r.line i)).cost
