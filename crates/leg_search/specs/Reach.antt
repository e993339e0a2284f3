-- How far a search has come.
--     Reach V         what is noted of each state; the settled and the reached states in a line, and where the line ends;
--                     and for each class of motions the place of the line from which on it is due
--     due_at x r d    the cost at which the class d is due: that of the state at its place, and of one motion more
--     DueIn x r q p   the motion p of the state with the number q is due
--     Stands x r b D  what holds all the while, where the first b states of the line are settled and D tells what is due:
--                     the frontier is kept; the line is in the order of costs; no class is taken beyond the settled
--                     states; the goal is not settled; and the line begins with the start and goes on with places, and no
--                     state stands in it twice
--     Late x r v      it is the turn of the cost v: nothing that stands in the line costs more, nor does the goal where it
--                     is reached, and no class is due at less
--     Searching x r   all this holds, at some cost
use Rattle.std.specs.Prelude.{◌≡◌, ◌≢◌, ℕ, ◌<◌, true}
use Rattle.labels.specs.Frontier.{Frontier}
use Rattle.labels.specs.Line.{Due, Early, Line}
use Rattle.labels.specs.Note.{Note}
use Rattle.labels.specs.declared.label.Stage.TheVariants.{Reached, Settled}
use Rattle.legs.specs.Scene.{numbered}
use Rattle.leg_search.specs.Task.{Fit, OfClass, Task, asked, places, price}

pub record Reach (V : Type 0) : Type 0 where
  pub notes : ℕ → Note V
  pub line : ℕ → ℕ
  pub end : ℕ
  pub next : ℕ → ℕ

module _ {V : Type 0} (x : Task V) (r : Reach V) where
  abbrev pub due_at : ℕ → V
  due_at d = x.costs.plus (r.notes (r.line (r.next d))).cost (price x d)

  abbrev pub DueIn : ℕ → ℕ → Type 0
  DueIn = Due r.line r.end r.next (OfClass x)

  pub record Stands (b : ℕ) (D : ℕ → ℕ → Type 0) : Type 0 where
    pub frontier : Frontier (asked x) x.start (Fit x) r.notes x.goal D
    pub line : Line x.costs r.notes r.line r.end b x.goal
    pub early : Early x.count r.next b
    pub waits : (r.notes x.goal).stage ≢ Settled
    pub begun : 0 < b
    pub begins : r.line 0 ≡ numbered x.scene.answers.size x.start
    pub inside : (i : ℕ) → 0 < i → i < r.end → r.line i < places x
    pub apart : (i j : ℕ) → i < j → j < r.end → r.line i ≢ r.line j

  pub record Late (v : V) : Type 0 where
    pub listed : (i : ℕ) → i < r.end → x.costs.at_most (r.notes (r.line i)).cost v ≡ true
    pub due : (d : ℕ) → d < x.count → r.next d < r.end → x.costs.at_most v (due_at d) ≡ true
    pub goal : (r.notes x.goal).stage ≡ Reached → x.costs.at_most (r.notes x.goal).cost v ≡ true

  pub record Searching : Type 0 where
    pub settled : ℕ
    pub stands : Stands settled DueIn
    pub cost : V
    pub late : Late cost
