-- Walking a plan. All words depend on costs, on what a panel answers, and on the shown and the wanted picture.
--     Gone s d q xs ys e      the leg to the place q, in the scene of the split s, from where d tells that the plan has
--                             come: it is sent, and e bytes are counted then; xs is the output before, and ys after
--     Goes s d q xs ys o      the same, or no sequence leads there and o is nothing
--     Took r d xs ys n        the leg to the run r and its drawing are sent, and n tells how far the plan has come then
--     RunTaken r d xs ys o    the same, or no sequence leads to the run, and o tells its first place
--     Walking rest k i xs n d ys
--                             of the plan from where k tells that the panel stands, the runs before the number n are
--                             sent behind i bytes, and d tells how far it has come
--     Walked rest k i xs ys s a plan from where k tells that the panel stands is sent behind i bytes: s tells the count
--                             and the pen that is then set
--     Walks rest k i xs ys o  the same, or the plan is blocked, and o tells at which goal
use Rattle.std.specs.Prelude.{◌≡◌, ℕ, ◌+◌, ◌-◌, ◌*◌, ◌≤◌, List, ◌++◌, Some, None, Option, Result, Ok, Err}
use Rattle.cost.specs.Costs.{Costs}
use Rattle.display.specs.Place.{On}
use Rattle.display.specs.Surface.{resting}
use Rattle.display.specs.declared.cell.Glyph.{Glyph}
use Rattle.display.specs.declared.place.Place.{Place}
use Rattle.legs.specs.Scene.{NoWay, sent}
use Rattle.legs.specs.Sequence.{Sequence}
use Rattle.panel.specs.Answers.{Answers}
use Rattle.plan.specs.Drawing.{cells_of, drawing, numbered_place, pen_after}
use Rattle.plan.specs.Plan.{Blocked, Chosen, Plan, leg_scene}
use Rattle.plan.specs.Sofar.{Chained, Sofar}
use Rattle.plan.specs.declared.stand.Stand.{Stand}
use Rattle.planning.specs.Pours.{Pours, most_leg}
use Rattle.planning.specs.declared.go.Progress.{Progress}
use Rattle.planning.specs.declared.walk.Sent.{Sent}
use Rattle.runs.specs.Runs.{Begins, differs}
use Rattle.runs.specs.declared.run.Run.{Run}

module _ {V : Type 0} (c : Costs V) (a : Answers) (shown wanted : List Glyph) where
  pub record Gone (s : ℕ) (d : Progress) (q : Place) (xs ys : List ℕ) (e : ℕ) : Type 0 where
    pub way : Sequence
    pub chosen : Chosen c (leg_scene a shown wanted s d.pen) d.cursor q way
    pub pours : Pours (sent (leg_scene a shown wanted s d.pen) d.cursor way) xs ys d.count e
    pub few : e ≤ d.count + most_leg

  abbrev pub Goes : ℕ → Progress → Place → List ℕ → List ℕ → Option ℕ → Type 0
  Goes s d q xs ys None = NoWay c (leg_scene a shown wanted s d.pen) d.cursor q × (ys ≡ xs)
  Goes s d q xs ys (Some e) = Gone s d q xs ys e

  pub record Took (r : Run) (d : Progress) (xs ys : List ℕ) (n : Progress) : Type 0 where
    pub way : Sequence
    pub chosen : Chosen c (leg_scene a shown wanted r.first d.pen) d.cursor (numbered_place a.size r.first) way
    pub pours : Pours (sent (leg_scene a shown wanted r.first d.pen) d.cursor way
        ++ drawing a d.pen (cells_of wanted r)) xs ys d.count n.count
    pub cursor : n.cursor ≡ a.after (numbered_place a.size (r.end - 1))
    pub pen : n.pen ≡ pen_after d.pen (cells_of wanted r)
    pub few : n.count ≤ d.count + 65536

  abbrev pub RunTaken : Run → Progress → List ℕ → List ℕ → Result Progress Place → Type 0
  RunTaken r d xs ys (Ok n) = Took r d xs ys n
  RunTaken r d xs ys (Err q) =
      NoWay c (leg_scene a shown wanted r.first d.pen) d.cursor (numbered_place a.size r.first)
      × (q ≡ numbered_place a.size r.first) × (ys ≡ xs)

  pub record Walking (rest : Place) (k : Stand) (i : ℕ) (xs : List ℕ) (n : ℕ) (d : Progress) (ys : List ℕ)
      : Type 0 where
    pub done : List Run
    pub laid : List ℕ
    pub sofar : Sofar c a shown wanted rest done laid (resting k.place) k.pen d.cursor d.pen
    pub chained : Chained a.size.columns (a.size.rows * a.size.columns) (differs shown wanted) done n
    pub begins : Begins a.size.columns (differs shown wanted) n
    pub within : n ≤ a.size.rows * a.size.columns
    pub on : On a.size d.cursor.place
    pub pours : Pours laid xs ys i d.count
    -- a run has a place at least
    pub few : d.count ≤ i + 65536 * n

  module _ (rest : Place) (k : Stand) (i : ℕ) (xs ys : List ℕ) where
    pub record Walked (s : Sent) : Type 0 where
      pub bytes : List ℕ
      pub plan : Plan c a shown wanted rest (resting k.place) k.pen bytes s.pen
      pub pours : Pours bytes xs ys i s.count

    abbrev pub Walks : Result Sent Place → Type 0
    Walks (Ok s) = Walked s
    Walks (Err q) = Blocked c a shown wanted rest (resting k.place) k.pen q
