-- What becomes of a plan that is to be sent. All words depend on costs, on what a panel answers, on the cells shown and
-- wanted, of which f tells the meanings, on bytes to be sent ahead of the plan, on where the panel stands, on the rest
-- place, and on the search's memory and the output before and after.
--     pictured z f xs    the picture of a panel of size z with which the cells xs begin
--     Looked             nothing is amiss: there are labels and cells enough, and both places are on the panel
--     Planned s          the plan is sent: s tells how many bytes are written, and the pen that is set after them
--     Blocks r k         no sequence leads to the goal at the row r and the column k, which is the first such one; the
--                        output is as it was
--     Exceeds n          the output is shorter than the n bytes that are to be sent, and as it was
--     Unplanned why      a reason why holds for which no plan is looked for, and nothing has changed
--     Plans o            what o says of these has become of it
use Rattle.std.specs.Prelude.{◌≡◌, ℕ, ◌*◌, ◌<◌, List, Result, Ok, Err, length, map, take}
use Rattle.cost.specs.Costs.{Costs}
use Rattle.display.specs.Place.{On}
use Rattle.display.specs.Surface.{place_of, resting}
use Rattle.display.specs.declared.cell.Glyph.{Glyph}
use Rattle.display.specs.declared.place.Place.{Place}
use Rattle.display.specs.declared.size.Size.{Size}
use Rattle.faults.specs.declared.fault.Fault.{Fault}
use Rattle.faults.specs.declared.fault.Fault.TheVariants.{Outside, NotCode, NotPen, UnsafeCorner, NotDrawn, NoSequence, OutputTooShort, TooSmall}
use Rattle.labels.specs.declared.label.Label.{Label}
use Rattle.leg_search.specs.Find.{Astray}
use Rattle.panel.specs.Answers.{Answers}
use Rattle.plan.specs.Plan.{Blocked}
use Rattle.plan.specs.declared.stand.Stand.{Stand}
use Rattle.planning.specs.Enough.{Enough}
use Rattle.planning.specs.Tried.{CountedAs, Wrote}
use Rattle.planning.specs.declared.walk.Sent.{Sent}

abbrev pub pictured : {C : Type 0} → Size → (C → Glyph) → List C → List Glyph
pictured z f xs = map f (take (z.rows * z.columns) xs)

module _ {V C K : Type 0} (c : Costs V) (a : Answers) (f : C → Glyph) (shown wanted : List C) (head : List ℕ)
    (k : Stand) (rest : Place) (ls ms : List (Label K)) (xs ys : List ℕ) where
  pub record Looked : Type 0 where
    pub enough : Enough a.size (length ls) (length wanted)
    pub start : On a.size k.place
    pub goal : On a.size rest
    -- the labels tell nothing any more but how many they are
    pub labels : length ms ≡ length ls

  pub record Planned (s : Sent) : Type 0 where
    pub looked : Looked
    pub wrote : Wrote c a (pictured a.size f shown) (pictured a.size f wanted) rest k head xs ys s

  pub record Blocks (row column : ℕ) : Type 0 where
    pub looked : Looked
    pub blocked : Blocked c a (pictured a.size f shown) (pictured a.size f wanted) rest (resting k.place) k.pen
        (place_of row column)
    pub output : ys ≡ xs

  pub record Exceeds (n : ℕ) : Type 0 where
    pub looked : Looked
    pub counted : CountedAs c a (pictured a.size f shown) (pictured a.size f wanted) rest k head xs ys n
    pub short : length xs < n

  pub record Unplanned (why : Type 0) : Type 0 where
    pub because : why
    pub labels : ms ≡ ls
    pub output : ys ≡ xs

  abbrev pub Plans : Result Sent Fault → Type 0
  Plans (Ok s) = Planned s
  Plans (Err TooSmall) = Unplanned (Enough a.size (length ls) (length wanted) → ⊥)
  Plans (Err (Outside r q)) = Unplanned (Enough a.size (length ls) (length wanted)
      × Astray a.size (resting k.place) rest (place_of r q))
  Plans (Err (NoSequence r q)) = Blocks r q
  Plans (Err (OutputTooShort n)) = Exceeds n
  Plans (Err (NotCode r q)) = ⊥
  Plans (Err (NotPen r q)) = ⊥
  Plans (Err (UnsafeCorner r q)) = ⊥
  Plans (Err NotDrawn) = ⊥
