-- Trying a plan behind some bytes. All words depend on costs, on what a panel answers, on the shown and the wanted
-- picture, on the rest place and where the panel stands, on the bytes ahead of the plan, and on the output before and
-- after.
--     WalkedAhead s    the bytes and then those of the plan are laid, where the output has room for them: s tells how
--                      many they are, and the pen that is then set
--     WalksAhead o     the same, or the plan is blocked, and o tells at which goal
--     Wrote s          they are written, and s tells the same
--     CountedAs n      there are n of them, and the output is as it was
--     Tries o          they are written or counted, or the plan is blocked, and the output is as it was
use Rattle.std.specs.Prelude.{◌≡◌, ℕ, ◌≤◌, List, ◌++◌, Result, Ok, Err, drop, length}
use Rattle.cost.specs.Costs.{Costs}
use Rattle.display.specs.Surface.{resting}
use Rattle.display.specs.declared.cell.Glyph.{Glyph}
use Rattle.display.specs.declared.place.Place.{Place}
use Rattle.panel.specs.Answers.{Answers}
use Rattle.plan.specs.Plan.{Blocked, Plan}
use Rattle.plan.specs.declared.stand.Stand.{Stand}
use Rattle.planning.specs.Pours.{Pours}
use Rattle.planning.specs.declared.send.Tried.{Tried}
use Rattle.planning.specs.declared.send.Tried.TheVariants.{Written, Counted, Stopped}
use Rattle.planning.specs.declared.walk.Sent.{Sent}

module _ {V : Type 0} (c : Costs V) (a : Answers) (shown wanted : List Glyph) (rest : Place) (k : Stand)
    (head xs ys : List ℕ) where
  pub record WalkedAhead (s : Sent) : Type 0 where
    pub bytes : List ℕ
    pub plan : Plan c a shown wanted rest (resting k.place) k.pen bytes s.pen
    pub pours : Pours (head ++ bytes) xs ys 0 s.count

  abbrev pub WalksAhead : Result Sent Place → Type 0
  WalksAhead (Ok s) = WalkedAhead s
  WalksAhead (Err q) = Blocked c a shown wanted rest (resting k.place) k.pen q

  pub record Wrote (s : Sent) : Type 0 where
    pub bytes : List ℕ
    pub plan : Plan c a shown wanted rest (resting k.place) k.pen bytes s.pen
    pub count : s.count ≡ length (head ++ bytes)
    pub fits : s.count ≤ length xs
    pub output : ys ≡ (head ++ bytes) ++ drop s.count xs

  pub record CountedAs (n : ℕ) : Type 0 where
    pub bytes : List ℕ
    pub pen : ℕ
    pub plan : Plan c a shown wanted rest (resting k.place) k.pen bytes pen
    pub count : n ≡ length (head ++ bytes)
    pub output : ys ≡ xs

  abbrev pub Tries : Tried → Type 0
  Tries (Written s) = Wrote s
  Tries (Counted n) = CountedAs n
  Tries (Stopped q) = Blocked c a shown wanted rest (resting k.place) k.pen q × (ys ≡ xs)
