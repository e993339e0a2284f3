-- Plans. All words here depend on costs, on what a panel answers, on the picture that is on the glass, on the wanted
-- one and on the place where the cursor is to rest.
--     leg_scene a gs hs s p what a leg depends on: the glass has wanted cells at the places with a number below s and
--                           shown cells at the others, and the pen p is set
--     Chosen s k q w        the sequence w is the leg from the cursor k to the place q in the scene s. It is the only
--                           one, and every sequence that leads there costs at least as much
--     Rests k p bs e        the last leg, from the cursor k with the pen p to the rest place, sends the bytes bs, and
--                           the pen e is set after it
--     Draws T r k p bs e    a leg from k with the pen p to the first cell of the run r and the drawing of its cells,
--                           and then what T says, send bs, and e is set after it
--     Sends rs k p bs e     legs to the runs rs one after the other, with the drawing of each, and the last leg, send
--                           bs
--     Stuck rs k p q        some of these legs has no sequence, and q is the goal of the first such leg
--     Plan k p bs e         the plan from the cursor k with the pen p sends bs, and e is set after it: so do the runs
--                           of the shown and the wanted picture, in the order of their first places
--     Blocked k p q         the plan cannot be: a leg has no sequence, and q is the first such goal
use Rattle.std.specs.Prelude.{◌≡◌, ◌⊎◌, ℕ, ◌-◌, ◌*◌, cond, true, List, [], ◌∷◌, ◌++◌, nat_lt, slice_index_or}
use Rattle.cost.specs.Costs.{Costs}
use Rattle.display.specs.Cell.{blank}
use Rattle.display.specs.Place.{number}
use Rattle.display.specs.Surface.{resting}
use Rattle.display.specs.declared.cell.Glyph.{Glyph}
use Rattle.display.specs.declared.place.Cursor.{Cursor}
use Rattle.display.specs.declared.place.Place.{Place}
use Rattle.legs.specs.Graph.{Leads, spent}
use Rattle.legs.specs.Leg.{Leg}
use Rattle.legs.specs.Scene.{NoWay, Scene, graph, sent}
use Rattle.legs.specs.Sequence.{Sequence}
use Rattle.panel.specs.Answers.{Answers}
use Rattle.plan.specs.Drawing.{cells_of, drawing, numbered_place, pen_after}
use Rattle.runs.specs.Runs.{Runs, differs}
use Rattle.runs.specs.declared.run.Run.{Run}

abbrev pub leg_scene : Answers → List Glyph → List Glyph → ℕ → ℕ → Scene
leg_scene a shown wanted s p = record {
  answers = a;
  glass = λ q. slice_index_or (cond (nat_lt (number a.size q) s) wanted shown) (number a.size q) blank;
  pen = p;
}

module _ {V : Type 0} (c : Costs V) where
  pub record Chosen (s : Scene) (k : Cursor) (q : Place) (w : Sequence) : Type 0 where
    pub leg : Leg (graph c s) k w (resting q)
    pub only : (x : Sequence) → Leg (graph c s) k x (resting q) → x ≡ w
    pub least : (x : Sequence) → Leads (graph c s) k x (resting q)
        → c.at_most (spent (graph c s) w) (spent (graph c s) x) ≡ true

  module _ (a : Answers) (shown wanted : List Glyph) (rest : Place) where
    abbrev pub places : ℕ
    places = a.size.rows * a.size.columns

    pub record Rests (k : Cursor) (p : ℕ) (bs : List ℕ) (e : ℕ) : Type 0 where
      pub way : Sequence
      pub chosen : Chosen (leg_scene a shown wanted places p) k rest way
      pub bytes : bs ≡ sent (leg_scene a shown wanted places p) k way
      pub pen : e ≡ p

    pub record Draws (T : Cursor → ℕ → List ℕ → ℕ → Type 0) (r : Run) (k : Cursor) (p : ℕ) (bs : List ℕ) (e : ℕ)
        : Type 0 where
      pub way : Sequence
      pub chosen : Chosen (leg_scene a shown wanted r.first p) k (numbered_place a.size r.first) way
      pub later : List ℕ
      pub bytes : bs ≡ sent (leg_scene a shown wanted r.first p) k way ++ (drawing a p (cells_of wanted r) ++ later)
      pub then : T (a.after (numbered_place a.size (r.end - 1))) (pen_after p (cells_of wanted r)) later e

    pub record Beyond (T : Cursor → ℕ → Place → Type 0) (r : Run) (k : Cursor) (p : ℕ) (q : Place) : Type 0 where
      pub way : Sequence
      pub chosen : Chosen (leg_scene a shown wanted r.first p) k (numbered_place a.size r.first) way
      pub then : T (a.after (numbered_place a.size (r.end - 1))) (pen_after p (cells_of wanted r)) q

    abbrev pub Sends : List Run → Cursor → ℕ → List ℕ → ℕ → Type 0
    Sends [] k p bs e = Rests k p bs e
    Sends (r ∷ rs) k p bs e = Draws (Sends rs) r k p bs e

    pub record Nowhere (s : Scene) (k : Cursor) (goal q : Place) : Type 0 where
      pub none : NoWay c s k goal
      pub is : q ≡ goal

    abbrev pub Stuck : List Run → Cursor → ℕ → Place → Type 0
    Stuck [] k p q = Nowhere (leg_scene a shown wanted places p) k rest q
    Stuck (r ∷ rs) k p q =
        Nowhere (leg_scene a shown wanted r.first p) k (numbered_place a.size r.first) q ⊎ Beyond (Stuck rs) r k p q

    pub record Plan (k : Cursor) (p : ℕ) (bs : List ℕ) (e : ℕ) : Type 0 where
      pub runs : List Run
      pub are : Runs a.size.columns places (differs shown wanted) runs
      pub sends : Sends runs k p bs e

    pub record Blocked (k : Cursor) (p : ℕ) (q : Place) : Type 0 where
      pub runs : List Run
      pub are : Runs a.size.columns places (differs shown wanted) runs
      pub stuck : Stuck runs k p q
