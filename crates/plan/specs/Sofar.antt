-- What is done of a plan while its runs are drawn one after the other.
--     Sofar done laid k0 p0 k p
--                    the runs in done, drawn from the cursor k0 with the pen p0, send the bytes laid and end at the
--                    cursor k with the pen p: what sends bs from there sends laid and then bs from k0 with the pen p0,
--                    and what is stuck there is stuck from k0 with the pen p0 too
--     Chained done i the runs in done are those before i: with what is left of the runs from i on they are what is left
--                    from 0 on
use Rattle.std.specs.Prelude.{ℕ, Bool, List, ◌++◌}
use Rattle.cost.specs.Costs.{Costs}
use Rattle.display.specs.declared.cell.Glyph.{Glyph}
use Rattle.display.specs.declared.place.Cursor.{Cursor}
use Rattle.display.specs.declared.place.Place.{Place}
use Rattle.panel.specs.Answers.{Answers}
use Rattle.plan.specs.Plan.{Sends, Stuck}
use Rattle.runs.specs.Runs.{Chain}
use Rattle.runs.specs.declared.run.Run.{Run}

module _ {V : Type 0} (c : Costs V) (a : Answers) (shown wanted : List Glyph) (rest : Place) where
  pub record Sofar (done : List Run) (laid : List ℕ) (k0 : Cursor) (p0 : ℕ) (k : Cursor) (p : ℕ) : Type 0 where
    pub sends_on : (rs : List Run) (bs : List ℕ) (e : ℕ) → Sends c a shown wanted rest rs k p bs e
        → Sends c a shown wanted rest (done ++ rs) k0 p0 (laid ++ bs) e
    pub stuck_on : (rs : List Run) (q : Place) → Stuck c a shown wanted rest rs k p q
        → Stuck c a shown wanted rest (done ++ rs) k0 p0 q

module _ (W m : ℕ) (D : ℕ → Bool) where
  pub record Chained (done : List Run) (i : ℕ) : Type 0 where
    pub on : (rs : List Run) → Chain W m D i rs → Chain W m D 0 (done ++ rs)
