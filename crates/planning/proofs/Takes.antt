-- A run is taken by the leg to its first place and the drawing of its cells, which are laid one after the other.
use Rattle.std.proofs.Common.{◌≡◌, ◌∙◌, ℕ, ◌-◌, ◌*◌, ◌/◌, ◌%◌, ◌<◌, ◌≤◌, List, drop, length, ap, subst, arith}
use Rattle.std.proofs.Math.Nat.{mul-le-mul_right}
use Rattle.std.proofs.lemmas.List.{length-drop, length-take}
use Rattle.cost.specs.Costs.{Costs}
use Rattle.display.specs.Surface.{place_of}
use Rattle.display.specs.declared.cell.Glyph.{Glyph}
use Rattle.display.specs.declared.place.Cursor.{Cursor}
use Rattle.display.specs.declared.place.Place.{Place}
use Rattle.display.specs.declared.size.Size.{Size}
use Rattle.legs.specs.Scene.{sent}
use Rattle.panel.specs.Answers.{Answers}
use Rattle.plan.specs.Drawing.{cells_of, drawing, numbered_place}
use Rattle.plan.specs.Plan.{Chosen, leg_scene}
use Rattle.planning.specs.Pours.{Draws}
use Rattle.planning.specs.Walks.{Gone, Took}
use Rattle.planning.specs.declared.draw.Inked.{Inked}
use Rattle.planning.specs.declared.go.Progress.{Progress}
use Rattle.planning.proofs.Pours.{pours_more}
use Rattle.runs.specs.declared.run.Run.{Run}

pub below_most : (z : Size) (n : ℕ) → n < z.rows * z.columns → n < 24 * z.columns
below_most z n h =
    let a : z.rows * z.columns ≤ 24 * z.columns = mul-le-mul_right z.columns z.rows_most in omega arith

-- the place that is told by the columns of the same panel
pub numbered_is : (z y : Size) (w n : ℕ) (q : Place) → y ≡ z → w ≡ y.columns → q ≡ place_of (n / w) (n % w)
    → q ≡ numbered_place z n
numbered_is z y w n q e h is =
    is ∙ ap (λ (x : ℕ). place_of (n / x) (n % x)) (h ∙ ap (λ (x : Size). x.columns) e)

few_cells : (gs : List Glyph) (r : Run) → length (cells_of gs r) ≤ length gs
few_cells gs r =
    let a = length-take (r.end - r.first) (drop r.first gs) in let b = length-drop r.first gs in omega arith

module _ {V : Type 0} (c : Costs V) (a : Answers) (shown wanted : List Glyph) (r : Run) (d : Progress) where
  pub took : (b : Answers) (q last : Place) (xs ys zs : List ℕ) (e : ℕ) (o : Inked) (k : Cursor)
      → b ≡ a → length wanted ≤ 1920 → q ≡ numbered_place a.size r.first → last ≡ numbered_place a.size (r.end - 1)
      → Gone c a shown wanted r.first d q xs ys e → Draws b (cells_of wanted r) d.pen ys zs e o → k ≡ b.after last
      → Took c a shown wanted r d xs zs (record { cursor = k; pen = o.pen; count = o.count })
  took b q last xs ys zs e o k same short first end gone draws after =
      let drawn : Draws a (cells_of wanted r) d.pen ys zs e o =
      subst (λ (x : Answers). Draws x (cells_of wanted r) d.pen ys zs e o) same draws in
      record {
        way = gone.way;
        chosen = subst (λ (x : Place). Chosen c (leg_scene a shown wanted r.first d.pen) d.cursor x gone.way) first
            gone.chosen;
        pours = pours_more (sent (leg_scene a shown wanted r.first d.pen) d.cursor gone.way)
            (drawing a d.pen (cells_of wanted r)) xs ys zs d.count e o.count gone.pours drawn.pours;
        cursor = after ∙ (ap (λ (x : Answers). x.after last) same ∙ ap a.after end);
        pen = drawn.pen;
        few = let x = gone.few in let y = drawn.few in let z = few_cells wanted r in omega arith;
      }
