-- A cell is drawn by at most seventeen bytes, and one cell more is drawn at the end.
use Rattle.std.proofs.Common.{◌≡◌, ◌∙◌, ℕ, ◌*◌, ◌≤◌, Bool, true, false, cond, ◌==◌, List, [], ◌∷◌, ◌++◌, length, refl, sym, ap, subst, append_assoc, arith}
use Rattle.std.proofs.lemmas.Bool.Decides.{nat_tests}
use Rattle.std.proofs.lemmas.List.{length-append}
use Rattle.std.proofs.lemmas.List.Sums.{fold-append}
use Rattle.std.specs.Option.{option_map_or}
use Rattle.cost.specs.Costs.{Costs}
use Rattle.display.specs.declared.cell.Glyph.{Glyph}
use Rattle.display.specs.declared.place.Cursor.{Cursor}
use Rattle.legs.specs.Graph.{Leads, ends}
use Rattle.legs.specs.Scene.{Scene, graph, motion_sent, sent, steps}
use Rattle.legs.specs.Sequence.{Sequence, count, none, then}
use Rattle.legs.proofs.Ends.{before}
use Rattle.legs.proofs.Panels.{landing, offered_below}
use Rattle.panel.specs.Answers.{Answers, Bounded}
use Rattle.plan.specs.Drawing.{drawing, pen_after, penned}

-- the cells of a run
module _ (a : Answers) where
  penned_few : (p q : ℕ) → length (a.pen_bytes q) ≤ 16 → length (penned a p q) ≤ 16
  penned_few p q few = by_cases (p == q)
    where
      by_cases : (t : Bool) → length (cond t [] (a.pen_bytes q)) ≤ 16
      by_cases true = omega arith
      by_cases false = few

  pub drawing_few : ((q : ℕ) → length (a.pen_bytes q) ≤ 16) → (p : ℕ) (gs : List Glyph)
      → length (drawing a p gs) ≤ 17 * length gs
  drawing_few few p [] = omega arith
  drawing_few few p (g ∷ gs) =
      let pen = penned_few p g.pen (few g.pen) in
      let more = length-append (penned a p g.pen) (g.code ∷ drawing a g.pen gs) in
      let others = drawing_few few g.pen gs in omega arith

  pub drawing_more : (p : ℕ) (gs : List Glyph) (g : Glyph)
      → drawing a p (gs ++ (g ∷ [])) ≡ drawing a p gs ++ (penned a (pen_after p gs) g.pen ++ (g.code ∷ []))
  drawing_more p [] g = refl
  drawing_more p (h ∷ gs) g =
      ap (λ bs. penned a p h.pen ++ (h.code ∷ bs)) (drawing_more h.pen gs g)
      ∙ sym (append_assoc (penned a p h.pen) (h.code ∷ drawing a h.pen gs)
      (penned a (pen_after h.pen gs) g.pen ++ (g.code ∷ [])))

  -- the same bound, cell by cell: a panel answers for the pens that it is asked for
  pub drawing_more_few : (p : ℕ) (gs : List Glyph) (g : Glyph) → length (a.pen_bytes g.pen) ≤ 16
      → length (drawing a p gs) ≤ 17 * length gs
      → length (drawing a p (gs ++ (g ∷ []))) ≤ 17 * length (gs ++ (g ∷ []))
  drawing_more_few p gs g few h =
      let pen = penned_few (pen_after p gs) g.pen few in
      let more = ap length (drawing_more p gs g) in
      let all = length-append (drawing a p gs) (penned a (pen_after p gs) g.pen ++ (g.code ∷ [])) in
      let one = length-append (penned a (pen_after p gs) g.pen) (g.code ∷ []) in
      let cells = length-append gs (g ∷ []) in omega arith

pub pen_after_more : (p : ℕ) (gs : List Glyph) (g : Glyph) → pen_after p (gs ++ (g ∷ [])) ≡ g.pen
pen_after_more p gs g = fold-append (λ q h. h.pen) p gs (g ∷ [])
