-- A picture without cells has blanks everywhere, so a plan from it is the plan from a blank picture: what a plan
-- depends on of a picture is what each place has.
use Rattle.std.proofs.Common.{◌≡◌, ◌∙◌, ◌⊎◌, inl, inr, ℕ, zero, suc, ◌*◌, ◌<◌, ◌++◌, Bool, true, false, cond, List, [], ◌∷◌, refl, sym, ap, subst, not, nat_lt, slice_index_or, replicate}
use Rattle.std.proofs.Math.Path.{fun_ext}
use Rattle.cost.specs.Costs.{Costs}
use Rattle.display.specs.Cell.{blank}
use Rattle.display.specs.Place.{number}
use Rattle.display.specs.declared.cell.Glyph.{Glyph}
use Rattle.display.specs.declared.place.Cursor.{Cursor}
use Rattle.display.specs.declared.place.Place.{Place}
use Rattle.legs.specs.Scene.{NoWay, Scene, sent}
use Rattle.panel.specs.Answers.{Answers}
use Rattle.plan.specs.Drawing.{cells_of, drawing, numbered_place}
use Rattle.plan.specs.Plan.{Beyond, Blocked, Chosen, Draws, Nowhere, Plan, Rests, Sends, Stuck, leg_scene, places}
use Rattle.runs.specs.Runs.{Runs, differs, same_glyph}
use Rattle.runs.specs.declared.run.Run.{Run}

module _ {V : Type 0} (c : Costs V) (a : Answers) (xs ys wanted : List Glyph) (rest : Place)
    (alike : (n : ℕ) → slice_index_or xs n blank ≡ slice_index_or ys n blank) where
  differs_same : differs xs wanted ≡ differs ys wanted
  differs_same = fun_ext (λ n. ap (λ (g : Glyph). not (same_glyph g (slice_index_or wanted n blank))) (alike n))

  scene_same : (s p : ℕ) → leg_scene a xs wanted s p ≡ leg_scene a ys wanted s p
  scene_same s p = ap (λ (g : Place → Glyph). let r : Scene = record { answers = a; glass = g; pen = p } in r)
      (fun_ext (λ q. by_cases q (nat_lt (number a.size q) s)))
    where
      by_cases : (q : Place) (t : Bool) → slice_index_or (cond t wanted xs) (number a.size q) blank
          ≡ slice_index_or (cond t wanted ys) (number a.size q) blank
      by_cases q true = refl
      by_cases q false = alike (number a.size q)

  sends_same : (rs : List Run) (k : Cursor) (p : ℕ) (bs : List ℕ) (e : ℕ)
      → Sends c a xs wanted rest rs k p bs e → Sends c a ys wanted rest rs k p bs e
  sends_same [] k p bs e h = record {
    way = h.way;
    chosen = subst (λ (s : Scene). Chosen c s k rest h.way) (scene_same _ p) h.chosen;
    bytes = h.bytes ∙ ap (λ (s : Scene). sent s k h.way) (scene_same _ p);
    pen = h.pen;
  }
  sends_same (r ∷ rs) k p bs e h = record {
    way = h.way;
    chosen = subst (λ (s : Scene). Chosen c s k (numbered_place a.size r.first) h.way) (scene_same r.first p) h.chosen;
    later = h.later;
    bytes = h.bytes ∙ ap (λ (s : Scene). sent s k h.way ++ (drawing a p (cells_of wanted r) ++ h.later))
        (scene_same r.first p);
    then = sends_same rs _ _ h.later e h.then;
  }

  nowhere_same : (s p : ℕ) (k : Cursor) (goal q : Place)
      → Nowhere c a xs wanted rest (leg_scene a xs wanted s p) k goal q
      → Nowhere c a ys wanted rest (leg_scene a ys wanted s p) k goal q
  nowhere_same s p k goal q h = record {
    none = subst (λ (x : Scene). NoWay c x k goal) (scene_same s p) h.none;
    is = h.is;
  }

  stuck_same : (rs : List Run) (k : Cursor) (p : ℕ) (q : Place)
      → Stuck c a xs wanted rest rs k p q → Stuck c a ys wanted rest rs k p q
  stuck_same [] k p q h = nowhere_same _ p k rest q h
  stuck_same (r ∷ rs) k p q (inl h) = inl (nowhere_same r.first p k _ q h)
  stuck_same (r ∷ rs) k p q (inr h) = inr record {
    way = h.way;
    chosen = subst (λ (s : Scene). Chosen c s k (numbered_place a.size r.first) h.way) (scene_same r.first p) h.chosen;
    then = stuck_same rs _ _ q h.then;
  }

  runs_same : (rs : List Run) → Runs a.size.columns (places c a xs wanted rest) (differs xs wanted) rs
      → Runs a.size.columns (places c a ys wanted rest) (differs ys wanted) rs
  runs_same rs h = subst (λ (D : ℕ → Bool). Runs a.size.columns (places c a ys wanted rest) D rs) differs_same h

  pub plan_same : (k : Cursor) (p : ℕ) (bs : List ℕ) (e : ℕ) → Plan c a xs wanted rest k p bs e
      → Plan c a ys wanted rest k p bs e
  plan_same k p bs e h = record {
    runs = h.runs;
    are = runs_same h.runs h.are;
    sends = sends_same h.runs k p bs e h.sends;
  }

  pub blocked_same : (k : Cursor) (p : ℕ) (q : Place) → Blocked c a xs wanted rest k p q
      → Blocked c a ys wanted rest k p q
  blocked_same k p q h = record {
    runs = h.runs;
    are = runs_same h.runs h.are;
    stuck = stuck_same h.runs k p q h.stuck;
  }

-- a blank picture of any size has at each place what a picture without cells has
pub blank_alike : (m n : ℕ) → slice_index_or [] n blank ≡ slice_index_or (replicate m blank) n blank
blank_alike m n = sym (blank_there m n)
  where
    blank_there : (m n : ℕ) → slice_index_or (replicate m blank) n blank ≡ blank
    blank_there zero n = refl
    blank_there (suc m) zero = refl
    blank_there (suc m) (suc n) = blank_there m n
