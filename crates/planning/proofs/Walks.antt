-- A plan is walked run by run, and where a leg has no sequence the runs that are left can still be told, so that the
-- plan is blocked there.
use Rattle.std.proofs.Common.{◌≡◌, ◌∙◌, inl, ℕ, ◌-◌, ◌*◌, Bool, List, [], ◌∷◌, ◌++◌, refl, sym, ap, subst, arith}
use Rattle.cost.specs.Costs.{Costs}
use Rattle.display.specs.Place.{On}
use Rattle.display.specs.Surface.{resting}
use Rattle.display.specs.declared.cell.Glyph.{Glyph}
use Rattle.display.specs.declared.place.Place.{Place}
use Rattle.display.specs.declared.size.Size.{Size}
use Rattle.display.proofs.Places.{numbered_place as numbered_on}
use Rattle.legs.specs.Scene.{NoWay, sent}
use Rattle.panel.specs.Answers.{Answers, Bounded}
use Rattle.plan.specs.Drawing.{cells_of, drawing, numbered_place, pen_after}
use Rattle.plan.specs.Plan.{Blocked, leg_scene}
use Rattle.plan.specs.Sofar.{Sofar}
use Rattle.plan.specs.declared.stand.Stand.{Stand}
use Rattle.plan.proofs.Parts.{chained_all, chained_next, chained_none, sofar_more, sofar_none, sofar_sends, sofar_stuck}
use Rattle.planning.specs.Walks.{Gone, Took, Walked, Walking}
use Rattle.planning.specs.declared.go.Progress.{Progress}
use Rattle.planning.proofs.Pours.{pours_more, pours_none}
use Rattle.runs.specs.Runs.{Clear, Next, differs}
use Rattle.runs.specs.declared.run.Run.{Run}
use Rattle.runs.proofs.Chains.{begins_first, runs_of_chain}
use Rattle.runs.proofs.Exists.{chain_exists}

module _ {V : Type 0} (c : Costs V) (a : Answers) (shown wanted : List Glyph) (rest : Place) (k : Stand) (i : ℕ)
    (xs : List ℕ) where
  abbrev W : ℕ
  W = a.size.columns

  abbrev m : ℕ
  m = a.size.rows * a.size.columns

  abbrev D : ℕ → Bool
  D = differs shown wanted

  pub walking_none : On a.size k.place
      → Walking c a shown wanted rest k i xs 0 (record { cursor = resting k.place; pen = k.pen; count = i }) xs
  walking_none on = record {
    done = [];
    laid = [];
    sofar = sofar_none c a shown wanted rest (resting k.place) k.pen;
    chained = chained_none W m D;
    begins = begins_first W D;
    within = omega arith;
    on = on;
    pours = pours_none xs i;
    few = omega arith;
  }

  -- the panel is asked for its size z
  module _ (n : ℕ) (d : Progress) (ys : List ℕ) (h : Walking c a shown wanted rest k i xs n d ys) (z : Size)
      (same : z ≡ a.size) where
    module _ (r : Run) (found : Next z.columns (z.rows * z.columns) D n r) where
      next : Next W m D n r
      next = subst (λ (y : Size). Next y.columns (y.rows * y.columns) D n r) same found

      pub walking_more : Bounded a → (o : Progress) (zs : List ℕ) → Took c a shown wanted r d ys zs o
          → Walking c a shown wanted rest k i xs r.end o zs
      walking_more bounded o zs took =
          let some = next.stretch.some in
          let below = next.stretch.below in
          let last : On a.size (numbered_place a.size (r.end - 1)) =
          (numbered_on a.size (r.end - 1) (omega arith)).on in
          let bytes = sent (leg_scene a shown wanted r.first d.pen) d.cursor took.way
          ++ drawing a d.pen (cells_of wanted r) in
          record {
            done = h.done ++ (r ∷ []);
            laid = h.laid ++ bytes;
            sofar = subst (λ (q : ℕ). Sofar c a shown wanted rest (h.done ++ (r ∷ [])) (h.laid ++ bytes)
                (resting k.place) k.pen o.cursor q) (sym took.pen)
                (subst (λ x. Sofar c a shown wanted rest (h.done ++ (r ∷ [])) (h.laid ++ bytes) (resting k.place) k.pen
                x (pen_after d.pen (cells_of wanted r))) (sym took.cursor)
                (sofar_more c a shown wanted rest h.done h.laid (resting k.place) k.pen d.cursor d.pen r took.way bytes
                h.sofar took.chosen refl));
            chained = chained_next W m D h.done n r h.chained h.begins next;
            begins = next.begins;
            within = below;
            on = subst (λ x. On a.size x.place) (sym took.cursor)
                (bounded.after_on (numbered_place a.size (r.end - 1)) last);
            pours = pours_more h.laid bytes xs ys zs i d.count o.count h.pours took.pours;
            few = let x = h.few in let y = took.few in let u = next.from in omega arith;
          }

      pub blocked_here : (q : Place) → NoWay c (leg_scene a shown wanted r.first d.pen) d.cursor
          (numbered_place a.size r.first) → q ≡ numbered_place a.size r.first
          → Blocked c a shown wanted rest (resting k.place) k.pen q
      blocked_here q no_way is =
          let wide = a.size.columns_least in
          let left = chain_exists W m D a.size.rows wide refl r.end next.begins in
          record {
            runs = h.done ++ (r ∷ left.0);
            are = runs_of_chain W m D (h.done ++ (r ∷ left.0))
                (h.chained.on (r ∷ left.0) (next.from, next.clear, next.run h.begins, left.1));
            stuck = h.sofar.stuck_on (r ∷ left.0) q (inl (record { none = no_way; is = is }));
          }

    module _ (clear : Clear D n (z.rows * z.columns)) (places : ℕ) (all : places ≡ z.rows * z.columns) where
      all_here : places ≡ m
      all_here = all ∙ ap (λ (y : Size). y.rows * y.columns) same

      no_more : Clear D n m
      no_more = subst (λ (y : Size). Clear D n (y.rows * y.columns)) same clear

      pub walked : (zs : List ℕ) (e : ℕ) → Gone c a shown wanted places d rest ys zs e
          → Walked c a shown wanted rest k i xs zs (record { count = e; pen = d.pen })
      walked zs e there =
          let gone = subst (λ (x : ℕ). Gone c a shown wanted x d rest ys zs e) all_here there in
          let bytes = sent (leg_scene a shown wanted m d.pen) d.cursor gone.way in
          record {
            bytes = h.laid ++ bytes;
            plan = record {
              runs = h.done;
              are = runs_of_chain W m D h.done (chained_all W m D h.done n h.chained no_more);
              sends = sofar_sends c a shown wanted rest h.done h.laid (resting k.place) k.pen d.cursor d.pen bytes d.pen
                  h.sofar (record { way = gone.way; chosen = gone.chosen; bytes = refl; pen = refl });
            };
            pours = pours_more h.laid bytes xs ys zs i d.count e h.pours gone.pours;
          }

      pub blocked_last : NoWay c (leg_scene a shown wanted places d.pen) d.cursor rest
          → Blocked c a shown wanted rest (resting k.place) k.pen rest
      blocked_last no_way = record {
        runs = h.done;
        are = runs_of_chain W m D h.done (chained_all W m D h.done n h.chained no_more);
        stuck = sofar_stuck c a shown wanted rest h.done h.laid (resting k.place) k.pen d.cursor d.pen rest h.sofar
            (record {
              none = subst (λ (x : ℕ). NoWay c (leg_scene a shown wanted x d.pen) d.cursor rest) all_here no_way;
              is = refl;
            });
      }
