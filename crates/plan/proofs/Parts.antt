-- A plan grows by a run at its end: what follows the new run is put behind those before it.
use Rattle.std.proofs.Common.{◌≡◌, ◌∙◌, inr, ℕ, ◌-◌, ◌≤◌, Bool, List, [], ◌∷◌, ◌++◌, sym, ap, subst, append_assoc}
use Rattle.std.proofs.lemmas.List.{append-nil}
use Rattle.cost.specs.Costs.{Costs}
use Rattle.display.specs.declared.cell.Glyph.{Glyph}
use Rattle.display.specs.declared.place.Cursor.{Cursor}
use Rattle.display.specs.declared.place.Place.{Place}
use Rattle.legs.specs.Scene.{sent}
use Rattle.legs.specs.Sequence.{Sequence}
use Rattle.panel.specs.Answers.{Answers}
use Rattle.plan.specs.Drawing.{cells_of, drawing, numbered_place, pen_after}
use Rattle.plan.specs.Plan.{Chosen, Nowhere, Rests, Sends, Stuck, leg_scene, places}
use Rattle.plan.specs.Sofar.{Chained, Sofar}
use Rattle.runs.specs.Runs.{Begins, Chain, Clear, Next, RunOf}
use Rattle.runs.specs.declared.run.Run.{Run}

module _ {V : Type 0} (c : Costs V) (a : Answers) (shown wanted : List Glyph) (rest : Place) where
  pub sofar_none : (k : Cursor) (p : ℕ) → Sofar c a shown wanted rest [] [] k p k p
  sofar_none k p = record { sends_on = λ rs bs e h. h; stuck_on = λ rs q h. h }

  pub sofar_more : (done : List Run) (laid : List ℕ) (k0 : Cursor) (p0 : ℕ) (k : Cursor) (p : ℕ) (r : Run)
      (w : Sequence) (bs : List ℕ) → Sofar c a shown wanted rest done laid k0 p0 k p
      → Chosen c (leg_scene a shown wanted r.first p) k (numbered_place a.size r.first) w
      → bs ≡ sent (leg_scene a shown wanted r.first p) k w ++ drawing a p (cells_of wanted r)
      → Sofar c a shown wanted rest (done ++ (r ∷ [])) (laid ++ bs) k0 p0
      (a.after (numbered_place a.size (r.end - 1))) (pen_after p (cells_of wanted r))
  sofar_more done laid k0 p0 k p r w bs h chosen bytes = record {
    sends_on = λ rs xs e then.
        subst (λ (ys : List ℕ). Sends c a shown wanted rest ((done ++ (r ∷ [])) ++ rs) k0 p0 ys e)
        (sym (append_assoc laid bs xs))
        (subst (λ (ts : List Run). Sends c a shown wanted rest ts k0 p0 (laid ++ (bs ++ xs)) e)
        (sym (append_assoc done (r ∷ []) rs))
        (h.sends_on (r ∷ rs) (bs ++ xs) e (record {
          way = w;
          chosen = chosen;
          later = xs;
          bytes = ap (λ ys. ys ++ xs) bytes ∙ append_assoc _ _ xs;
          then = then;
        })));
    stuck_on = λ rs q then.
        subst (λ (ts : List Run). Stuck c a shown wanted rest ts k0 p0 q)
        (sym (append_assoc done (r ∷ []) rs))
        (h.stuck_on (r ∷ rs) q (inr (record { way = w; chosen = chosen; then = then })));
  }

  -- where no run is left
  pub sofar_sends : (done : List Run) (laid : List ℕ) (k0 : Cursor) (p0 : ℕ) (k : Cursor) (p : ℕ) (bs : List ℕ) (e : ℕ)
      → Sofar c a shown wanted rest done laid k0 p0 k p → Rests c a shown wanted rest k p bs e
      → Sends c a shown wanted rest done k0 p0 (laid ++ bs) e
  sofar_sends done laid k0 p0 k p bs e h last =
      subst (λ (ts : List Run). Sends c a shown wanted rest ts k0 p0 (laid ++ bs) e) (append-nil done)
      (h.sends_on [] bs e last)

  pub sofar_stuck : (done : List Run) (laid : List ℕ) (k0 : Cursor) (p0 : ℕ) (k : Cursor) (p : ℕ) (q : Place)
      → Sofar c a shown wanted rest done laid k0 p0 k p
      → Nowhere c a shown wanted rest (leg_scene a shown wanted (places c a shown wanted rest) p) k rest q
      → Stuck c a shown wanted rest done k0 p0 q
  sofar_stuck done laid k0 p0 k p q h last =
      subst (λ (ts : List Run). Stuck c a shown wanted rest ts k0 p0 q) (append-nil done) (h.stuck_on [] q last)

module _ (W m : ℕ) (D : ℕ → Bool) where
  pub chained_none : Chained W m D [] 0
  chained_none = record { on = λ rs h. h }

  pub chained_more : (done : List Run) (i : ℕ) (r : Run) → Chained W m D done i → i ≤ r.first → Clear D i r.first
      → RunOf W m D r → Chained W m D (done ++ (r ∷ [])) r.end
  chained_more done i r h from clear run = record {
    on = λ rs then. subst (λ (ts : List Run). Chain W m D 0 ts) (sym (append_assoc done (r ∷ []) rs))
        (h.on (r ∷ rs) (from, clear, run, then));
  }

  -- the same for the next run that is found
  pub chained_next : (done : List Run) (i : ℕ) (r : Run) → Chained W m D done i → Begins W D i → Next W m D i r
      → Chained W m D (done ++ (r ∷ [])) r.end
  chained_next done i r h begins next = chained_more done i r h next.from next.clear (next.run begins)

  -- where no run is left
  pub chained_all : (done : List Run) (i : ℕ) → Chained W m D done i → Clear D i m → Chain W m D 0 done
  chained_all done i h clear = subst (λ (ts : List Run). Chain W m D 0 ts) (append-nil done) (h.on [] clear)
