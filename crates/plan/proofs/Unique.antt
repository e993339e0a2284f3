-- There is one plan only: its legs are the only ones, so the bytes, the pen and the goal without a leg follow from the
-- runs.
use Rattle.std.proofs.Common.{◌≡◌, ◌∙◌, inl, inr, ℕ, List, [], ◌∷◌, ◌++◌, sym, ap, subst}
use Rattle.cost.specs.Costs.{Costs}
use Rattle.display.specs.Surface.{resting}
use Rattle.display.specs.declared.cell.Glyph.{Glyph}
use Rattle.display.specs.declared.place.Cursor.{Cursor}
use Rattle.display.specs.declared.place.Place.{Place}
use Rattle.legs.specs.Graph.{Graph, Leads}
use Rattle.legs.specs.Leg.{Leg}
use Rattle.legs.specs.Scene.{NoWay, Scene, graph, sent}
use Rattle.legs.specs.Sequence.{Sequence, none, then}
use Rattle.legs.proofs.Unique.{leg_leads}
use Rattle.panel.specs.Answers.{Answers}
use Rattle.plan.specs.Drawing.{cells_of, drawing}
use Rattle.plan.specs.Plan.{Blocked, Chosen, Draws, Plan, Rests, Sends, Stuck, leg_scene, places}
use Rattle.runs.specs.Runs.{differs}
use Rattle.runs.specs.declared.run.Run.{Run}
use Rattle.runs.proofs.Chains.{runs_one}

module _ {V : Type 0} (c : Costs V) where
  pub chosen_one : (s : Scene) (k : Cursor) (q : Place) (w x : Sequence) → Chosen c s k q w → Chosen c s k q x → w ≡ x
  chosen_one s k q w x h i = i.only w h.leg

  pub chosen_leads : (s : Scene) (k : Cursor) (q : Place) (w : Sequence) → Chosen c s k q w
      → Leads (graph c s) k w (resting q)
  chosen_leads s k q w h = leg_leads (graph c s) k w (resting q) h.leg

  pub chosen_not_nowhere : (s : Scene) (k : Cursor) (q : Place) (w : Sequence) → Chosen c s k q w → NoWay c s k q → ⊥
  chosen_not_nowhere s k q w h way = way w (chosen_leads s k q w h)

  module _ (a : Answers) (shown wanted : List Glyph) (rest : Place) where
    rests_one : (k : Cursor) (p : ℕ) (bs bs' : List ℕ) (e e' : ℕ)
        → Rests c a shown wanted rest k p bs e → Rests c a shown wanted rest k p bs' e' → (bs ≡ bs') × (e ≡ e')
    rests_one k p bs bs' e e' h i =
        let one = chosen_one _ _ _ h.way i.way h.chosen i.chosen in (
          h.bytes ∙ (ap (sent (leg_scene a shown wanted (places c a shown wanted rest) p) k) one ∙ sym i.bytes),
          h.pen ∙ sym i.pen,
        )

    draws_one : (T : Cursor → ℕ → List ℕ → ℕ → Type 0)
        → ((k : Cursor) (p : ℕ) (bs bs' : List ℕ) (e e' : ℕ) → T k p bs e → T k p bs' e' → (bs ≡ bs') × (e ≡ e'))
        → (r : Run) (k : Cursor) (p : ℕ) (bs bs' : List ℕ) (e e' : ℕ)
        → Draws c a shown wanted rest T r k p bs e → Draws c a shown wanted rest T r k p bs' e'
        → (bs ≡ bs') × (e ≡ e')
    draws_one T one r k p bs bs' e e' h i =
        let way = chosen_one _ _ _ h.way i.way h.chosen i.chosen in
        let later = one _ _ h.later i.later e e' h.then i.then in (
          h.bytes ∙ (ap (λ w. sent (leg_scene a shown wanted r.first p) k w
              ++ (drawing a p (cells_of wanted r) ++ h.later)) way
              ∙ (ap (λ xs. sent (leg_scene a shown wanted r.first p) k i.way
              ++ (drawing a p (cells_of wanted r) ++ xs)) later.0 ∙ sym i.bytes)),
          later.1,
        )

    pub sends_one : (rs : List Run) (k : Cursor) (p : ℕ) (bs bs' : List ℕ) (e e' : ℕ)
        → Sends c a shown wanted rest rs k p bs e → Sends c a shown wanted rest rs k p bs' e'
        → (bs ≡ bs') × (e ≡ e')
    sends_one [] k p bs bs' e e' h i = rests_one k p bs bs' e e' h i
    sends_one (r ∷ rs) k p bs bs' e e' h i =
        draws_one (Sends c a shown wanted rest rs) (sends_one rs) r k p bs bs' e e' h i

    pub stuck_one : (rs : List Run) (k : Cursor) (p : ℕ) (q q' : Place)
        → Stuck c a shown wanted rest rs k p q → Stuck c a shown wanted rest rs k p q' → q ≡ q'
    stuck_one [] k p q q' h i = h.is ∙ sym i.is
    stuck_one (r ∷ rs) k p q q' (inl h) (inl i) = h.is ∙ sym i.is
    stuck_one (r ∷ rs) k p q q' (inl h) (inr i) = absurd (chosen_not_nowhere _ _ _ i.way i.chosen h.none)
    stuck_one (r ∷ rs) k p q q' (inr h) (inl i) = absurd (chosen_not_nowhere _ _ _ h.way h.chosen i.none)
    stuck_one (r ∷ rs) k p q q' (inr h) (inr i) = stuck_one rs _ _ q q' h.then i.then

    pub sends_not_stuck : (rs : List Run) (k : Cursor) (p : ℕ) (bs : List ℕ) (e : ℕ) (q : Place)
        → Sends c a shown wanted rest rs k p bs e → Stuck c a shown wanted rest rs k p q → ⊥
    sends_not_stuck [] k p bs e q h i = chosen_not_nowhere _ _ _ h.way h.chosen i.none
    sends_not_stuck (r ∷ rs) k p bs e q h (inl i) = chosen_not_nowhere _ _ _ h.way h.chosen i.none
    sends_not_stuck (r ∷ rs) k p bs e q h (inr i) = sends_not_stuck rs _ _ h.later e q h.then i.then

    pub plan_one : (k : Cursor) (p : ℕ) (bs bs' : List ℕ) (e e' : ℕ)
        → Plan c a shown wanted rest k p bs e → Plan c a shown wanted rest k p bs' e' → (bs ≡ bs') × (e ≡ e')
    plan_one k p bs bs' e e' h i = sends_one i.runs k p bs bs' e e'
        (subst (λ (rs : List Run). Sends c a shown wanted rest rs k p bs e)
        (runs_one _ _ _ h.runs i.runs h.are i.are) h.sends)
        i.sends

    pub blocked_one : (k : Cursor) (p : ℕ) (q q' : Place)
        → Blocked c a shown wanted rest k p q → Blocked c a shown wanted rest k p q' → q ≡ q'
    blocked_one k p q q' h i = stuck_one i.runs k p q q'
        (subst (λ (rs : List Run). Stuck c a shown wanted rest rs k p q)
        (runs_one _ _ _ h.runs i.runs h.are i.are) h.stuck)
        i.stuck

    pub plan_not_blocked : (k : Cursor) (p : ℕ) (bs : List ℕ) (e : ℕ) (q : Place)
        → Plan c a shown wanted rest k p bs e → Blocked c a shown wanted rest k p q → ⊥
    plan_not_blocked k p bs e q h i = sends_not_stuck i.runs k p bs e q
        (subst (λ (rs : List Run). Sends c a shown wanted rest rs k p bs e)
        (runs_one _ _ _ h.runs i.runs h.are i.are) h.sends)
        i.stuck
