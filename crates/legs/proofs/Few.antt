-- A sequence costs no more than as many motions as it has.
use Rattle.std.proofs.Common.{◌≡◌, ℕ, Some, sym, subst}
use Rattle.cost.specs.Costs.{Costs, FewLaws}
use Rattle.display.specs.declared.place.Cursor.{Cursor}
use Rattle.legs.specs.Graph.{Leads, spent}
use Rattle.legs.specs.Scene.{Scene, graph, priced}
use Rattle.legs.specs.Sequence.{Sequence, count, none, then}
use Rattle.legs.proofs.Ends.{before}
use Rattle.legs.proofs.Panels.{landing, offered_below, priced_motion}
use Rattle.panel.specs.Answers.{Bounded}

module _ {V : Type 0} (c : Costs V) (F : ℕ → V → Type 0) (l : FewLaws c F) (s : Scene) (b : Bounded s.answers)
    (k : Cursor) where
  pub few_priced : (n : ℕ) (d u : Cursor) → (graph c s).step n d ≡ Some u → F 1 (priced c s.answers n)
  few_priced n d u h =
      let p = landing s n d u h in
      let q = priced_motion c s.answers b n (offered_below s b n d p.place p.there) in
      subst (λ (w : V). F 1 w) (sym q.is) (l.one q.bytes q.milliseconds q.limits)

  pub few_spent : (w : Sequence) (u : Cursor) → Leads (graph c s) k w u → F (count w) (spent (graph c s) w)
  few_spent none u h = l.none
  few_spent (then w n) u h =
      let d = before (graph c s) k w n u h in
      l.sums (count w) 1 _ _ (few_spent w d.state d.leads) (few_priced n d.state u d.step)
