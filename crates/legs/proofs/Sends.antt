-- A sequence that leads somewhere sends at most sixteen bytes a motion.
use Rattle.std.proofs.Common.{◌≡◌, ℕ, ◌*◌, ◌≤◌, Bool, true, false, cond, ◌==◌, [], ◌∷◌, length, refl, sym, subst, arith}
use Rattle.std.proofs.lemmas.Bool.Decides.{nat_tests}
use Rattle.std.proofs.lemmas.List.{length-append}
use Rattle.std.specs.Option.{option_map_or}
use Rattle.cost.specs.Costs.{Costs}
use Rattle.display.specs.declared.place.Cursor.{Cursor}
use Rattle.legs.specs.Graph.{Leads, ends}
use Rattle.legs.specs.Scene.{Scene, graph, motion_sent, sent, steps}
use Rattle.legs.specs.Sequence.{Sequence, count, none, then}
use Rattle.legs.proofs.Ends.{before}
use Rattle.legs.proofs.Panels.{landing, offered_below}
use Rattle.panel.specs.Answers.{Bounded}

module _ {V : Type 0} (c : Costs V) (s : Scene) (b : Bounded s.answers) (k : Cursor) where
  motion_few : (n : ℕ) (d : Cursor) → n ≤ s.answers.motions → length (motion_sent s d n) ≤ 16
  motion_few n d h = by_cases (n == s.answers.motions) refl
    where
      by_cases : (t : Bool) → (n == s.answers.motions) ≡ t
          → length (cond t ((s.glass d.place).code ∷ []) (s.answers.motion_bytes n)) ≤ 16
      by_cases true e = omega arith
      by_cases false e = b.few_bytes n (grind (arith, nat_tests))

  pub sent_few : (w : Sequence) (u : Cursor) → Leads (graph c s) k w u → length (sent s k w) ≤ 16 * count w
  sent_few none u h = omega arith
  sent_few (then w n) u h =
      let a = before (graph c s) k w n u h in
      let p = landing s n a.state u a.step in
      let few = motion_few n a.state (offered_below s b n a.state p.place p.there) in
      let one : length (option_map_or (λ d. motion_sent s d n) (ends (steps s) k w) []) ≤ 16 =
      subst (λ o. length (option_map_or (λ d. motion_sent s d n) o []) ≤ 16) (sym a.leads) few in
      let more = length-append (sent s k w) (option_map_or (λ d. motion_sent s d n) (ends (steps s) k w) []) in
      let before_it = sent_few w a.state a.leads in omega arith
