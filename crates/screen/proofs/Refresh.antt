-- A refresh: what is known of the screen's fields is known of the screen, and so the plan that is sent or refused is
-- the one of the refresh.
use Rattle.std.proofs.Common.{◌≡◌, ◌∙◌, ℕ, Bool, List, [], Ok, Err, Some, Option, Result, length, refl, sym, ap, subst}
use Rattle.cost.specs.Costs.{Costs}
use Rattle.display.specs.Place.{On}
use Rattle.display.specs.declared.cell.Glyph.{Glyph}
use Rattle.display.specs.declared.place.Place.{Place}
use Rattle.damage.specs.declared.damage.PutColumns.{PutColumns}
use Rattle.faults.specs.declared.fault.Fault.{Fault}
use Rattle.labels.specs.declared.label.Label.{Label}
use Rattle.panel.specs.Answers.{Answers}
use Rattle.panel.specs.Meaning.{Meaning}
use Rattle.plan.specs.declared.stand.Stand.{Stand}
use Rattle.planning.specs.Planned.{Plans, pictured}
use Rattle.planning.specs.declared.walk.Sent.{Sent}
use Rattle.screen.specs.Accepting.{Accepts, Sound}
use Rattle.screen.specs.Calls.{Outcome, is_left, refresh_of, stand_of}
use Rattle.screen.specs.Showing.{Ready}
use Rattle.screen.specs.State.{Kept, LeftOn, State}
use Rattle.screen.proofs.Accepted.{plan_accepted}
use Rattle.screen.proofs.Refused.{plan_refused, sound_ready}

-- a screen and what is in it
abbrev pub held : {P : Type 0} → P → Place → Option Stand → List PutColumns → State P
held q rest left rows = record { panel = q; rest = rest; left = left; rows = rows }

module _ {P C K V Mode : Type 0} (c : Costs V) (answers : P → Answers) (meaning : P → Meaning Mode)
    (fed : Answers → Meaning Mode → ℕ → Meaning Mode) (A : ℕ → ℕ → Bool) (f : C → Glyph) (st : State P)
    (ws gs : List C) (ls ms : List (Label K)) (xs ys : List ℕ) (q : P) (rest : Place) (left : Option Stand)
    (rows : List PutColumns) (view : held q rest left rows ≡ st) (kept : Kept (answers q).size rest left rows)
    (start : Stand) (begun : left ≡ Some start) (lead : List ℕ) (none : lead ≡ [])
    (sound : Sound (answers st.panel) A f gs ws (length ls)) where
  left_is : st.left ≡ Some start
  left_is = ap (λ (s : State P). s.left) (sym view) ∙ begun

  ready : Ready c (answers st.panel) A (refresh_of (answers st.panel) f st ws gs (length ls) (length xs))
  ready = sound_ready c answers meaning fed A f st ws gs ls xs [] (is_left st.left)
      (pictured (answers st.panel).size f gs) (stand_of st.left) sound (ap is_left left_is)

  kept_in : Kept (answers st.panel).size st.rest st.left st.rows
  kept_in = subst (λ (s : State P). Kept (answers s.panel).size s.rest s.left s.rows) view kept

  goal_on : On (answers st.panel).size st.rest
  goal_on = kept_in.rest

  start_on : On (answers st.panel).size (stand_of st.left).place
  start_on =
      subst (λ (l : Option Stand). On (answers st.panel).size (stand_of l).place) (sym left_is)
      (subst (LeftOn (answers st.panel).size) left_is kept_in.left)

  plans_in : (r : Result Sent Fault) → Plans c (answers q) f gs ws lead start rest ls ms xs ys r
      → Plans c (answers st.panel) f gs ws [] (stand_of st.left) st.rest ls ms xs ys r
  plans_in r h =
      subst (λ (s : State P). Plans c (answers s.panel) f gs ws [] (stand_of s.left) s.rest ls ms xs ys r) view
      (subst (λ (l : Option Stand). Plans c (answers q) f gs ws [] (stand_of l) rest ls ms xs ys r) (sym begun)
      (subst (λ (bs : List ℕ). Plans c (answers q) f gs ws bs start rest ls ms xs ys r) none h))

  pub refresh_refused : (r : Result ℕ Fault) (why : Fault) → r ≡ Err why
      → Plans c (answers q) f gs ws lead start rest ls ms xs ys (Err why)
      → Outcome c answers meaning fed A (refresh_of (answers st.panel) f st ws gs (length ls) (length xs))
      st st ws gs gs ls ms xs ys r
  refresh_refused r why e h =
      subst (λ (r : Result ℕ Fault). Outcome c answers meaning fed A
      (refresh_of (answers st.panel) f st ws gs (length ls) (length xs)) st st ws gs gs ls ms xs ys r) (sym e)
      (plan_refused c answers meaning fed A f st ws gs ls xs [] (is_left st.left)
      (pictured (answers st.panel).size f gs) (stand_of st.left) gs (λ n. refl) ms ys ready start_on goal_on why
      (plans_in (Err why) h))

  pub refresh_accepted : (gs' : List C) (sent : Sent) (after : State P) (n : ℕ)
      → Plans c (answers q) f gs ws lead start rest ls ms xs ys (Ok sent)
      → Accepts answers meaning fed ws gs gs' ys sent st after n
      → Outcome c answers meaning fed A (refresh_of (answers st.panel) f st ws gs (length ls) (length xs))
      st after ws gs gs' ls ms xs ys (Ok n)
  refresh_accepted gs' sent after n h accepts =
      plan_accepted c answers meaning fed A f st ws gs ls xs [] (is_left st.left)
      (pictured (answers st.panel).size f gs) (stand_of st.left) gs (λ n. refl) gs' ms ys sent after n ready
      (plans_in (Ok sent) h) accepts
