-- A redraw: the plan is sent or refused as one from a picture without cells, which is the plan from a wipe's blanks.
use Rattle.std.proofs.Common.{◌≡◌, ◌∙◌, ℕ, ◌*◌, Bool, true, List, [], Ok, Err, Option, Result, length, refl, sym, ap, subst, arith, map, slice_index_or}
use Rattle.std.proofs.Math.Seq.{take-nil}
use Rattle.cost.specs.Costs.{Costs}
use Rattle.display.specs.Cell.{blank}
use Rattle.display.specs.Place.{On}
use Rattle.display.specs.Surface.{blanks, place_of}
use Rattle.display.specs.declared.cell.Glyph.{Glyph}
use Rattle.display.specs.declared.place.Place.{Place}
use Rattle.display.specs.declared.size.Size.{Size}
use Rattle.damage.specs.declared.damage.PutColumns.{PutColumns}
use Rattle.faults.specs.declared.fault.Fault.{Fault}
use Rattle.labels.specs.declared.label.Label.{Label}
use Rattle.panel.specs.Answers.{Answers}
use Rattle.panel.specs.Meaning.{Meaning}
use Rattle.plan.specs.declared.stand.Stand.{Stand}
use Rattle.plan.proofs.Blanks.{blank_alike}
use Rattle.planning.specs.Planned.{Plans, pictured}
use Rattle.planning.specs.declared.walk.Sent.{Sent}
use Rattle.screen.specs.Accepting.{Accepts, Sound}
use Rattle.screen.specs.Calls.{Outcome, redraw_of}
use Rattle.screen.specs.Showing.{Ready}
use Rattle.screen.specs.State.{Kept, State, first_stand}
use Rattle.screen.proofs.Accepted.{plan_accepted}
use Rattle.screen.proofs.Refresh.{held}
use Rattle.screen.proofs.Refused.{plan_refused, sound_ready}

-- of no cells there is no picture, and so it has blanks where a wiped panel has them
nothing_alike : {C : Type 0} (z : Size) (f : C → Glyph) (n : ℕ)
    → slice_index_or (pictured z f []) n blank ≡ slice_index_or (blanks z) n blank
nothing_alike {C} z f n =
    ap (λ (xs : List C). slice_index_or (map f xs) n blank) (take-nil (z.rows * z.columns))
    ∙ blank_alike (z.rows * z.columns) n

first_on : (z : Size) → On z (place_of 0 0)
first_on z = record {
  row = let r = z.rows_least in omega arith;
  column = let w = z.columns_least in omega arith;
}

module _ {P C K V Mode : Type 0} (c : Costs V) (answers : P → Answers) (meaning : P → Meaning Mode)
    (fed : Answers → Meaning Mode → ℕ → Meaning Mode) (A : ℕ → ℕ → Bool) (f : C → Glyph) (st : State P)
    (ws gs : List C) (ls ms : List (Label K)) (xs ys : List ℕ) (q : P) (rest : Place) (left : Option Stand)
    (rows : List PutColumns) (view : held q rest left rows ≡ st) (kept : Kept (answers q).size rest left rows)
    (start : Stand) (first : start ≡ first_stand) (lead : List ℕ) (wipe : lead ≡ (answers st.panel).wipe)
    (sound : Sound (answers st.panel) A f gs ws (length ls)) where
  ready : Ready c (answers st.panel) A (redraw_of (answers st.panel) f st ws gs (length ls) (length xs))
  ready = sound_ready c answers meaning fed A f st ws gs ls xs (answers st.panel).wipe true
      (blanks (answers st.panel).size) first_stand sound refl

  goal_on : On (answers st.panel).size st.rest
  goal_on = subst (λ (s : State P). On (answers s.panel).size s.rest) view kept.rest

  plans_in : (r : Result Sent Fault) → Plans c (answers q) f [] ws lead start rest ls ms xs ys r
      → Plans c (answers st.panel) f [] ws (answers st.panel).wipe first_stand st.rest ls ms xs ys r
  plans_in r h =
      let wipe_bytes : List ℕ = (answers st.panel).wipe in
      subst (λ (s : State P). Plans c (answers s.panel) f [] ws wipe_bytes first_stand s.rest ls ms xs ys r) view
      (subst (λ (k : Stand). Plans c (answers q) f [] ws (answers st.panel).wipe k rest ls ms xs ys r) first
      (subst (λ (bs : List ℕ). Plans c (answers q) f [] ws bs start rest ls ms xs ys r) wipe h))

  pub redraw_refused : (r : Result ℕ Fault) (why : Fault) → r ≡ Err why
      → Plans c (answers q) f [] ws lead start rest ls ms xs ys (Err why)
      → Outcome c answers meaning fed A (redraw_of (answers st.panel) f st ws gs (length ls) (length xs))
      st st ws gs gs ls ms xs ys r
  redraw_refused r why e h =
      subst (λ (r : Result ℕ Fault). Outcome c answers meaning fed A
      (redraw_of (answers st.panel) f st ws gs (length ls) (length xs)) st st ws gs gs ls ms xs ys r) (sym e)
      (plan_refused c answers meaning fed A f st ws gs ls xs (answers st.panel).wipe true
      (blanks (answers st.panel).size) first_stand [] (nothing_alike (answers st.panel).size f) ms ys ready
      (first_on (answers st.panel).size) goal_on why (plans_in (Err why) h))

  pub redraw_accepted : (gs' : List C) (sent : Sent) (after : State P) (n : ℕ)
      → Plans c (answers q) f [] ws lead start rest ls ms xs ys (Ok sent)
      → Accepts answers meaning fed ws gs gs' ys sent st after n
      → Outcome c answers meaning fed A (redraw_of (answers st.panel) f st ws gs (length ls) (length xs))
      st after ws gs gs' ls ms xs ys (Ok n)
  redraw_accepted gs' sent after n h accepts =
      plan_accepted c answers meaning fed A f st ws gs ls xs (answers st.panel).wipe true
      (blanks (answers st.panel).size) first_stand [] (nothing_alike (answers st.panel).size f) gs' ms ys sent after n
      ready (plans_in (Ok sent) h) accepts
