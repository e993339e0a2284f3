-- A showing that is refused leaves everything but the labels as it was: what is asked first refuses it for the first
-- reason that applies, and then the plan does.
use Rattle.std.proofs.Common.{◌≡◌, ◌<◌, ℕ, Bool, true, List, [], ◌∷◌, Err, Result, length, inl, inr, refl, sym, ap, subst, slice_index_or}
use Rattle.cost.specs.Costs.{Costs}
use Rattle.display.specs.Cell.{blank}
use Rattle.display.specs.Place.{On}
use Rattle.display.specs.Surface.{place_of, resting}
use Rattle.display.specs.declared.cell.Glyph.{Glyph}
use Rattle.faults.specs.Told.{tell, told}
use Rattle.faults.specs.declared.fault.Fault.{Fault}
use Rattle.faults.specs.declared.fault.Fault.TheVariants.{Outside, NotCode, NotPen, UnsafeCorner, NotDrawn, NoSequence, OutputTooShort, TooSmall}
use Rattle.labels.specs.declared.label.Label.{Label}
use Rattle.leg_search.specs.Find.{Astray}
use Rattle.panel.specs.Answers.{Answers}
use Rattle.panel.specs.Meaning.{Meaning}
use Rattle.plan.specs.declared.stand.Stand.{Stand}
use Rattle.plan.proofs.Blanks.{blocked_same, plan_same}
use Rattle.planning.specs.Planned.{Plans, pictured}
use Rattle.screen.specs.Accepting.{Sound, Unsound, small, bad}
use Rattle.screen.specs.Calls.{Outcome, Spared}
use Rattle.screen.specs.Showing.{Denied, Ready, Showing, bad_cell, no_sequence, too_short, too_small}
use Rattle.screen.specs.State.{State}

-- a showing of the pictures, whatever it begins from
module _ {P C K : Type 0} (answers : P → Answers) (f : C → Glyph) (st : State P) (ws gs : List C) (ls : List (Label K))
    (xs : List ℕ) (head : List ℕ) (begun : Bool) (shown : List Glyph) (k : Stand) where
  abbrev pub asked : Showing
  asked = record {
    head = head;
    begun = begun;
    shown = shown;
    wanted = pictured (answers st.panel).size f ws;
    stand = k;
    rest = st.rest;
    labels = length ls;
    cells_wanted = length ws;
    cells_shown = length gs;
    room = length xs;
  }

module _ {P C K V Mode : Type 0} (c : Costs V) (answers : P → Answers) (meaning : P → Meaning Mode)
    (fed : Answers → Meaning Mode → ℕ → Meaning Mode) (A : ℕ → ℕ → Bool) where
  -- what is left of any refusal
  pub refused : (s : Showing) (st : State P) (ws gs : List C) (ls ms : List (Label K)) (xs ys : List ℕ) (why : Fault)
      → Denied c (answers st.panel) A s (told why) → length ms ≡ length ls → Spared (told why) ls ms → ys ≡ xs
      → Outcome c answers meaning fed A s st st ws gs gs ls ms xs ys (Err why)
  refused s st ws gs ls ms xs ys why denied labels spared output = record {
    bytes = [];
    pen = 0;
    answer = (denied, refl);
    fixed = refl;
    fed_bytes = refl;
    state = refl;
    output = output;
    shown = refl;
    labels = labels;
    spared = spared;
  }

  module _ (f : C → Glyph) (st : State P) (ws gs : List C) (ls : List (Label K)) (xs : List ℕ) (head : List ℕ)
      (begun : Bool) (shown : List Glyph) (k : Stand) where
    abbrev showing : Showing
    showing = asked answers f st ws gs ls xs head begun shown k

    unsound_denied : (why : Fault) → Unsound (answers st.panel) A f gs ws (length ls) why
        → Denied c (answers st.panel) A showing (told why)
    unsound_denied why (small h e) = too_small h e
    unsound_denied why (bad h b) = bad_cell h b

    pub check_refused : (r : Result ℕ Fault) (why : Fault) → r ≡ Err why
        → Unsound (answers st.panel) A f gs ws (length ls) why
        → Outcome c answers meaning fed A showing st st ws gs gs ls ls xs xs r
    check_refused r why e h =
        subst (λ (r : Result ℕ Fault). Outcome c answers meaning fed A showing st st ws gs gs ls ls xs xs r) (sym e)
        (refused showing st ws gs ls ls xs xs why (unsound_denied why h) refl (record { labels = λ _ _. refl }) refl)

    pub sound_ready : Sound (answers st.panel) A f gs ws (length ls) → begun ≡ true
        → Ready c (answers st.panel) A showing
    sound_ready h e = record { enough = h.enough; good = h.good; begun = e }

    -- no plan is refused for what was asked before
    module _ (cells : List C)
        (alike : (n : ℕ)
        → slice_index_or (pictured (answers st.panel).size f cells) n blank ≡ slice_index_or shown n blank)
        (ms : List (Label K)) (ys : List ℕ) (ready : Ready c (answers st.panel) A showing)
        (start : On (answers st.panel).size k.place) (goal : On (answers st.panel).size st.rest) where
      pub plan_refused : (why : Fault)
          → Plans c (answers st.panel) f cells ws head k st.rest ls ms xs ys (Err why)
          → Outcome c answers meaning fed A showing st st ws gs gs ls ms xs ys (Err why)
      plan_refused TooSmall h =
          absurd (h.because (record { memory = ready.enough.memory; picture = ready.enough.wanted }))
      plan_refused (Outside r q) h = astray h.because.1
        where
          astray : Astray (answers st.panel).size (resting k.place) st.rest (place_of r q)
              → Outcome c answers meaning fed A showing st st ws gs gs ls ms xs ys (Err (Outside r q))
          astray (inl o) = absurd (o.0 start)
          astray (inr o) = absurd (o.1 goal)
      plan_refused (NoSequence r q) h =
          refused showing st ws gs ls ms xs ys (NoSequence r q)
          (no_sequence ready (place_of r q)
          (blocked_same c (answers st.panel) _ shown _ st.rest alike (resting k.place) k.pen (place_of r q) h.blocked)
          refl)
          h.looked.labels (record { labels = λ i _. absurd (i refl) }) h.output
      plan_refused (OutputTooShort n) h =
          refused showing st ws gs ls ms xs ys (OutputTooShort n)
          (too_short ready h.counted.bytes h.counted.pen
          (plan_same c (answers st.panel) _ shown _ st.rest alike (resting k.place) k.pen h.counted.bytes h.counted.pen
          h.counted.plan)
          (subst (λ (n : ℕ). length xs < n) h.counted.count h.short) (ap (λ (n : ℕ). tell 7 (n ∷ [])) h.counted.count))
          h.looked.labels (record { labels = λ _ i. absurd (i refl) }) h.counted.output
      plan_refused (NotCode r q) h = absurd h
      plan_refused (NotPen r q) h = absurd h
      plan_refused (UnsafeCorner r q) h = absurd h
      plan_refused NotDrawn h = absurd h
