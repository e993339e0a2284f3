-- A panel that faces a picture: a plan that is fed to it draws the wanted picture, from what the last showing left or
-- from the blanks of a wipe.
use Rattle.std.proofs.Common.{◌≡◌, ◌∙◌, ℕ, ◌+◌, ◌-◌, ◌*◌, ◌<◌, ◌≤◌, Bool, List, Ok, Option, length, refl, sym, ap, subst, arith, take}
use Rattle.std.proofs.lemmas.List.{length-map, length-replicate, length-take-le}
use Rattle.cost.specs.Costs.{Costs}
use Rattle.display.specs.Cell.{blank}
use Rattle.display.specs.Surface.{blanks, place_of, resting}
use Rattle.display.specs.declared.cell.Glyph.{Glyph}
use Rattle.display.specs.declared.size.Size.{Size}
use Rattle.faults.specs.Causes.{AllGood}
use Rattle.faults.proofs.Good.{good_corner, good_printed}
use Rattle.labels.specs.declared.label.Label.{Label}
use Rattle.panel.specs.Answers.{Answers}
use Rattle.panel.specs.Lawful.{Lawful, Sound}
use Rattle.panel.specs.Meaning.{Meaning, feeds}
use Rattle.panel.proofs.Feeds.{feeds_append}
use Rattle.plan.specs.Drawn.{Apt, Printable}
use Rattle.plan.specs.Plan.{Plan}
use Rattle.plan.specs.declared.stand.Stand.{Stand}
use Rattle.plan.proofs.Blanks.{blank_alike}
use Rattle.plan.proofs.Drawn.{plan_drawn}
use Rattle.plan.proofs.Taken.{sound_fed}
use Rattle.planning.specs.Planned.{pictured}
use Rattle.screen.specs.Calls.{Outcome, redraw_of, refresh_of, stand_of}
use Rattle.screen.specs.State.{Faces, State}

last_below : (z : Size) → z.rows * z.columns - 1 < z.rows * z.columns
last_below z =
    let r = z.rows_least in
    let w = z.columns_least in
    let e : z.rows ≡ (z.rows - 1) + 1 = omega arith in
    let f = ap (λ (q : ℕ). q * z.columns) e in omega arith

-- a picture whose cells can be put is one that a plan can draw
good_printable : {C : Type 0} (a : Answers) (A : ℕ → ℕ → Bool) (f : C → Glyph) (ws : List C)
    → a.size.rows * a.size.columns ≤ length ws → AllGood a A (pictured a.size f ws)
    → Printable a (pictured a.size f ws)
good_printable a A f ws enough good =
    let m : ℕ = a.size.rows * a.size.columns in
    let gs : List Glyph = pictured a.size f ws in
    record {
      apt = record {
        filled = length-map (take m ws) f ∙ length-take-le m ws enough;
        corner = λ unsafe. good_corner a A gs (m - 1) (good.good (m - 1) (last_below a.size)) unsafe refl;
      };
      cells = λ n below. good_printed a A gs n (good.good n below);
    }

blanks_apt : (a : Answers) → Apt a (blanks a.size)
blanks_apt a = record {
  filled = length-replicate (a.size.rows * a.size.columns) blank;
  corner = λ _. sym (blank_alike (a.size.rows * a.size.columns) (a.size.rows * a.size.columns - 1));
}

module _ {P C K V Mode : Type 0} (c : Costs V) (answers : P → Answers) (meaning : P → Meaning Mode)
    (fed : Answers → Meaning Mode → ℕ → Meaning Mode) (A : ℕ → ℕ → Bool) (f : C → Glyph) (ready : Mode)
    (st after : State P) (ws gs gs' : List C) (ls ms : List (Label K)) (xs ys : List ℕ) (n : ℕ)
    (law : Lawful ready (answers st.panel) (fed (answers st.panel)))
    (sound : Sound (answers st.panel) (meaning st.panel)) where
  pub refresh_faces : Outcome c answers meaning fed A
      (refresh_of (answers st.panel) f st ws gs (length ls) (length xs)) st after ws gs gs' ls ms xs ys (Ok n)
      → Faces ready (answers st.panel) st (meaning st.panel) (pictured (answers st.panel).size f gs)
      → Faces ready (answers st.panel) after (meaning after.panel) (pictured (answers st.panel).size f ws)
  refresh_faces o h =
      let a : Answers = answers st.panel in
      let old : List Glyph = pictured a.size f gs in
      let new : List Glyph = pictured a.size f ws in
      let planned : List ℕ = o.answer.planned in
      let printable : Printable a new = good_printable a A f ws o.answer.ready.enough.wanted o.answer.ready.good in
      let plan : Plan c a old new st.rest (resting h.stand.place) h.stand.pen planned o.pen =
      subst (λ (l : Option Stand). Plan c a old new st.rest (resting (stand_of l).place) (stand_of l).pen planned o.pen)
      h.left o.answer.plan in
      let drawn = plan_drawn ready a (fed a) law c old new st.rest h.apt printable (resting h.stand.place) h.stand.pen
      planned o.pen plan (subst (Sound a) h.means sound) in
      record {
        stand = record { place = st.rest; pen = o.pen };
        left = ap (λ (s : State P). s.left) o.state;
        means = o.fed_bytes ∙ (ap (feeds (fed a) (meaning st.panel)) o.answer.bytes
            ∙ (ap (λ (m : Meaning Mode). feeds (fed a) m planned) h.means ∙ drawn));
        apt = printable.apt;
      }

  pub redraw_faces : Outcome c answers meaning fed A
      (redraw_of (answers st.panel) f st ws gs (length ls) (length xs)) st after ws gs gs' ls ms xs ys (Ok n)
      → Faces ready (answers st.panel) after (meaning after.panel) (pictured (answers st.panel).size f ws)
  redraw_faces o =
      let a : Answers = answers st.panel in
      let new : List Glyph = pictured a.size f ws in
      let planned : List ℕ = o.answer.planned in
      let printable : Printable a new = good_printable a A f ws o.answer.ready.enough.wanted o.answer.ready.good in
      let wiped = law.wipes (meaning st.panel) sound in
      let drawn = plan_drawn ready a (fed a) law c (blanks a.size) new st.rest (blanks_apt a) printable
      (resting (place_of 0 0)) 0 planned o.pen o.answer.plan
      (subst (Sound a) wiped (sound_fed ready a (fed a) law a.wipe (meaning st.panel) sound)) in
      record {
        stand = record { place = st.rest; pen = o.pen };
        left = ap (λ (s : State P). s.left) o.state;
        means = o.fed_bytes ∙ (ap (feeds (fed a) (meaning st.panel)) o.answer.bytes
            ∙ (feeds_append (fed a) (meaning st.panel) a.wipe planned
            ∙ (ap (λ (m : Meaning Mode). feeds (fed a) m planned) wiped ∙ drawn)));
        apt = printable.apt;
      }
