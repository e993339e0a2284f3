-- A plan, fed to a panel that shows the shown picture, makes it show the wanted one: each leg leaves the picture as it
-- is, each run draws what differs up to its end, and between runs nothing differs.
use Rattle.std.proofs.Common.{◌≡◌, ◌∙◌, ℕ, ◌-◌, ◌*◌, ◌<◌, ◌≤◌, Bool, true, false, cond, List, [], ◌∷◌, ◌++◌, length, length-append, length-drop, take, drop, refl, sym, ap, subst, arith, slice_index_or, nat_lt, rules}
use Rattle.std.proofs.lemmas.Bool.Decides.{nat_tests}
use Rattle.std.proofs.lemmas.List.{drop_all, ext_get_or, length-take-le, take_all}
use Rattle.std.proofs.ByRecursion.{All-from_get_or, All-drop, All-take}
use Rattle.std.specs.List.{AllByRecursion}
use Rattle.cost.specs.Costs.{Costs}
use Rattle.display.specs.Cell.{blank}
use Rattle.display.specs.Place.{On, number}
use Rattle.display.specs.Surface.{Printed, resting}
use Rattle.display.specs.declared.cell.Glyph.{Glyph}
use Rattle.display.specs.declared.place.Cursor.{Cursor}
use Rattle.display.specs.declared.place.Place.{Place}
use Rattle.legs.specs.Graph.{Graph, Leads}
use Rattle.legs.specs.Leg.{Leg}
use Rattle.legs.specs.Scene.{graph, sent}
use Rattle.legs.specs.Sequence.{Sequence, none, then}
use Rattle.legs.proofs.Unique.{leg_leads}
use Rattle.panel.specs.Answers.{Answers}
use Rattle.panel.specs.Lawful.{Lawful, Sound}
use Rattle.panel.specs.Meaning.{Meaning, feeds, of}
use Rattle.panel.proofs.Feeds.{feeds_append}
use Rattle.plan.specs.Drawing.{cells_of, drawing, numbered_place, partly, pen_after}
use Rattle.plan.specs.Drawn.{Apt, Printable, stands}
use Rattle.plan.specs.Plan.{Chosen, Plan, Rests, Sends, leg_scene}
use Rattle.plan.proofs.Cells.{partly_below, partly_from, run_drawn, same}
use Rattle.plan.proofs.Taken.{leg_taken, sound_fed}
use Rattle.runs.specs.Runs.{Chain, Runs, Stretch, differs}
use Rattle.runs.specs.declared.run.Run.{Run}
use Rattle.runs.proofs.Chains.{chain_of_runs}

-- from i to below e nothing differs
abbrev Alike : List Glyph → List Glyph → ℕ → ℕ → Type 0
Alike old new i e = (n : ℕ) → i ≤ n → n < e → differs old new n ≡ false

-- two pictures of m cells
module _ (old new : List Glyph) (m : ℕ) (lo : length old ≡ m) (ln : length new ≡ m) where
  partly_length : (n : ℕ) → n ≤ m → length (partly old new n) ≡ m
  partly_length n le =
      let t : length (take n new) ≡ n = length-take-le n new (omega arith) in
      let d : length (drop n old) ≡ length old - n = length-drop n old in
      length-append (take n new) (drop n old) ∙ omega arith

  -- where nothing differs there is nothing to draw
  partly_same : (i e : ℕ) → i ≤ e → e ≤ m → Alike old new i e → partly old new i ≡ partly old new e
  partly_same i e le lt alike = ext_get_or blank (partly old new i) (partly old new e)
      (sized ∙ sym (partly_length e lt)) (λ j h. at j (omega (arith, sized)) (nat_lt j i) (nat_lt j e) refl refl)
    where
      sized : length (partly old new i) ≡ m
      sized = partly_length i (omega arith)

      at : (j : ℕ) → j < m → (s t : Bool) → nat_lt j i ≡ s → nat_lt j e ≡ t
          → slice_index_or (partly old new i) j blank ≡ slice_index_or (partly old new e) j blank
      at j h true t p q =
          partly_below old new i j (omega arith) (grind (arith, nat_tests))
          ∙ sym (partly_below old new e j (omega arith) (grind (arith, nat_tests)))
      at j h false true p q =
          let l : i ≤ j = grind (arith, nat_tests) in
          let r : j < e = grind (arith, nat_tests) in
          partly_from old new i j (omega arith) l
          ∙ (same old new j (alike j l r)
          ∙ sym (partly_below old new e j (omega arith) r))
      at j h false false p q =
          partly_from old new i j (omega arith) (grind (arith, nat_tests))
          ∙ sym (partly_from old new e j (omega arith) (grind (arith, nat_tests)))

  -- all cells drawn make the new picture
  partly_all : partly old new m ≡ new
  partly_all = search (rules, take_all, drop_all)

pen_after_below : (P p : ℕ) (gs : List Glyph) → p < P → AllByRecursion (Printed P) gs → pen_after p gs < P
pen_after_below P p [] lt h = lt
pen_after_below P p (g ∷ gs) lt h = pen_after_below P g.pen gs h.0.pen h.1

-- the pen that is set after a plan is one of the panel's
module _ {V : Type 0} (c : Costs V) (a : Answers) (shown wanted : List Glyph) (rest : Place)
    (printable : Printable a wanted) where
  cells_printed : (r : Run) → AllByRecursion (Printed a.pens) (cells_of wanted r)
  cells_printed r =
      let all = All-from_get_or (Printed a.pens) wanted blank
      (λ n lt. printable.cells n (omega (arith, printable.apt.filled))) in
      All-take (Printed a.pens) (r.end - r.first) (drop r.first wanted)
      (All-drop (Printed a.pens) r.first wanted all)

  pub sends_pen_below : (rs : List Run) (k : Cursor) (p : ℕ) (bs : List ℕ) (e : ℕ) → p < a.pens
      → Sends c a shown wanted rest rs k p bs e → e < a.pens
  sends_pen_below [] k p bs e lt s = omega (arith, s.pen)
  sends_pen_below (r ∷ rs) k p bs e lt s =
      sends_pen_below rs (a.after (numbered_place a.size (r.end - 1))) (pen_after p (cells_of wanted r)) s.later e
      (pen_after_below a.pens p (cells_of wanted r) lt (cells_printed r)) s.then

  pub pen_below : (k : Cursor) (p : ℕ) (bs : List ℕ) (e : ℕ) → p < a.pens → Plan c a shown wanted rest k p bs e
      → e < a.pens
  pen_below k p bs e lt plan = sends_pen_below plan.runs k p bs e lt plan.sends

module _ {Mode : Type 0} (ready : Mode) (a : Answers) (f : Meaning Mode → ℕ → Meaning Mode) (law : Lawful ready a f)
    {V : Type 0} (c : Costs V) (shown wanted : List Glyph) (rest : Place) (apt : Apt a shown)
    (printable : Printable a wanted) where
  -- the panel shows the wanted cells below n, with the cursor k and the pen p
  abbrev shows : ℕ → Cursor → ℕ → Meaning Mode
  shows n k p = of (stands a.size (partly shown wanted n) k p) ready

  -- the glass of a leg is what the panel shows
  glass_shown : (n p : ℕ) → n ≤ a.size.rows * a.size.columns → (q : Place) → On a.size q
      → (leg_scene a shown wanted n p).glass q
      ≡ slice_index_or (partly shown wanted n) (number a.size q) blank
  glass_shown n p le q on = by_cases (nat_lt (number a.size q) n) refl
    where
      by_cases : (t : Bool) → nat_lt (number a.size q) n ≡ t
          → slice_index_or (cond (nat_lt (number a.size q) n) wanted shown) (number a.size q) blank
          ≡ slice_index_or (partly shown wanted n) (number a.size q) blank
      by_cases true e =
          ap (λ t. slice_index_or (cond t wanted shown) (number a.size q) blank) e
          ∙ sym (partly_below shown wanted n (number a.size q) (omega arith) (grind (arith, nat_tests)))
      by_cases false e =
          ap (λ t. slice_index_or (cond t wanted shown) (number a.size q) blank) e
          ∙ sym (partly_from shown wanted n (number a.size q) (omega arith) (grind (arith, nat_tests)))

  way_taken : (n p : ℕ) (k : Cursor) (q : Place) (w : Sequence) → n ≤ a.size.rows * a.size.columns
      → Chosen c (leg_scene a shown wanted n p) k q w → Sound a (shows n k p)
      → feeds f (shows n k p) (sent (leg_scene a shown wanted n p) k w) ≡ shows n (resting q) p
  way_taken n p k q w le chosen h =
      leg_taken ready (leg_scene a shown wanted n p) f law (partly shown wanted n) (glass_shown n p le) w k
      (resting q) h (leg_leads (graph c (leg_scene a shown wanted n p)) k w (resting q) chosen.leg)

  -- the last leg, where nothing is left to be drawn
  rests_drawn : (i : ℕ) (k : Cursor) (p : ℕ) (bs : List ℕ) (e : ℕ) → i ≤ a.size.rows * a.size.columns
      → Alike shown wanted i (a.size.rows * a.size.columns)
      → Rests c a shown wanted rest k p bs e → Sound a (shows i k p)
      → feeds f (shows i k p) bs ≡ of (stands a.size wanted (resting rest) e) ready
  rests_drawn i k p bs e le alike r h =
      let m : ℕ = a.size.rows * a.size.columns in
      let nothing : partly shown wanted i ≡ partly shown wanted m =
      partly_same shown wanted m apt.filled printable.apt.filled i m le (omega arith) alike in
      let same : shows i k p ≡ shows m k p =
      ap (λ (gs : List Glyph). of (stands a.size gs k p) ready) nothing in
      let taken = way_taken m p k rest r.way (omega arith) r.chosen (subst (Sound a) same h) in
      ap (λ (m : Meaning Mode). feeds f m bs) same
      ∙ (ap (feeds f (shows m k p)) r.bytes ∙ (taken
      ∙ (ap (λ (gs : List Glyph). of (stands a.size gs (resting rest) p) ready)
      (partly_all shown wanted m apt.filled printable.apt.filled)
      ∙ ap (λ (p : ℕ). of (stands a.size wanted (resting rest) p) ready) (sym r.pen))))

  -- a leg to a run and its cells, before other bytes
  run_reached : (i : ℕ) (r : Run) (k : Cursor) (p : ℕ) (w : Sequence) (later : List ℕ) → i ≤ r.first
      → Alike shown wanted i r.first
      → Stretch a.size.columns (a.size.rows * a.size.columns) (differs shown wanted) r
      → Chosen c (leg_scene a shown wanted r.first p) k (numbered_place a.size r.first) w
      → Sound a (shows i k p)
      → feeds f (shows i k p)
      (sent (leg_scene a shown wanted r.first p) k w ++ (drawing a p (cells_of wanted r) ++ later))
      ≡ feeds f (shows r.end (a.after (numbered_place a.size (r.end - 1))) (pen_after p (cells_of wanted r))) later
  run_reached i r k p w later le alike s chosen h =
      let m : ℕ = a.size.rows * a.size.columns in
      let q : Place = numbered_place a.size r.first in
      let way : List ℕ = sent (leg_scene a shown wanted r.first p) k w in
      let cells : List ℕ = drawing a p (cells_of wanted r) in
      let nothing : partly shown wanted i ≡ partly shown wanted r.first =
      partly_same shown wanted m apt.filled printable.apt.filled i r.first le (omega arith) alike in
      let same : shows i k p ≡ shows r.first k p =
      ap (λ (gs : List Glyph). of (stands a.size gs k p) ready) nothing in
      let sound : Sound a (shows r.first k p) = subst (Sound a) same h in
      let taken : feeds f (shows r.first k p) way ≡ shows r.first (resting q) p =
      way_taken r.first p k q w (omega arith) chosen sound in
      let drawn = run_drawn ready a f law shown wanted apt printable r p s
      (subst (Sound a) taken (sound_fed ready a f law way (shows r.first k p) sound)) in
      ap (λ (m : Meaning Mode). feeds f m (way ++ (cells ++ later))) same
      ∙ (feeds_append f (shows r.first k p) way (cells ++ later)
      ∙ (ap (λ (m : Meaning Mode). feeds f m (cells ++ later)) taken
      ∙ (feeds_append f (shows r.first (resting q) p) cells later
      ∙ ap (λ (m : Meaning Mode). feeds f m later) drawn)))

  -- what is left of the runs from the number i on, where all before it is drawn
  pub sends_drawn : (rs : List Run) (i : ℕ) (k : Cursor) (p : ℕ) (bs : List ℕ) (e : ℕ)
      → i ≤ a.size.rows * a.size.columns
      → Chain a.size.columns (a.size.rows * a.size.columns) (differs shown wanted) i rs
      → Sends c a shown wanted rest rs k p bs e → Sound a (shows i k p)
      → feeds f (shows i k p) bs ≡ of (stands a.size wanted (resting rest) e) ready
  sends_drawn [] i k p bs e le ch s h = rests_drawn i k p bs e le ch.same s h
  sends_drawn (r ∷ rs) i k p bs e le ch s h =
      let t = ch.2.stretch in
      let reached = run_reached i r k p s.way s.later ch.0 ch.1.same t s.chosen h in
      let before = run_reached i r k p s.way [] ch.0 ch.1.same t s.chosen h in
      let sent_so_far : List ℕ = sent (leg_scene a shown wanted r.first p) k s.way
      ++ (drawing a p (cells_of wanted r) ++ []) in
      let sound = subst (Sound a) before (sound_fed ready a f law sent_so_far (shows i k p) h) in
      ap (feeds f (shows i k p)) s.bytes ∙ (reached
      ∙ sends_drawn rs r.end (a.after (numbered_place a.size (r.end - 1))) (pen_after p (cells_of wanted r))
      s.later e t.below ch.3 s.then sound)

  pub plan_drawn : (k : Cursor) (p : ℕ) (bs : List ℕ) (e : ℕ)
      → Plan c a shown wanted rest k p bs e → Sound a (of (stands a.size shown k p) ready)
      → feeds f (of (stands a.size shown k p) ready) bs ≡ of (stands a.size wanted (resting rest) e) ready
  plan_drawn k p bs e plan h =
      sends_drawn plan.runs 0 k p bs e (omega arith) (chain_of_runs _ _ _ plan.runs plan.are) plan.sends h
