-- The cells of a run, drawn one after the other on a panel that shows the wanted cells before them, are shown there,
-- and nothing else changes.
use Rattle.std.proofs.Common.{◌≡◌, ◌≢◌, ◌∙◌, ℕ, zero, suc, ◌+◌, ◌-◌, ◌*◌, ◌/◌, ◌%◌, ◌<◌, ◌≤◌, Bool, true, false, cond, ◌==◌, List, [], ◌∷◌, ◌++◌, length, take, drop, refl, sym, ap, subst, arith, append_assoc, slice_index_or, slice_set}
use Rattle.std.proofs.lemmas.Bool.Decides.{nat_tests}
use Rattle.std.proofs.lemmas.List.{drop_more, get_or-append_right, get_or_append_left, get_or-drop, get_or-take, length-take-le, take_more}
use Rattle.std.proofs.Math.Nat.{div-add-mod}
use Rattle.std.proofs.Math.Seq.{set-append_seam}
use Rattle.display.specs.Cell.{blank, glyph_of}
use Rattle.display.specs.Place.{number}
use Rattle.display.specs.Surface.{place_of, resting}
use Rattle.display.specs.declared.cell.Glyph.{Glyph}
use Rattle.display.specs.declared.place.Cursor.{Cursor}
use Rattle.display.specs.declared.place.Place.{Place}
use Rattle.display.proofs.Places.{numbered_place as numbered}
use Rattle.panel.specs.Answers.{Answers}
use Rattle.panel.specs.Lawful.{Free, Lawful, Sound}
use Rattle.panel.specs.Meaning.{Meaning, feeds, of}
use Rattle.panel.proofs.Feeds.{feeds_append}
use Rattle.plan.specs.Drawing.{cells_of, drawing, numbered_place, partly, pen_after, penned}
use Rattle.plan.specs.Drawn.{Apt, Printable, stands}
use Rattle.plan.proofs.Taken.{sound_fed}
use Rattle.runs.specs.Runs.{Stretch, differs, same_glyph}
use Rattle.runs.specs.declared.run.Run.{Run}

-- where the test finds a difference the glyphs differ
pub differ : (gs hs : List Glyph) (n : ℕ) → differs gs hs n ≡ true
    → slice_index_or gs n blank ≢ slice_index_or hs n blank
differ gs hs n e i = by_parts (slice_index_or gs n blank) (slice_index_or hs n blank) i (grind (arith, nat_tests))
  where
    by_parts : (g h : Glyph) → g ≡ h → same_glyph g h ≡ false → ⊥
    by_parts g h i e = let c = ap (λ (g : Glyph). g.code) i in let p = ap (λ (g : Glyph). g.pen) i in
        grind (arith, nat_tests)

-- where it finds none they are the same
pub same : (gs hs : List Glyph) (n : ℕ) → differs gs hs n ≡ false
    → slice_index_or gs n blank ≡ slice_index_or hs n blank
same gs hs n e = by_parts (slice_index_or gs n blank) (slice_index_or hs n blank) (grind (arith, nat_tests))
  where
    by_parts : (g h : Glyph) → same_glyph g h ≡ true → g ≡ h
    by_parts g h e = let c : g.code ≡ h.code = grind (arith, nat_tests) in
        let p : g.pen ≡ h.pen = grind (arith, nat_tests) in
        let i : glyph_of g.code g.pen ≡ glyph_of h.code h.pen = cc in i

seam : {X : Type 0} (xs ys : List X) (n : ℕ) (y z : X) → length xs ≡ n
    → slice_set (xs ++ y ∷ ys) n z ≡ (xs ++ z ∷ []) ++ ys
seam xs ys n y z e =
    ap (λ i. slice_set (xs ++ y ∷ ys) i z) (sym e) ∙ (set-append_seam xs y ys z ∙ sym (append_assoc xs (z ∷ []) ys))

module _ (old new : List Glyph) where
  -- one cell more
  pub partly_more : (n : ℕ) → n < length old → n < length new
      → slice_set (partly old new n) n (slice_index_or new n blank) ≡ partly old new (n + 1)
  partly_more n lo ln =
      let g : Glyph = slice_index_or new n blank in
      let rest : List Glyph = drop (n + 1) old in
      ap (λ (ys : List Glyph). slice_set (take n new ++ ys) n g) (drop_more old n blank lo)
      ∙ (seam (take n new) rest n (slice_index_or old n blank) g (length-take-le n new (omega arith))
      ∙ ap (λ (xs : List Glyph). xs ++ rest) (sym (take_more new n blank ln)))

  pub partly_below : (n j : ℕ) → n ≤ length new → j < n
      → slice_index_or (partly old new n) j blank ≡ slice_index_or new j blank
  partly_below n j ln lt =
      let l = length-take-le n new ln in
      get_or_append_left (take n new) (drop n old) blank j (omega arith) ∙ get_or-take n new j blank lt

  pub partly_from : (n j : ℕ) → n ≤ length new → n ≤ j
      → slice_index_or (partly old new n) j blank ≡ slice_index_or old j blank
  partly_from n j ln le =
      let l : length (take n new) ≡ n = length-take-le n new ln in
      let i : n + (j - n) ≡ j = omega arith in
      get_or-append_right (take n new) (drop n old) n j blank l le
      ∙ (get_or-drop n old (j - n) blank ∙ ap (λ (i : ℕ). slice_index_or old i blank) i)

-- where one of two apt pictures differs from the other a code may be printed
pub free_there : (a : Answers) (old new : List Glyph) → Apt a old → Apt a new → (n : ℕ)
    → n < a.size.rows * a.size.columns → differs old new n ≡ true → Free a (numbered_place a.size n)
free_there a old new b c n lt d safe e =
    let is = numbered a.size n lt in
    let at_corner : n ≡ a.size.rows * a.size.columns - 1 =
    sym is.is ∙ (ap (number a.size) e ∙ corner_number a.size.rows a.size.columns (omega arith) (omega arith)) in
    differ old new n d (subst (λ i. slice_index_or old i blank ≡ slice_index_or new i blank) (sym at_corner)
    (b.corner safe ∙ sym (c.corner safe)))
  where
    corner_number : (r w : ℕ) → 0 < r → 0 < w → (r - 1) * w + (w - 1) ≡ r * w - 1
    corner_number r w h i =
        let e : (r - 1) + 1 ≡ r = omega arith in
        subst (λ (x : ℕ). (r - 1) * w + (w - 1) ≡ x * w - 1) e (omega arith)

-- within a row the next number is that of the next column
next_column : (w n : ℕ) → 0 < w → (n + 1) / w ≡ n / w → n % w + 1 ≡ (n + 1) % w
next_column w n h e =
    let p : w * ((n + 1) / w) ≡ w * (n / w) = ap (λ (i : ℕ). w * i) e in
    let b = div-add-mod n w in
    let c = div-add-mod (n + 1) w in
    omega arith

-- what is left of a stretch after its first cell
abbrev behind : Run → Run
behind r = record { first = r.first + 1; end = r.end }

behind_stretch : (w m : ℕ) (D : ℕ → Bool) (r : Run) → Stretch w m D r → r.first + 1 < r.end
    → Stretch w m D (behind r)
behind_stretch w m D r s lt = record {
  some = lt;
  below = s.below;
  in_row = λ n i. s.in_row n (omega arith, i.1) ∙ sym (s.in_row (r.first + 1) (omega arith, lt));
  differ = λ n i. s.differ n (omega arith, i.1);
}

-- the bytes of a pen set it
pen_set : {Mode : Type 0} (ready : Mode) (a : Answers) (f : Meaning Mode → ℕ → Meaning Mode) → Lawful ready a f
    → (gs : List Glyph) (k : Cursor) (p q : ℕ) → q < a.pens → Sound a (of (stands a.size gs k p) ready)
    → feeds f (of (stands a.size gs k p) ready) (penned a p q) ≡ of (stands a.size gs k q) ready
pen_set ready a f law gs k p q lt h = by_cases (p == q) refl
  where
    by_cases : (t : Bool) → (p == q) ≡ t
        → feeds f (of (stands a.size gs k p) ready) (penned a p q) ≡ of (stands a.size gs k q) ready
    by_cases true e =
        let i : p ≡ q = grind (arith, nat_tests) in
        ap (λ t. feeds f (of (stands a.size gs k p) ready) (cond t [] (a.pen_bytes q))) e
        ∙ ap (λ (p : ℕ). of (stands a.size gs k p) ready) i
    by_cases false e =
        ap (λ t. feeds f (of (stands a.size gs k p) ready) (cond t [] (a.pen_bytes q))) e
        ∙ law.inks (of (stands a.size gs k p) ready) q h refl lt

module _ {Mode : Type 0} (ready : Mode) (a : Answers) (f : Meaning Mode → ℕ → Meaning Mode) (law : Lawful ready a f)
    (old new : List Glyph) (apt : Apt a old) (printable : Printable a new) where
  -- the panel shows the new cells below n, with the cursor k and the pen p
  abbrev shows : ℕ → Cursor → ℕ → Meaning Mode
  shows n k p = of (stands a.size (partly old new n) k p) ready

  -- one cell: its pen and its code
  cell_drawn : (n p : ℕ) → n < a.size.rows * a.size.columns → differs old new n ≡ true
      → Sound a (shows n (resting (numbered_place a.size n)) p)
      → feeds f (shows n (resting (numbered_place a.size n)) p)
      (penned a p (slice_index_or new n blank).pen ++ ((slice_index_or new n blank).code ∷ []))
      ≡ shows (n + 1) (a.after (numbered_place a.size n)) (slice_index_or new n blank).pen
  cell_drawn n p lt d h =
      let g : Glyph = slice_index_or new n blank in
      let q : Place = numbered_place a.size n in
      let cell = printable.cells n lt in
      let inks = pen_set ready a f law (partly old new n) (resting q) p g.pen cell.pen h in
      let sound : Sound a (shows n (resting q) g.pen) =
      subst (Sound a) inks (sound_fed ready a f law (penned a p g.pen) (shows n (resting q) p) h) in
      let printed = law.prints (shows n (resting q) g.pen) g.code sound refl refl cell.code
      (free_there a old new apt printable.apt n lt d) in
      let is : number a.size q ≡ n = (numbered a.size n lt).is in
      let picture : slice_set (partly old new n) (number a.size q) g ≡ partly old new (n + 1) =
      ap (λ (i : ℕ). slice_set (partly old new n) i g) is ∙ partly_more old new n (omega arith) (omega arith) in
      feeds_append f (shows n (resting q) p) (penned a p g.pen) (g.code ∷ [])
      ∙ (ap (λ (m : Meaning Mode). f m g.code) inks ∙ (printed
      ∙ ap (λ (gs : List Glyph). of (stands a.size gs (a.after q) g.pen) ready) picture))

  -- the cells of a stretch, of which there are c + 1
  stretch_drawn : (c : ℕ) (r : Run) (p : ℕ) → r.end ≡ r.first + suc c
      → Stretch a.size.columns (a.size.rows * a.size.columns) (differs old new) r
      → Sound a (shows r.first (resting (numbered_place a.size r.first)) p)
      → feeds f (shows r.first (resting (numbered_place a.size r.first)) p)
      (drawing a p (take (suc c) (drop r.first new)))
      ≡ shows r.end (a.after (numbered_place a.size (r.end - 1))) (pen_after p (take (suc c) (drop r.first new)))
  stretch_drawn zero r p e s h =
      let n : ℕ = r.first in
      let lt : n < a.size.rows * a.size.columns = omega arith in
      let g : Glyph = slice_index_or new n blank in
      let one : r.end ≡ n + 1 = omega arith in
      let last : n ≡ r.end - 1 = omega arith in
      let drawn = cell_drawn n p lt (s.differ n (omega arith, omega arith)) h in
      subst (λ (gs : List Glyph). feeds f (shows n (resting (numbered_place a.size n)) p) (drawing a p gs)
      ≡ shows r.end (a.after (numbered_place a.size (r.end - 1))) (pen_after p gs))
      (sym (ap (take 1) (drop_more new n blank (omega arith))))
      (drawn ∙ (ap (λ (i : ℕ). shows i (a.after (numbered_place a.size n)) g.pen) (sym one)
      ∙ ap (λ (i : ℕ). shows r.end (a.after (numbered_place a.size i)) g.pen) last))
  stretch_drawn (suc c) r p e s h =
      let n : ℕ = r.first in
      let lt : n < a.size.rows * a.size.columns = omega arith in
      let g : Glyph = slice_index_or new n blank in
      let gs : List Glyph = take (suc c) (drop (n + 1) new) in
      let q : Place = numbered_place a.size n in
      let after : Place = numbered_place a.size (n + 1) in
      let start : Meaning Mode = shows n (resting q) p in
      let one : List ℕ = penned a p g.pen ++ (g.code ∷ []) in
      let is = numbered a.size n lt in
      let row : (n + 1) / a.size.columns ≡ n / a.size.columns =
      s.in_row (n + 1) (omega arith, omega arith) in
      let column : n % a.size.columns + 1 ≡ (n + 1) % a.size.columns =
      next_column a.size.columns n (omega (arith, is.on.column)) row in
      let inside : (n + 1) % a.size.columns < a.size.columns =
      (numbered a.size (n + 1) (omega arith)).on.column in
      let onward : a.after q ≡ resting after =
      law.bounded.after_next q is.on (omega arith)
      ∙ (ap (λ (i : ℕ). resting (place_of (n / a.size.columns) i)) column
      ∙ ap (λ (i : ℕ). resting (place_of i ((n + 1) % a.size.columns))) (sym row)) in
      let drawn : feeds f start one ≡ shows (n + 1) (resting after) g.pen =
      cell_drawn n p lt (s.differ n (omega arith, omega arith)) h
      ∙ ap (λ (k : Cursor). shows (n + 1) k g.pen) onward in
      let sound : Sound a (shows (n + 1) (resting after) g.pen) =
      subst (Sound a) drawn (sound_fed ready a f law one start h) in
      let others = stretch_drawn c (behind r) g.pen (omega arith)
      (behind_stretch a.size.columns (a.size.rows * a.size.columns) (differs old new) r s (omega arith)) sound in
      subst (λ (gs : List Glyph). feeds f start (drawing a p gs)
      ≡ shows r.end (a.after (numbered_place a.size (r.end - 1))) (pen_after p gs))
      (sym (ap (take (suc (suc c))) (drop_more new n blank (omega arith))))
      (ap (feeds f start) (sym (append_assoc (penned a p g.pen) (g.code ∷ []) (drawing a g.pen gs)))
      ∙ (feeds_append f start one (drawing a g.pen gs)
      ∙ (ap (λ (m : Meaning Mode). feeds f m (drawing a g.pen gs)) drawn ∙ others)))

  -- the cells of a run
  pub run_drawn : (r : Run) (p : ℕ)
      → Stretch a.size.columns (a.size.rows * a.size.columns) (differs old new) r
      → Sound a (shows r.first (resting (numbered_place a.size r.first)) p)
      → feeds f (shows r.first (resting (numbered_place a.size r.first)) p) (drawing a p (cells_of new r))
      ≡ shows r.end (a.after (numbered_place a.size (r.end - 1))) (pen_after p (cells_of new r))
  run_drawn r p s h =
      let i : r.end - r.first ≡ suc (r.end - r.first - 1) = omega arith in
      subst (λ (l : ℕ). feeds f (shows r.first (resting (numbered_place a.size r.first)) p)
      (drawing a p (take l (drop r.first new)))
      ≡ shows r.end (a.after (numbered_place a.size (r.end - 1))) (pen_after p (take l (drop r.first new))))
      (sym i) (stretch_drawn (r.end - r.first - 1) r p (omega arith) s h)
