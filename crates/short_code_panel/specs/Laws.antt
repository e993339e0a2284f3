-- A panel that follows the rules is lawful, whatever its size. Assumes nothing.
use Rattle.std.specs.Prelude.{◌≡◌, ℕ, ◌+◌, ◌<◌, ◌≤◌, ◌⊎◌, Some, ◌≢◌, refl}
use Rattle.std.proofs.Common.{sym, ap, ◌∙◌, subst, inl, inr, rules}
use Rattle.std.proofs.lemmas.Bool.{cases_lt, cond-true, lt-ltb}
use Rattle.display.specs.Place.{On}
use Rattle.display.specs.Surface.{Surface, at_cursor, corner, drawn, inked, moved, resting, wiped}
use Rattle.display.specs.declared.place.Place.{Place}
use Rattle.display.specs.declared.size.Size.{Size}
use Rattle.canvas.specs.Drawing.{new_line, onward}
use Rattle.canvas.proofs.Arrivals.{onward_stepped}
use Rattle.panel.specs.Lawful.{Lawful}
use Rattle.panel.specs.Meaning.{Meaning, feeds, of}
use Rattle.panel.proofs.Feeds.{at_ready}
use Rattle.panel.proofs.Motions.{named_moves}
use Rattle.panel.proofs.Soundness.{fits_of, sound_of}
use Rattle.short_code_panel.specs.Motions.{Reaches, answers, numbered, offered, pen_bytes, spelled}
use Rattle.short_code_panel.specs.Rules.{after, fed, next_row, printed}
use Rattle.short_code_panel.specs.declared.reading.Reading.{Reading}
use Rattle.short_code_panel.specs.declared.reading.Reading.TheVariants.{Ready}
use Rattle.short_code_panel.specs.Bounds.{bounded}
use Rattle.short_code_panel.specs.Keeps.{keeps}
use Rattle.short_code_panel.specs.Moves.{motion_read}
use Rattle.short_code_panel.specs.Numbers.{reaches}
use Rattle.short_code_panel.specs.Steps.{fed_ready}

wipes : (m : Meaning Reading) → fed m 0x1a ≡ of (wiped m.surface.size) Ready
unfolding fed
wipes m = refl

inks : (s : Surface) (p : ℕ) → p < 2 → feeds fed (of s Ready) (pen_bytes p) ≡ of (inked s p) Ready
unfolding fed
inks s p h = search rules

-- a new line above the last row goes to the next row
new_line_above : (s : Surface) → On s.size s.cursor.place → s.cursor.place.row + 1 < s.size.rows
    → new_line s ≡ moved s (next_row s.size s.cursor.place)
new_line_above s on h = search rules

-- in the last column of the last row stands the corner
at_corner : (z : Size) (p : Place) → On z p → z.columns ≤ p.column + 1 → z.rows ≤ p.row + 1 → p ≡ corner z
at_corner z p on right down = search rules

-- a printed code, but on the corner, takes the after-state
prints : (s : Surface) (c : ℕ) → On s.size s.cursor.place → (s.cursor.place ≢ corner s.size)
    → printed s c ≡ at_cursor (drawn s c) (after s.size s.cursor.place)
prints s c on free = go (cases_lt (s.cursor.place.column + 1) s.size.columns)
    (cases_lt (s.cursor.place.row + 1) s.size.rows)
  where
    go : (s.cursor.place.column + 1 < s.size.columns) ⊎ (s.size.columns ≤ s.cursor.place.column + 1)
        → (s.cursor.place.row + 1 < s.size.rows) ⊎ (s.size.rows ≤ s.cursor.place.row + 1)
        → printed s c ≡ at_cursor (drawn s c) (after s.size s.cursor.place)
    go (inl more) _ =
        let e = lt-ltb (s.cursor.place.column + 1) s.size.columns more in
        cond-true _ _ _ e ∙ ap (at_cursor (drawn s c)) (sym (cond-true _ _ _ e))
    go (inr last) (inl above) =
        let t = drawn s c in
        ap (onward t) (new_line_above t on above) ∙ onward_stepped t (resting (next_row s.size s.cursor.place))
    go (inr last) (inr bottom) = absurd (free (at_corner s.size s.cursor.place on last bottom))

module _ (z : Size) where
  pub lawful : Lawful Ready (answers z) fed
  lawful = record {
    bounded = bounded z;
    keeps = λ m b k. sound_of (answers z) (fed m b) (keeps z m b (fits_of (answers z) m k));
    moves = λ m n h.
        let s = m.surface in
        named_moves Ready (numbered z) (offered z) spelled fed m n
        (λ motion p e lands. motion_read s h.within.place motion p
        (subst (λ y. Reaches y motion) (sym h.sized) (reaches z n motion e))
        (subst (λ y. offered y s.cursor motion ≡ Some p) (sym h.sized) lands));
    prints = λ m c h ready _ code safe.
        let s = m.surface in
        ap (λ q. fed q c) (at_ready Ready m ready) ∙ fed_ready s c code
        ∙ ap (λ t. of t Ready) (prints s c h.within.place (λ e. safe refl (e ∙ ap corner h.sized)))
        ∙ ap (λ y. of (at_cursor (drawn s c) (after y s.cursor.place)) Ready) h.sized;
    inks =
        λ m p _ ready small. ap (λ q. feeds fed q (pen_bytes p)) (at_ready Ready m ready) ∙ inks m.surface p small;
    wipes = λ m h. wipes m ∙ ap (λ y. of (wiped y) Ready) h.sized;
  }
