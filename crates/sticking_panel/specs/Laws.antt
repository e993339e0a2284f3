-- A panel that follows the rules is lawful, whatever its size. Assumes nothing.
use Rattle.std.specs.Prelude.{◌≡◌, ℕ, ◌<◌, ◌≤◌, false, length, Some, None, ◌≢◌}
use Rattle.std.proofs.Common.{sym, ap, ◌∙◌, subst, arith, rules}
use Rattle.display.specs.Cell.{Code}
use Rattle.display.specs.Place.{On}
use Rattle.display.specs.Surface.{Surface, at_cursor, drawn, inked, resting, wiped}
use Rattle.display.specs.declared.place.Cursor.{Cursor}
use Rattle.display.specs.declared.place.Place.{Place}
use Rattle.display.specs.declared.size.Size.{Size}
use Rattle.display.proofs.Places.{stepped_on}
use Rattle.panel.specs.Answers.{Bounded}
use Rattle.panel.specs.Lawful.{Lawful}
use Rattle.panel.specs.Meaning.{of}
use Rattle.panel.proofs.Motions.{Named, named_least, named_most, named_moves, named_on, named_past}
use Rattle.panel.proofs.Soundness.{fits_of, sound_of}
use Rattle.sticking_panel.specs.Motions.{answers, numbered, offered, spelled}
use Rattle.sticking_panel.specs.Rules.{after, fed, ready}
use Rattle.sticking_panel.specs.declared.motions.Motion.{Motion}
use Rattle.sticking_panel.specs.Keeps.{keeps}
use Rattle.sticking_panel.specs.Moves.{fed_wipe, motion_read}

offered_on : (z : Size) (m : Motion) (k : Cursor) (p : Place) → On z k.place → offered z k m ≡ Some p → On z p
offered_on z m k p on e = search rules

one_byte : (m : Motion) → length (spelled m) ≡ 1
one_byte m = search rules

some : (n : ℕ) → n < 3 → numbered n ≢ None
some n h e = search rules

none : (n : ℕ) → 3 ≤ n → numbered n ≡ None
none n h = search rules

prints : (s : Surface) (c : ℕ) → s.cursor.held ≡ false → Code c
    → fed (of s ready) c ≡ of (at_cursor (drawn s c) (after s.size s.cursor.place)) ready
unfolding fed
prints s c free code = search rules

module _ (z : Size) where
  named : Named z 3 numbered (offered z) spelled
  named = record {
    some = some;
    none = none;
    on = λ n m k p _ on lands. offered_on z m k p on lands;
    least = λ n m _. let one = one_byte m in omega arith;
    most = λ n m _. let one = one_byte m in omega arith;
  }

  bounded : Bounded (answers z)
  bounded = record {
    some_pen = omega arith;
    few_pens = omega arith;
    few_motions = omega arith;
    numbered = named_past named;
    lands_on = named_on named;
    some_bytes = named_least named;
    few_bytes = named_most named;
    short_delay = λ n h. omega arith;
    after_next = λ p on more. search rules;
    after_on = λ p on. stepped_on z p (resting p) on on;
    few_pen_bytes = λ p h. omega arith;
    few_wipe_bytes = omega arith;
  }

  pub lawful : Lawful ready (answers z) fed
  lawful = record {
    bounded = bounded;
    keeps = λ m b k. sound_of (answers z) (fed m b) (keeps z m b (fits_of (answers z) m k));
    moves = λ m n h.
        let s = m.surface in
        named_moves ready numbered (offered z) spelled fed m n
        (λ motion p _ lands. motion_read s h.within.place motion p
        (subst (λ y. offered y s.cursor motion ≡ Some p) (sym h.sized) lands));
    prints = λ m c h _ free code _.
        prints m.surface c free code
        ∙ ap (λ y. of (at_cursor (drawn m.surface c) (after y m.surface.cursor.place)) ready) h.sized;
    inks = λ m p h _ small.
        let pen = h.within.pen in
        let same : m.surface.pen ≡ p = omega arith in
        ap (λ q. of (inked m.surface q) ready) same;
    wipes = λ m h. fed_wipe m.surface ∙ ap (λ y. of (wiped y) ready) h.sized;
  }
