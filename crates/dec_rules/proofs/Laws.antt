-- A panel that follows the rules is lawful, whatever its size. Assumes nothing.
use Rattle.std.proofs.Common.{◌≡◌, ℕ, zero, suc, ◌<◌, false, sym, refl, subst, ⊎_elim, arith, rules}
use Rattle.std.proofs.lemmas.Bool.{cases_eq}
use Rattle.display.specs.Cell.{Code}
use Rattle.display.specs.Surface.{Surface, at_cursor, drawn, inked, moved, wiped}
use Rattle.display.specs.declared.size.Size.{Size}
use Rattle.canvas.specs.Drawing.{cleared, cut}
use Rattle.panel.specs.Lawful.{Lawful}
use Rattle.panel.specs.Meaning.{Meaning, feeds, of}
use Rattle.panel.proofs.Motions.{named_moves}
use Rattle.panel.proofs.Soundness.{sound_of}
use Rattle.dec_rules.specs.Motions.{answers, numbered, offered, spelled}
use Rattle.dec_rules.specs.Pens.{pen_bytes, wipe}
use Rattle.dec_rules.specs.Reading.{ended}
use Rattle.dec_rules.specs.Rules.{after, coded, controlled, fed, printed}
use Rattle.dec_rules.specs.declared.reading.Reading.{Reading}
use Rattle.dec_rules.specs.declared.reading.Reading.TheVariants.{Ground}
use Rattle.dec_rules.proofs.Bounds.{bounded}
use Rattle.dec_rules.proofs.Keeps.{keeps}
use Rattle.dec_rules.proofs.Moves.{motion_read}
use Rattle.dec_rules.proofs.Numbers.{good}
use Rattle.dec_rules.proofs.Steps.{fed_ground}

-- what holds at each number below n
abbrev Upto : ℕ → (ℕ → Type 0) → Type 0
Upto zero P = Unit {0}
Upto (suc n) P = Upto n P × P n

below : (P : ℕ → Type 0) (n : ℕ) → Upto n P → (k : ℕ) → k < n → P k
below P zero all k h = absurd (omega arith)
below P (suc n) all k h =
    ⊎_elim (λ e. subst P (sym e) all.1) (λ ne. below P n all.0 k (omega arith)) (cases_eq k n)

-- each pen's bytes, computed
inks : (s : Surface) (p : ℕ) → p < 16 → feeds fed (of s Ground) (pen_bytes p) ≡ of (inked s p) Ground
unfolding fed controlled coded ended
inks s = below (λ p. feeds fed (of s Ground) (pen_bytes p) ≡ of (inked s p) Ground) 16 (search rules)

wipe_read : (m : Meaning Reading)
    → feeds fed m wipe ≡ of (moved (cleared (inked m.surface 0)) (cut m.surface.size 0 0)) Ground
unfolding fed controlled coded ended
wipe_read m = refl

wipes : (m : Meaning Reading) → feeds fed m wipe ≡ of (wiped m.surface.size) Ground
wipes m = search (rules, wipe_read)

prints : (s : Surface) (c : ℕ) → s.cursor.held ≡ false → Code c
    → fed (of s Ground) c ≡ of (at_cursor (drawn s c) (after s.size s.cursor.place)) Ground
unfolding printed
prints s c free code = search (rules, fed_ground)

module _ (z : Size) where
  pub lawful : Lawful Ground (answers z) fed
  lawful = record {
    bounded = bounded z;
    keeps = λ m b k. search (rules, sound_of, keeps);
    moves = λ m n h.
        named_moves Ground (numbered z) (offered z) spelled fed m n
        (λ motion p e lands. motion_read m.surface h.within.place motion p (rw h.sized (good z n motion e))
        (rw h.sized lands));
    prints = λ m c h ready free code _. let printed = prints m.surface c free code in search rules;
    inks = λ m p h ready small. search (rules, inks);
    wipes = λ m h. search (rules, wipes);
  }
