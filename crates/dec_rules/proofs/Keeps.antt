-- Every byte leads from a meaning that the panel can have to another. Assumes nothing.
use Rattle.std.proofs.Common.{ℕ, ◌+◌, ◌<◌, List, [], ◌∷◌, take, fold, rules}
use Rattle.std.proofs.lemmas.Nat.{or_lt}
use Rattle.display.specs.Cell.{Code}
use Rattle.display.specs.Surface.{Fits, Surface}
use Rattle.display.specs.declared.size.Size.{Size}
use Rattle.canvas.proofs.Fits.{fits_cleared, fits_drawn, fits_goto, fits_inked, fits_line_fed, fits_new_line}
use Rattle.panel.specs.Meaning.{Meaning}
use Rattle.dec_rules.specs.Reading.{ended, pen_after, pen_by}
use Rattle.dec_rules.specs.Rules.{coded, controlled, fed, printed, wrapped}
use Rattle.dec_rules.specs.declared.reading.Parameters.{Parameters}
use Rattle.dec_rules.specs.declared.reading.Reading.{Reading}

pen_after_small : (p v : ℕ) → p < 16 → pen_after p v < 16
pen_after_small p v h = search (rules, or_lt 4 p 1, or_lt 4 p 2, or_lt 4 p 4, or_lt 4 p 8)

pens_small : (p : ℕ) (vs : List ℕ) → p < 16 → fold pen_after p vs < 16
pens_small p [] h = h
pens_small p (v ∷ vs) h = pens_small (pen_after p v) vs (pen_after_small p v h)

module _ (z : Size) where
  fits_ended : (s : Surface) → Fits 16 z s → (ps : Parameters) (b : ℕ) → Fits 16 z (ended s ps b)
  unfolding ended
  fits_ended s k ps b =
      let to = fits_goto 16 z s k in
      let clear = fits_cleared 16 z s k in
      let ink = fits_inked 16 z s k (pen_by s.pen ps) (pens_small s.pen (take (ps.at + 1) ps.values) k.within.pen) in
      search rules

  fits_printed : (s : Surface) → Fits 16 z s → (c : ℕ) → Code c → Fits 16 z (printed s c)
  unfolding printed
  fits_printed s k c code =
      let next = fits_new_line 16 z s k in
      let drew = fits_drawn 16 z (wrapped s) (search rules) c code in
      search rules

  fits_coded : (s : Surface) → Fits 16 z s → (r : Reading) (b : ℕ) → Code b → Fits 16 z (coded s r b).surface
  unfolding coded
  fits_coded s k r b code = search (rules, fits_printed, fits_ended)

  pub keeps : (m : Meaning Reading) (b : ℕ) → Fits 16 z m.surface → Fits 16 z (fed m b).surface
  unfolding fed controlled
  keeps m b k =
      let to = fits_goto 16 z m.surface k in
      let down = fits_line_fed 16 z m.surface k in
      search (rules, fits_coded)
