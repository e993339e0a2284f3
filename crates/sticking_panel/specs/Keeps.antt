-- Every byte leads from a meaning that the panel can have to another. Assumes nothing.
use Rattle.std.specs.Prelude.{ℕ, ◌==◌}
use Rattle.std.proofs.lemmas.Bool.{cond_both}
use Rattle.display.specs.Cell.{is_code}
use Rattle.display.specs.Steps.{below, left_of}
use Rattle.display.specs.Surface.{Fits, Surface, drawn}
use Rattle.display.specs.declared.size.Size.{Size}
use Rattle.display.proofs.Codes.{true_code}
use Rattle.canvas.proofs.Fits.{fits_drawn, fits_goto, fits_onward, fits_went, fits_wiped}
use Rattle.panel.specs.Meaning.{Meaning}
use Rattle.sticking_panel.specs.Rules.{Reading, controlled, fed}

module _ (z : Size) where
  -- test by test: the search was tried on the whole, and does not close it
  fits_controlled : (s : Surface) → Fits 1 z s → (b : ℕ) → Fits 1 z (controlled s b)
  fits_controlled s k b =
      let here = s.cursor.place in
      cond_both (b == 0x08) _ _ (Fits 1 z) (λ _. fits_went 1 z s k (left_of here 1)) λ _.
      cond_both (b == 0x0a) _ _ (Fits 1 z) (λ _. fits_went 1 z s k (below s.size here 1)) λ _.
      cond_both (b == 0x0d) _ _ (Fits 1 z) (λ _. fits_goto 1 z s k here.row 0) λ _.
      cond_both (b == 0x0c) _ _ (Fits 1 z) (λ _. fits_wiped 1 z s k) (λ _. k)

  pub keeps : (m : Meaning Reading) (b : ℕ) → Fits 1 z m.surface → Fits 1 z (fed m b).surface
  unfolding fed
  keeps m b k =
      let s = m.surface in
      let t = drawn s b in
      cond_both (is_code b) _ _ (Fits 1 z)
      (λ e. let kept = fits_drawn 1 z s k b (true_code b e) in fits_onward 1 z t kept t kept)
      (λ _. fits_controlled s k b)
