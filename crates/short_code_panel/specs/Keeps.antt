-- Every byte leads from a meaning that the panel can have to another. Assumes nothing.
use Rattle.std.specs.Prelude.{ℕ, ◌-◌, ◌==◌, nat_lt}
use Rattle.std.proofs.Common.{arith}
use Rattle.std.proofs.lemmas.Bool.{cond_both}
use Rattle.display.specs.Cell.{Code, is_code}
use Rattle.display.specs.Steps.{above, left_of, right_of, standing}
use Rattle.display.specs.Surface.{Fits, Surface, drawn}
use Rattle.display.specs.declared.size.Size.{Size}
use Rattle.display.proofs.Codes.{true_code}
use Rattle.canvas.specs.Drawing.{new_line}
use Rattle.canvas.proofs.Fits.{fits_drawn, fits_goto, fits_inked, fits_line_fed, fits_new_line, fits_onward, fits_went, fits_wiped}
use Rattle.panel.specs.Meaning.{Meaning}
use Rattle.short_code_panel.specs.Rules.{acted, coded, fed, printed}
use Rattle.short_code_panel.specs.declared.reading.Reading.{Reading}
use Rattle.short_code_panel.specs.declared.reading.Reading.TheVariants.{Ready, Escape, Row, Column}

module _ (z : Size) (s : Surface) (k : Fits 2 z s) where
  fits_acted : (b : ℕ) → Fits 2 z (acted s b)
  fits_acted b =
      let here = s.cursor.place in
      let K = Fits 2 z in
      cond_both (b == 0x08) _ _ K (λ _. fits_went 2 z s k (left_of here 1)) λ _.
      cond_both (b == 0x0a) _ _ K (λ _. fits_line_fed 2 z s k) λ _.
      cond_both (b == 0x0b) _ _ K (λ _. fits_went 2 z s k (above here 1)) λ _.
      cond_both (b == 0x0c) _ _ K (λ _. fits_went 2 z s k (right_of s.size here 1)) λ _.
      cond_both (b == 0x0d) _ _ K (λ _. fits_goto 2 z s k here.row 0) λ _.
      cond_both (b == 0x0e) _ _ K (λ _. fits_inked 2 z s k 1 (omega arith)) λ _.
      cond_both (b == 0x0f) _ _ K (λ _. fits_inked 2 z s k 0 (omega arith)) λ _.
      cond_both (b == 0x1a) _ _ K (λ _. fits_wiped 2 z s k) λ _.
      cond_both (b == 0x1e) _ _ K (λ _. fits_goto 2 z s k 0 0) (λ _. k)

  fits_printed : (c : ℕ) → Code c → Fits 2 z (printed s c)
  fits_printed c code =
      let t = drawn s c in
      let kept = fits_drawn 2 z s k c code in
      fits_onward 2 z t kept (new_line t) (fits_new_line 2 z t kept)

  fits_coded : (r : Reading) (b : ℕ) → Code b → Fits 2 z (coded s r b).surface
  unfolding coded
  fits_coded Ready b code = fits_printed b code
  fits_coded Escape b code = k
  fits_coded Row b code = k
  fits_coded (Column r) b code = fits_went 2 z s k (standing s.size r (b - 0x20))

pub keeps : (z : Size) (m : Meaning Reading) (b : ℕ) → Fits 2 z m.surface → Fits 2 z (fed m b).surface
unfolding fed
keeps z m b k =
    let K : Meaning Reading → Type 0 = λ n. Fits 2 z n.surface in
    cond_both (is_code b) _ _ K (λ e. fits_coded z m.surface k m.mode b (true_code b e)) λ _.
    cond_both (nat_lt b 0x20) _ _ K (λ _. fits_acted z m.surface k b) (λ _. k)
