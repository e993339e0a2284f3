-- What each byte does, and that the bytes of a motion lead where it lands. Assumes nothing.
use Rattle.std.specs.Prelude.{◌≡◌, ℕ, Some, ◌≢◌}
use Rattle.std.proofs.Math.Path.{refl, ap}
use Rattle.std.proofs.Common.{◌∙◌, rules}
use Rattle.display.specs.Cell.{Code}
use Rattle.display.specs.Place.{On}
use Rattle.display.specs.Steps.{below, left_of}
use Rattle.display.specs.Surface.{Surface, moved, place_of, wiped}
use Rattle.display.specs.declared.place.Place.{Place}
use Rattle.display.proofs.Places.{below_on, left_on, when_unheld}
use Rattle.canvas.specs.Drawing.{goto, went}
use Rattle.canvas.proofs.Arrivals.{goto_return, went_on}
use Rattle.panel.specs.Meaning.{feeds, of}
use Rattle.sticking_panel.specs.Motions.{offered, spelled}
use Rattle.sticking_panel.specs.Rules.{fed, printed, ready}
use Rattle.sticking_panel.specs.declared.motions.Motion.{Motion}
use Rattle.sticking_panel.specs.declared.motions.Motion.TheVariants.{Return, Back, Feed}

module _ (s : Surface) where
  abbrev here : Place
  here = s.cursor.place

  pub fed_code : (c : ℕ) → Code c → fed (of s ready) c ≡ of (printed s c) ready
  unfolding fed
  fed_code c code = search rules

  pub fed_back : fed (of s ready) 0x08 ≡ of (went s (left_of here 1)) ready
  unfolding fed
  fed_back = refl

  pub fed_line_feed : fed (of s ready) 0x0a ≡ of (went s (below s.size here 1)) ready
  unfolding fed
  fed_line_feed = refl

  pub fed_return : fed (of s ready) 0x0d ≡ of (goto s here.row 0) ready
  unfolding fed
  fed_return = refl

  pub fed_wipe : fed (of s ready) 0x0c ≡ of (wiped s.size) ready
  unfolding fed
  fed_wipe = refl

  -- a byte that is no code and has no rule does nothing
  pub fed_ignored : (b : ℕ) → (Code b → ⊥) → (b ≢ 0x08) → (b ≢ 0x0a) → (b ≢ 0x0d) → (b ≢ 0x0c)
      → fed (of s ready) b ≡ of s ready
  unfolding fed
  fed_ignored b other back feed return wipe = search rules

  module _ (on : On s.size here) where
    there : (t : Surface) (p : Place) → t ≡ moved s p → of t ready ≡ of (moved s p) ready
    there t p e = ap (λ u. of u ready) e

    pub motion_read : (m : Motion) (p : Place) → offered s.size s.cursor m ≡ Some p
        → feeds fed (of s ready) (spelled m) ≡ of (moved s p) ready
    motion_read Return p e =
        let free = when_unheld s.cursor (Some (place_of here.row 0)) p e in
        let same : place_of here.row 0 ≡ p = cc in
        fed_return ∙ there (goto s here.row 0) p (goto_return s on ∙ ap (moved s) same)
    motion_read Back p e =
        let o = left_of here 1 in
        let free = when_unheld s.cursor o p e in
        fed_back ∙ there (went s o) p (went_on s o p free (left_on s.size here on 1 p free))
    motion_read Feed p e =
        let o = below s.size here 1 in
        let free = when_unheld s.cursor o p e in
        fed_line_feed ∙ there (went s o) p (went_on s o p free (below_on s.size here on 1 p free))
