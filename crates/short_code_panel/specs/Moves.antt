-- The bytes of a motion lead where the motion lands. Assumes nothing.
use Rattle.std.specs.Prelude.{◌≡◌, ◌<◌, Some}
use Rattle.std.proofs.Math.Path.{refl}
use Rattle.std.proofs.Common.{ap, ◌∙◌, arith, rules}
use Rattle.display.specs.Place.{On}
use Rattle.display.specs.Steps.{above, below, left_of, right_of, standing}
use Rattle.display.specs.Surface.{Surface, moved, place_of}
use Rattle.display.specs.declared.place.Place.{Place}
use Rattle.display.proofs.Places.{above_on, left_on, right_on, standing_is, when_unheld}
use Rattle.canvas.specs.Drawing.{goto, line_fed, went}
use Rattle.canvas.proofs.Arrivals.{goto_on, goto_return, line_fed_below, went_on}
use Rattle.panel.specs.Meaning.{feeds, of}
use Rattle.short_code_panel.specs.Motions.{Reaches, offered, spelled}
use Rattle.short_code_panel.specs.Rules.{addressed, coded, fed}
use Rattle.short_code_panel.specs.declared.motions.Motion.{Motion}
use Rattle.short_code_panel.specs.declared.motions.Motion.TheVariants.{Return, Back, Feed, Up, Right, Home, Address}
use Rattle.short_code_panel.specs.declared.reading.Reading.TheVariants.{Ready}

module _ (s : Surface) where
  abbrev here : Place
  here = s.cursor.place

  -- the motions of one byte
  back_read : feeds fed (of s Ready) (spelled Back) ≡ of (went s (left_of here 1)) Ready
  unfolding fed
  back_read = refl

  feed_read : feeds fed (of s Ready) (spelled Feed) ≡ of (line_fed s) Ready
  unfolding fed
  feed_read = refl

  up_read : feeds fed (of s Ready) (spelled Up) ≡ of (went s (above here 1)) Ready
  unfolding fed
  up_read = refl

  right_read : feeds fed (of s Ready) (spelled Right) ≡ of (went s (right_of s.size here 1)) Ready
  unfolding fed
  right_read = refl

  return_read : feeds fed (of s Ready) (spelled Return) ≡ of (goto s here.row 0) Ready
  unfolding fed
  return_read = refl

  home_read : feeds fed (of s Ready) (spelled Home) ≡ of (goto s 0 0) Ready
  unfolding fed
  home_read = refl

  -- ESC, = and the two coordinates
  address_read : (p : Place) → p.row < 95 → p.column < 95
      → feeds fed (of s Ready) (spelled (Address p)) ≡ of (addressed s p.row p.column) Ready
  unfolding fed coded
  address_read p low left = search rules

  module _ (on : On s.size here) where
    there : (t : Surface) (p : Place) → t ≡ moved s p → of t Ready ≡ of (moved s p) Ready
    there t p e = ap (λ u. of u Ready) e

    pub motion_read : (m : Motion) (p : Place) → Reaches s.size m → offered s.size s.cursor m ≡ Some p
        → feeds fed (of s Ready) (spelled m) ≡ of (moved s p) Ready
    motion_read Return p g e =
        let free = when_unheld s.cursor (Some (place_of here.row 0)) p e in
        let same : place_of here.row 0 ≡ p = cc in
        return_read ∙ there (goto s here.row 0) p (goto_return s on ∙ ap (moved s) same)
    motion_read Back p g e =
        let o = left_of here 1 in
        let free = when_unheld s.cursor o p e in
        back_read ∙ there (went s o) p (went_on s o p free (left_on s.size here on 1 p free))
    motion_read Feed p g e =
        feed_read ∙ there (line_fed s) p (line_fed_below s p (when_unheld s.cursor (below s.size here 1) p e))
    motion_read Up p g e =
        let o = above here 1 in
        let free = when_unheld s.cursor o p e in
        up_read ∙ there (went s o) p (went_on s o p free (above_on s.size here on 1 p free))
    motion_read Right p g e =
        let o = right_of s.size here 1 in
        let free = when_unheld s.cursor o p e in
        right_read ∙ there (went s o) p (went_on s o p free (right_on s.size here on 1 p free))
    motion_read Home p g e =
        let free = when_unheld s.cursor (Some (place_of 0 0)) p e in
        let same : place_of 0 0 ≡ p = cc in
        let high = s.size.rows_least in
        let wide = s.size.columns_least in
        home_read ∙ there (goto s 0 0) p (goto_on s (place_of 0 0) (record {
          row = omega arith;
          column = omega arith;
        }) ∙ ap (moved s) same)
    motion_read (Address q) p g e =
        let free = when_unheld s.cursor (Some q) p e in
        let same : q ≡ p = cc in
        let high = s.size.rows_most in
        let wide = s.size.columns_most in
        let low = g.row in
        let left = g.column in
        let o = standing s.size q.row q.column in
        address_read q (omega arith) (omega arith)
        ∙ there (went s o) p (went_on s o q (standing_is s.size q.row q.column low left) g
        ∙ ap (moved s) same)
