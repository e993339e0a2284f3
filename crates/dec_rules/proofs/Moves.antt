-- The bytes of a motion lead where the motion lands. Assumes nothing.
use Rattle.std.proofs.Common.{◌≡◌, ℕ, ◌+◌, ◌-◌, ◌<◌, ◌≤◌, Some, refl, rules}
use Rattle.display.specs.Place.{On}
use Rattle.display.specs.Surface.{Surface, moved}
use Rattle.display.specs.declared.place.Place.{Place}
use Rattle.canvas.specs.Drawing.{goto}
use Rattle.panel.specs.Meaning.{feeds, of}
use Rattle.panel.proofs.Feeds.{feeds_append}
use Rattle.dec_rules.specs.Motions.{offered, relative, spelled}
use Rattle.dec_rules.specs.Reading.{ended, first, second}
use Rattle.dec_rules.specs.Rules.{coded, fed}
use Rattle.dec_rules.specs.declared.motion.Motion.{Motion}
use Rattle.dec_rules.specs.declared.motion.Motion.TheVariants.{Address}
use Rattle.dec_rules.specs.declared.reading.Parameters.{Parameters}
use Rattle.dec_rules.specs.declared.reading.Reading.TheVariants.{Ground, Sequence}
use Rattle.dec_rules.proofs.Numbers.{Good}
use Rattle.dec_rules.proofs.Steps.{fed_back, fed_escape, fed_line_feed, fed_open, fed_return, fed_separator, number_read}

-- a relative motion does what its letter does with the count
relative_read : (s : Surface) (n letter : ℕ) (E : ℕ → Surface)
    → ((ps : Parameters) → fed (of s (Sequence ps)) letter ≡ of (E (first ps)) Ground)
    → 1 ≤ n → n < 100 → feeds fed (of s Ground) (relative n letter) ≡ of (E n) Ground
relative_read s n letter E does some few = search (rules, fed_escape, fed_open, feeds_append, number_read)

module _ (s : Surface) where
  abbrev row : ℕ
  row = s.cursor.place.row

  abbrev column : ℕ
  column = s.cursor.place.column

  up_read : (n : ℕ) → 1 ≤ n → n < 100 → feeds fed (of s Ground) (relative n 65) ≡ of (goto s (row - n) column) Ground
  unfolding fed coded ended
  up_read n = relative_read s n 65 (λ k. goto s (row - k) column) (λ ps. refl)

  down_read : (n : ℕ) → 1 ≤ n → n < 100 → feeds fed (of s Ground) (relative n 66) ≡ of (goto s (row + n) column) Ground
  unfolding fed coded ended
  down_read n = relative_read s n 66 (λ k. goto s (row + k) column) (λ ps. refl)

  right_read : (n : ℕ) → 1 ≤ n → n < 100
      → feeds fed (of s Ground) (relative n 67) ≡ of (goto s row (column + n)) Ground
  unfolding fed coded ended
  right_read n = relative_read s n 67 (λ k. goto s row (column + k)) (λ ps. refl)

  left_read : (n : ℕ) → 1 ≤ n → n < 100 → feeds fed (of s Ground) (relative n 68) ≡ of (goto s row (column - n)) Ground
  unfolding fed coded ended
  left_read n = relative_read s n 68 (λ k. goto s row (column - k)) (λ ps. refl)

  home_read : (ps : Parameters) → fed (of s (Sequence ps)) 72 ≡ of (goto s (first ps - 1) (second ps - 1)) Ground
  unfolding fed coded ended
  home_read ps = refl

  address_read : (p : Place) → p.row + 1 < 100 → p.column + 1 < 100
      → feeds fed (of s Ground) (spelled (Address p)) ≡ of (goto s p.row p.column) Ground
  address_read p few_rows few_columns = search (rules, fed_escape, fed_open, feeds_append, number_read, fed_separator, home_read)

  pub motion_read : On s.size s.cursor.place → (m : Motion) (p : Place) → Good s.size m
      → offered s.size s.cursor m ≡ Some p → feeds fed (of s Ground) (spelled m) ≡ of (moved s p) Ground
  motion_read on m p g e =
      search (rules, fed_return, fed_back, fed_line_feed, up_read, down_read, right_read, left_read, address_read)
