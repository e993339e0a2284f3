-- The ends of a sequence, one by one. Assumes nothing.
use Rattle.std.proofs.Common.{◌≡◌, ℕ, ◌+◌, ◌-◌, get_or, refl, rules}
use Rattle.display.specs.Surface.{Surface, inked, moved}
use Rattle.canvas.specs.Drawing.{cleared, goto}
use Rattle.dec_rules.specs.Reading.{ended, first, pen_by, second}
use Rattle.dec_rules.specs.declared.reading.Parameters.{Parameters}

module _ (s : Surface) (ps : Parameters) where
  pub ended_up : ended s ps 0x41 ≡ goto s (s.cursor.place.row - first ps) s.cursor.place.column
  unfolding ended
  ended_up = refl

  pub ended_down : ended s ps 0x42 ≡ goto s (s.cursor.place.row + first ps) s.cursor.place.column
  unfolding ended
  ended_down = refl

  pub ended_right : ended s ps 0x43 ≡ goto s s.cursor.place.row (s.cursor.place.column + first ps)
  unfolding ended
  ended_right = refl

  pub ended_left : ended s ps 0x44 ≡ goto s s.cursor.place.row (s.cursor.place.column - first ps)
  unfolding ended
  ended_left = refl

  pub ended_home : ended s ps 0x48 ≡ goto s (first ps - 1) (second ps - 1)
  unfolding ended
  ended_home = refl

  pub ended_clear : get_or ps.values 0 0 ≡ 2 → ended s ps 0x4a ≡ moved (cleared s) s.cursor.place
  unfolding ended
  ended_clear e = search rules

  pub ended_keep : (get_or ps.values 0 0 ≡ 2 → ⊥) → ended s ps 0x4a ≡ s
  unfolding ended
  ended_keep ne = search rules

  pub ended_pen : ended s ps 0x6d ≡ inked s (pen_by s.pen ps)
  unfolding ended
  ended_pen = refl

  -- every other end does nothing
  pub ended_other : (b : ℕ) → (b ≡ 0x41 → ⊥) → (b ≡ 0x42 → ⊥) → (b ≡ 0x43 → ⊥) → (b ≡ 0x44 → ⊥) → (b ≡ 0x48 → ⊥)
      → (b ≡ 0x4a → ⊥) → (b ≡ 0x6d → ⊥) → ended s ps b ≡ s
  unfolding ended
  ended_other b a up down left home clear pen = search rules
