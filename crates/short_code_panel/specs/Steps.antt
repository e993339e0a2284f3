-- What each byte does. Assumes nothing.
use Rattle.std.specs.Prelude.{◌≡◌, ℕ, ◌-◌, ◌<◌, ◌≤◌, ◌==◌, ◌≢◌, nat_lt, refl}
use Rattle.std.proofs.Common.{ap, ◌∙◌, arith, rules}
use Rattle.std.proofs.lemmas.Bool.{cond-false, cond-true, lt-ltb, ne_eqb}
use Rattle.display.specs.Cell.{Code, is_code}
use Rattle.display.specs.Surface.{Surface}
use Rattle.display.proofs.Codes.{not_code}
use Rattle.panel.specs.Meaning.{of}
use Rattle.short_code_panel.specs.Rules.{acted, addressed, coded, fed, printed}
use Rattle.short_code_panel.specs.declared.reading.Reading.{Reading}
use Rattle.short_code_panel.specs.declared.reading.Reading.TheVariants.{Ready, Escape, Row, Column}

pub fed_code : (s : Surface) (r : Reading) (b : ℕ) → Code b → fed (of s r) b ≡ coded s r b
unfolding fed
fed_code s r b code = search rules

pub fed_ready : (s : Surface) (b : ℕ) → Code b → fed (of s Ready) b ≡ of (printed s b) Ready
unfolding coded
fed_ready s b code = fed_code s Ready b code

pub fed_equals : (s : Surface) → fed (of s Escape) 0x3d ≡ of s Row
unfolding fed coded
fed_equals s = refl

pub fed_other_escape : (s : Surface) (b : ℕ) → Code b → (b ≢ 0x3d) → fed (of s Escape) b ≡ of s Ready
unfolding fed coded
fed_other_escape s b code other = search rules

pub fed_row : (s : Surface) (b : ℕ) → Code b → fed (of s Row) b ≡ of s (Column (b - 0x20))
unfolding coded
fed_row s b code = fed_code s Row b code

pub fed_column : (s : Surface) (r b : ℕ) → Code b → fed (of s (Column r)) b ≡ of (addressed s r (b - 0x20)) Ready
unfolding coded
fed_column s r b code = fed_code s (Column r) b code

below_code : (b : ℕ) → b < 0x20 → Code b → ⊥
below_code b h code = let low = code.least in omega arith

-- a byte below 20h ends a sequence, and ESC begins one
pub fed_control : (s : Surface) (r : Reading) (b : ℕ) → b < 0x20 → (b ≢ 0x1b)
    → fed (of s r) b ≡ of (acted s b) Ready
unfolding fed
fed_control s r b low other =
    cond-false (is_code b) _ _ (not_code b (below_code b low)) ∙ cond-true (nat_lt b 0x20) _ _ (lt-ltb b 0x20 low)
    ∙ ap (of (acted s b)) (cond-false (b == 0x1b) Escape Ready (ne_eqb b 0x1b other))

pub fed_escape : (s : Surface) (r : Reading) → fed (of s r) 0x1b ≡ of s Escape
unfolding fed
fed_escape s r = refl

-- 7Fh and above do nothing
pub fed_high : (s : Surface) (r : Reading) (b : ℕ) → (Code b → ⊥) → 0x20 ≤ b → fed (of s r) b ≡ of s r
unfolding fed
fed_high s r b other high = search rules
