-- What the bytes of a control sequence do, one after the other. Assumes nothing.
use Rattle.std.proofs.Common.{◌≡◌, ℕ, ◌+◌, ◌-◌, ◌*◌, ◌/◌, ◌%◌, ◌<◌, ◌≤◌, min, false, ◌⊎◌, length, get_or, decimal, refl, rules}
use Rattle.std.proofs.lemmas.Fmt.{decimal_digit, decimal_step}
use Rattle.std.proofs.lemmas.List.{get_or-set_same, set-set}
use Rattle.display.specs.Cell.{Code}
use Rattle.display.specs.Surface.{Surface}
use Rattle.canvas.specs.Drawing.{goto, line_fed}
use Rattle.panel.specs.Meaning.{feeds, of}
use Rattle.dec_rules.specs.Reading.{digit_read, ended, next_read, none, valued}
use Rattle.dec_rules.specs.Rules.{coded, controlled, fed, is_digit, printed}
use Rattle.dec_rules.specs.declared.reading.Parameters.{Parameters}
use Rattle.dec_rules.specs.declared.reading.Reading.{Reading}
use Rattle.dec_rules.specs.declared.reading.Reading.TheVariants.{Ground, Escape, Sequence, Voided}

pub fed_code : (s : Surface) (r : Reading) (b : ℕ) → Code b → fed (of s r) b ≡ coded s r b
unfolding fed
fed_code s r b h = search rules

pub fed_ground : (s : Surface) (b : ℕ) → Code b → fed (of s Ground) b ≡ of (printed s b) Ground
unfolding coded
fed_ground s b h = search (rules, fed_code)

-- a byte that is no code and has no rule does nothing
pub fed_ignored : (s : Surface) (r : Reading) (b : ℕ) → (Code b → ⊥) → (b ≡ 0x08 → ⊥) → (b ≡ 0x0a → ⊥)
    → (b ≡ 0x0d → ⊥) → (b ≡ 0x1b → ⊥) → (b ≡ 0x18 → ⊥) → fed (of s r) b ≡ of s r
unfolding fed controlled
fed_ignored s r b other back feed return escape cancel = search rules

pub fed_back : (s : Surface) (r : Reading)
    → fed (of s r) 0x08 ≡ of (goto s s.cursor.place.row (s.cursor.place.column - 1)) r
unfolding fed controlled
fed_back s r = refl

pub fed_line_feed : (s : Surface) (r : Reading) → fed (of s r) 0x0a ≡ of (line_fed s) r
unfolding fed controlled
fed_line_feed s r = refl

pub fed_return : (s : Surface) (r : Reading) → fed (of s r) 0x0d ≡ of (goto s s.cursor.place.row 0) r
unfolding fed controlled
fed_return s r = refl

pub fed_escape : (s : Surface) (r : Reading) → fed (of s r) 0x1b ≡ of s Escape
unfolding fed controlled
fed_escape s r = refl

pub fed_cancel : (s : Surface) (r : Reading) → fed (of s r) 0x18 ≡ of s Ground
unfolding fed controlled
fed_cancel s r = refl

pub fed_open : (s : Surface) → fed (of s Escape) 0x5b ≡ of s (Sequence none)
unfolding fed coded
fed_open s = refl

pub fed_other_escape : (s : Surface) (b : ℕ) → Code b → (b ≡ 0x5b → ⊥) → fed (of s Escape) b ≡ of s Ground
unfolding fed coded
fed_other_escape s b code other = search rules

pub fed_numeral : (s : Surface) (ps : Parameters) (b : ℕ) → 0x30 ≤ b → b ≤ 0x39
    → fed (of s (Sequence ps)) b ≡ of s (Sequence (digit_read ps (b - 0x30)))
unfolding fed coded
fed_numeral s ps b low high = search rules

pub fed_digit : (s : Surface) (ps : Parameters) (d : ℕ) → d < 10
    → fed (of s (Sequence ps)) (48 + d) ≡ of s (Sequence (digit_read ps d))
fed_digit s ps d h = search (rules, fed_numeral)

pub fed_separator : (s : Surface) (ps : Parameters) → fed (of s (Sequence ps)) 0x3b ≡ of s (Sequence (next_read ps))
unfolding fed coded
fed_separator s ps = refl

not_digit : (b : ℕ) → (b < 0x30) ⊎ (0x39 < b) → is_digit b ≡ false
not_digit b past = search rules

pub fed_intermediate : (s : Surface) (ps : Parameters) (b : ℕ) → 0x20 ≤ b → b < 0x40 → (b < 0x30) ⊎ (0x39 < b)
    → (b ≡ 0x3b → ⊥) → fed (of s (Sequence ps)) b ≡ of s Voided
unfolding fed coded
fed_intermediate s ps b low high digit next = search rules

pub fed_end : (s : Surface) (ps : Parameters) (b : ℕ) → 0x40 ≤ b → b ≤ 0x7e
    → fed (of s (Sequence ps)) b ≡ of (ended s ps b) Ground
unfolding fed coded
fed_end s ps b low high = search rules

pub fed_voided : (s : Surface) (b : ℕ) → 0x20 ≤ b → b < 0x40 → fed (of s Voided) b ≡ of s Voided
unfolding fed coded
fed_voided s b low high = search rules

pub fed_voided_end : (s : Surface) (b : ℕ) → 0x40 ≤ b → b ≤ 0x7e → fed (of s Voided) b ≡ of s Ground
unfolding fed coded
fed_voided_end s b low high = search rules

-- what is read of a parameter that counts
pub digit_counts : (ps : Parameters) (d : ℕ) → ps.at < 8
    → digit_read ps d ≡ valued ps (min 999 (get_or ps.values ps.at 0 * 10 + d))
digit_counts ps d h = search rules

pub digit_dropped : (ps : Parameters) (d : ℕ) → 8 ≤ ps.at → digit_read ps d ≡ ps
digit_dropped ps d h = search rules

pub next_counts : (ps : Parameters) → ps.at < 8 → next_read ps ≡ record { values = ps.values; at = ps.at + 1 }
next_counts ps h = search rules

pub next_dropped : (ps : Parameters) → 8 ≤ ps.at → next_read ps ≡ ps
next_dropped ps h = search rules

-- the digits of n, read where nothing is written yet, write n
module _ (s : Surface) (ps : Parameters) (empty : get_or ps.values ps.at 0 ≡ 0)
    (room : ps.at < length ps.values) (few : ps.at < 8) where
  one_digit : (n : ℕ) → n < 10 → digit_read ps n ≡ valued ps n
  one_digit n h = search rules

  two_digits : (n : ℕ) → n < 100 → digit_read (valued ps (n / 10)) (n % 10) ≡ valued ps n
  two_digits n h = search (rules, get_or-set_same, set-set)

  pub number_read : (n : ℕ) → n < 100 → feeds fed (of s (Sequence ps)) (decimal n) ≡ of s (Sequence (valued ps n))
  number_read n h = search (rules, decimal_step, decimal_digit, fed_digit, one_digit, two_digits)
