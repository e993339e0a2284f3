-- The limits that the answers keep. Assumes nothing.
use Rattle.std.specs.Prelude.{◌≡◌, ◌+◌, ◌*◌, ◌≤◌, length, Some}
use Rattle.std.proofs.Common.{arith, rules}
use Rattle.std.proofs.lemmas.Nat.{mul-le}
use Rattle.display.specs.Place.{On}
use Rattle.display.specs.Surface.{resting}
use Rattle.display.specs.declared.place.Cursor.{Cursor}
use Rattle.display.specs.declared.place.Place.{Place}
use Rattle.display.specs.declared.size.Size.{Size}
use Rattle.display.proofs.Places.{stepped_on}
use Rattle.panel.specs.Answers.{Bounded, answered}
use Rattle.panel.proofs.Motions.{Named, by_case, named_least, named_most, named_on, named_past}
use Rattle.short_code_panel.specs.Motions.{Reaches, answers, numbered, offered, spelled, takes}
use Rattle.short_code_panel.specs.Rules.{next_row}
use Rattle.short_code_panel.specs.declared.motions.Motion.{Motion}
use Rattle.short_code_panel.specs.Numbers.{numbered_past, numbered_some, reaches}

offered_on : (z : Size) (m : Motion) (k : Cursor) (p : Place) → On z k.place → Reaches z m → offered z k m ≡ Some p
    → On z p
offered_on z m k p on g e = search rules

some_byte : (m : Motion) → 1 ≤ length (spelled m)
some_byte m = search rules

few_bytes : (m : Motion) → length (spelled m) ≤ 16
few_bytes m = search rules

takes_little : (m : Motion) → takes m ≤ 1000
takes_little m = search rules

next_row_on : (z : Size) (p : Place) → On z p → On z (next_row z p)
next_row_on z p on = search rules

module _ (z : Size) where
  named : Named z (6 + z.rows * z.columns) (numbered z) (offered z) spelled
  named = record {
    some = numbered_some z;
    none = numbered_past z;
    on = λ n m k p e on lands. offered_on z m k p on (reaches z n m e) lands;
    least = λ n m _. some_byte m;
    most = λ n m _. few_bytes m;
  }

  pub bounded : Bounded (answers z)
  bounded =
      let size = mul-le z.rows z.columns 24 80 z.rows_most z.columns_most in
      record {
        some_pen = omega arith;
        few_pens = omega arith;
        few_motions = omega arith;
        numbered = named_past named;
        lands_on = named_on named;
        some_bytes = named_least named;
        few_bytes = named_most named;
        short_delay =
            λ n h. by_case (numbered z n) (λ o. answered 0 takes o ≤ 1000) (λ m _. takes_little m) (λ _. omega arith);
        after_next = λ p on more. search rules;
        after_on = λ p on. stepped_on z p (resting (next_row z p)) on (next_row_on z p on);
        few_pen_bytes = λ p h. search rules;
        few_wipe_bytes = omega arith;
      }
