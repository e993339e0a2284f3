-- The limits that the answers keep. Assumes nothing.
use Rattle.std.proofs.Common.{◌≡◌, ℕ, ◌+◌, ◌*◌, ◌<◌, ◌≤◌, cond, eqb, List, [], length, Some, decimal, rules, length-append}
use Rattle.std.proofs.lemmas.Nat.{mul-le}
use Rattle.std.proofs.lemmas.Fmt.{length-decimal-le}
use Rattle.display.specs.Place.{On}
use Rattle.display.specs.declared.place.Cursor.{Cursor}
use Rattle.display.specs.declared.place.Place.{Place}
use Rattle.display.specs.declared.size.Size.{Size}
use Rattle.panel.specs.Answers.{Bounded}
use Rattle.panel.proofs.Motions.{Named, named_least, named_most, named_on, named_past}
use Rattle.dec_rules.specs.Motions.{answers, numbered, offered, relative, spelled, takes}
use Rattle.dec_rules.specs.Pens.{attribute, pen_bytes}
use Rattle.dec_rules.specs.declared.motion.Motion.{Motion}
use Rattle.dec_rules.specs.declared.motion.Motion.TheVariants.{Address}
use Rattle.dec_rules.proofs.Numbers.{Good, good, numbered_not_none, numbered_past, numbered_some}

-- a byte string that is neither empty nor long
abbrev pub Short : List ℕ → Type 0
Short bs = (1 ≤ length bs) × (length bs ≤ 16)

number_short : (n : ℕ) → n < 1000 → length (decimal n) ≤ 3
number_short n h = search (rules, length-decimal-le)

count_short : (n : ℕ) → n < 1000 → length (cond (eqb n 1) [] (decimal n)) ≤ 3
count_short n h = search (rules, number_short)

pub relative_short : (n letter : ℕ) → n < 1000 → Short (relative n letter)
relative_short n letter h = search (rules, count_short, length-append)

pub address_short : (p : Place) → p.row + 1 < 1000 → p.column + 1 < 1000 → Short (spelled (Address p))
address_short p low left = search (rules, number_short, length-append)

spelled_short : (z : Size) (m : Motion) → Good z m → Short (spelled m)
spelled_short z m g = search (rules, relative_short, address_short)

takes_little : (m : Motion) → takes m ≤ 1000
takes_little m = search rules

offered_on : (z : Size) (k : Cursor) (m : Motion) (p : Place) → On z k.place → Good z m → offered z k m ≡ Some p
    → On z p
offered_on z k m p on g e = search rules

attribute_short : (p bit v : ℕ) → length (attribute p bit v) ≤ 2
attribute_short p bit v = search rules

pub pen_short : (p : ℕ) → length (pen_bytes p) ≤ 16
pen_short p = search (rules, attribute_short, length-append)

module _ (z : Size) where
  pub of_number : (P : Motion → Type 0) (n : ℕ) → n < 207 + z.rows * z.columns → ((m : Motion) → Good z m → P m)
      → (m : Motion) × (numbered z n ≡ Some m) × P m
  of_number P n h each = let (m, e) = numbered_some z n h in (m, e, each m (good z n m e))

  named : Named z (207 + z.rows * z.columns) (numbered z) (offered z) spelled
  named = record {
    some = numbered_not_none z;
    none = numbered_past z;
    on = λ n m k p e on lands. offered_on z k m p on (good z n m e) lands;
    least = λ n m e. (spelled_short z m (good z n m e)).0;
    most = λ n m e. (spelled_short z m (good z n m e)).1;
  }

  pub bounded : Bounded (answers z)
  bounded = search (rules, mul-le, named_past named, named_on named, named_least named, named_most named, pen_short)
