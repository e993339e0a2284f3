-- The size that a program is asked for.
--     Reads bs n           bs is n in decimal, after a plus perhaps
--     Asked k r c z        the three words ask for a panel of size z
use Rattle.std.specs.Prelude.{◌≡◌, ℕ, List, codes}
use Rattle.std.specs.Str.Parse.{IsNumeral, without_leading_plus, digits_value}
use Rattle.display.specs.declared.size.Size.{Size}

pub record Reads (bs : List ℕ) (n : ℕ) : Type 0 where
  pub numeral : IsNumeral 10 (without_leading_plus bs)
  pub is : digits_value 10 (without_leading_plus bs) ≡ n

pub record Asked (k r c : List ℕ) (z : Size) : Type 0 where
  pub kind : k ≡ codes "D"
  pub rows : Reads r z.rows
  pub columns : Reads c z.columns
