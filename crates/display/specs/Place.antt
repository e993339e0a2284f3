-- Places, and their numbers.
--     On s p         the place p is on a panel of size s
--     number s p     the number of p: its row times the columns, plus its column
--     Numbered s n p p is the place on s with the number n: n divided by the columns, and what is left
use Rattle.std.specs.Prelude.{◌≡◌, ℕ, ◌+◌, ◌*◌, ◌/◌, ◌%◌, ◌<◌}
use Rattle.display.specs.declared.place.Place.{Place}
use Rattle.display.specs.declared.size.Size.{Size}

pub record On (s : Size) (p : Place) : Type 0 where
  pub row : p.row < s.rows
  pub column : p.column < s.columns

abbrev pub number : Size → Place → ℕ
number s p = p.row * s.columns + p.column

pub record Numbered (s : Size) (n : ℕ) (p : Place) : Type 0 where
  pub on : On s p
  pub is : number s p ≡ n
  pub row : p.row ≡ n / s.columns
  pub column : p.column ≡ n % s.columns
