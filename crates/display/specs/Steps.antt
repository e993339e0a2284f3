-- Steps from one place to another.
--     placed s n     the place on s with the number n, if there is one
--     standing s r c
--                    the place at row r and column c, if it is on s
--     above p n, below s p n, left_of p n, right_of s p n
--                    the place n rows above p, n rows below it, n columns to its left or to its right, if a panel of
--                    size s has such a row or column
use Rattle.std.specs.Prelude.{ℕ, ◌+◌, ◌-◌, ◌*◌, ◌/◌, ◌%◌, cond, ◌&&◌, Some, None, Option, nat_le, nat_lt}
use Rattle.display.specs.Surface.{place_of}
use Rattle.display.specs.declared.place.Place.{Place}
use Rattle.display.specs.declared.size.Size.{Size}

abbrev pub placed : Size → ℕ → Option Place
placed s n = cond (nat_lt n (s.rows * s.columns)) (Some (place_of (n / s.columns) (n % s.columns))) None

abbrev pub standing : Size → ℕ → ℕ → Option Place
standing s r c = cond (nat_lt r s.rows && nat_lt c s.columns) (Some (place_of r c)) None

abbrev pub above : Place → ℕ → Option Place
above p n = cond (nat_le n p.row) (Some (place_of (p.row - n) p.column)) None

abbrev pub below : Size → Place → ℕ → Option Place
below s p n = cond (nat_lt (p.row + n) s.rows) (Some (place_of (p.row + n) p.column)) None

abbrev pub left_of : Place → ℕ → Option Place
left_of p n = cond (nat_le n p.column) (Some (place_of p.row (p.column - n))) None

abbrev pub right_of : Size → Place → ℕ → Option Place
right_of s p n = cond (nat_lt (p.column + n) s.columns) (Some (place_of p.row (p.column + n))) None
