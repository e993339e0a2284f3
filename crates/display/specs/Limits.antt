-- The sizes that a panel may have.
--     Allowed r c    r rows and c columns make a panel: 1 to 24 rows, 2 to 80 columns
use Rattle.std.specs.Prelude.{ℕ, ◌≤◌}

pub record Allowed (rows columns : ℕ) : Type 0 where
  pub rows_least : 1 ≤ rows
  pub rows_most : rows ≤ 24
  pub columns_least : 2 ≤ columns
  pub columns_most : columns ≤ 80
