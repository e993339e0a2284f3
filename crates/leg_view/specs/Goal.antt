-- What is told of a goal that is no place of a panel.
--     told o    the text of the error o
use Rattle.std.specs.Prelude.{ℕ, List, ◌++◌, codes, decimal}
use Rattle.leg_view.specs.declared.goal.Outside.{Outside}

abbrev pub told : Outside → List ℕ
told o =
    codes "the goal "
    ++ (decimal o.row
    ++ (codes " "
    ++ (decimal o.column
    ++ (codes " is not on a panel of "
    ++ (decimal o.size.rows
    ++ (codes " rows and "
    ++ (decimal o.size.columns
    ++ codes " columns")))))))
