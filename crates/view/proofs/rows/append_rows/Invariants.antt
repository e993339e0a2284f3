use Rattle.std.proofs.Common.{◌≡◌, ℕ, ◌*◌, ◌++◌, drop, length, map, take, vec_items}
use Rattle.std.specs.List.{range_with_len, flat_map}
use Rattle.display.specs.declared.cell.Glyph.{Glyph as Cell}
use Rattle.view.specs.Report.{barred}
use Rattle.view.proofs.Cut.{HasCut}
use Rattle.view.proofs.rows.append_rows.Given as goal

-- the rows that are cut off are written
abbrev pub invariant-loop-row : goal.invariant-loop-row
invariant-loop-row g l =
    HasCut l.fn.size.columns l.fn.size.rows l.picture l.row-iterator (length l.yielded)
    × ((w : Cell → ℕ) → ((x : Cell) (r : ℕ) → goal.F-post g l.write x r → r ≡ w x)
    → vec_items l.out ≡ vec_items l.initial.out
    ++ flat_map (λ r. barred (map w (take l.fn.size.columns (drop (r * l.fn.size.columns) l.picture)))) (range_with_len 0 (length l.yielded)))
