-- The places so far are not as told.
use Rattle.std.proofs.Common.{◌≡◌, ℕ, ◌<◌, ◌≤◌, map, not}
use Rattle.runs.specs.Runs.{differs}
use Rattle.runs.proofs.next.first_where.Given as goal

abbrev pub invariant-loop-number : goal.invariant-loop-number
invariant-loop-number g l = (j : ℕ) → l.from ≤ j → j < l.number
    → differs (map g.C.Cell.glyph l.shown) (map g.C.Cell.glyph l.wanted) j ≡ not l.differing
