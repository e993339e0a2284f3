-- So many cells are laid out.
use Rattle.std.proofs.Common.{◌≡◌, ◌≤◌, replicate}
use Rattle.screen.specs.Calls.{copied}
use Rattle.screen.proofs.cells.lay_out.Given as goal

abbrev pub invariant-loop-place : goal.invariant-loop-place
invariant-loop-place g l =
    (l.place ≤ l.places) × (l.picture ≡ copied l.place (replicate l.place l.cell) l.fn.picture)
