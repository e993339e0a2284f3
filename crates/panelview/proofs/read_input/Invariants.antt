use Rattle.std.proofs.Common.{◌≡◌, length}
use Rattle.panelview.proofs.read_input.Given as goal

-- the buffer keeps its length
abbrev pub invariant-loop : goal.invariant-loop
invariant-loop l = length l.part ≡ 4096
