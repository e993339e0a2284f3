-- The places so far have their own numbers.
use Rattle.std.proofs.Common.{◌≡◌, ◌<◌, ℕ, length}
use Rattle.due_queue.specs.Numbering.{placed}
use Rattle.due_queue.proofs.queue.in_turn.Given as goal

abbrev pub invariant-loop-place : goal.invariant-loop-place
invariant-loop-place l = record {
  size : length l.numbers ≡ 4097;
  own : (i : ℕ) → i < l.place → placed l.numbers i ≡ i;
}
