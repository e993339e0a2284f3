-- Numbers in their turn are a numbering.
use Rattle.std.proofs.Common.{arith}
use Rattle.due_queue.proofs.Queues.{numbered_in_turn}
use Rattle.due_queue.proofs.queue.Queue.new.Goals as goal

pub invariant_of-result : goal.invariant_of-result
invariant_of-result c = record {
  few = omega arith;
  within = omega arith;
  numbering = numbered_in_turn _ _ (λ i lt. c.in_turn.ensures i (omega arith));
}
