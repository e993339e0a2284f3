-- One place more has its own number.
use Rattle.std.proofs.Common.{◌∙◌, arith}
use Rattle.std.proofs.Math.ListN.{length-set}
use Rattle.due_queue.proofs.Queues.{turn}
use Rattle.due_queue.proofs.queue.in_turn.Goals as goal

pub loop-place-preserved : goal.loop-place-preserved
loop-place-preserved c = record {
  size = length-set _ _ _ ∙ c.loop-place.invariant.size;
  own = turn c.loop-place.numbers c.loop-place.place (omega arith) c.loop-place.invariant.own;
}
