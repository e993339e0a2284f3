-- The heap has the numbers that were due before.
use Rattle.due_queue.proofs.Swaps.{shuffled_due}
use Rattle.due_queue.proofs.waking.settle.Goals as goal

pub returns-clause-due : goal.returns-clause-due
returns-clause-due g c = shuffled_due _ _ _ _ _ c.sink.ensures.shuffled c.retire-awake.ensures.due
