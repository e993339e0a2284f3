-- Two places have changed their numbers.
use Rattle.std.proofs.Common.{arith, length}
use Rattle.due_queue.proofs.Swaps.{swap_shuffles, swapped}
use Rattle.due_queue.proofs.waking.retire.Goals as goal

pub returns-clause-numbering : goal.returns-clause-numbering
returns-clause-numbering g c =
    (swap_shuffles (length c.args.numbers.now) _ _ _ _ (omega arith) (omega arith)
    (swapped _ _ _ _ c.swap.ensures.by_index) c.args.awake (omega arith) (omega arith)).numbering c.requires.numbering
