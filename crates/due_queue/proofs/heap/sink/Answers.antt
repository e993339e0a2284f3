-- The number has changed places with its first child.
use Rattle.std.proofs.Common.{◌<◌, arith, length}
use Rattle.due_queue.specs.Numbering.{Shuffled, placed}
use Rattle.due_queue.proofs.Heaps.{earlier, sunk}
use Rattle.due_queue.proofs.Swaps.{shuffled_due, swap_shuffles, swapped, then_shuffled}
use Rattle.due_queue.proofs.heap.sink.Goals as goal

pub loop-child-preserved : goal.loop-child-preserved
loop-child-preserved g c =
    let n = length c.args.numbers.now in
    let e = c.args.awake in
    let first = c.in-Some.ensures.0 in
    let w = swapped _ _ _ _ c.swap.ensures.by_index in
    let l : c.loop-child.place < c.in-Some.child = earlier _ _ first.child in
    let in_awake = first.within in
    let shuffles : Shuffled n (placed c.loop-child.numbers) (placed c.swap.new.self) e =
    swap_shuffles n _ _ _ _ (omega arith) (omega arith) w e (omega arith) (omega arith) in
    record {
      within = omega arith;
      due = shuffled_due _ n _ _ e shuffles c.loop-child.invariant.due;
      sinks = sunk _ _ _ e _ _ w c.loop-child.invariant.sinks first c.in-Some.ensures.1;
      shuffled = then_shuffled n _ _ _ e c.loop-child.invariant.shuffled shuffles;
    }
