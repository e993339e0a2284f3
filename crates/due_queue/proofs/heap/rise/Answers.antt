-- The number has changed places with its parent.
use Rattle.std.proofs.Common.{◌+◌, ◌<◌, arith, length}
use Rattle.due_queue.specs.Numbering.{Shuffled, placed}
use Rattle.due_queue.proofs.Heaps.{earlier, rises_first, risen}
use Rattle.due_queue.proofs.Swaps.{shuffled_due, still, swap_shuffles, swapped, then_shuffled}
use Rattle.due_queue.proofs.heap.rise.Goals as goal

pub loop-parent-init : goal.loop-parent-init
loop-parent-init g c = record {
  within = omega arith;
  due = c.requires.due;
  rises = rises_first _ _ c.args.awake c.requires.heap;
  shuffled = still _ _ _;
}

pub loop-parent-preserved : goal.loop-parent-preserved
loop-parent-preserved g c =
    let n = length c.args.numbers.now in
    let e = c.args.awake + 1 in
    let child = c.in-Some.ensures.0 in
    let w = swapped _ _ _ _ c.swap.ensures.by_index in
    let l : c.in-Some.parent < c.loop-parent.place = earlier _ _ child in
    let shuffles : Shuffled n (placed c.loop-parent.numbers) (placed c.swap.new.self) e =
    swap_shuffles n _ _ _ _ (omega arith) (omega arith) w e (omega arith) (omega arith) in
    record {
      within = omega arith;
      due = shuffled_due _ n _ _ e shuffles c.loop-parent.invariant.due;
      rises = risen _ _ _ e (g.R.Rank.Due c.args.rank.now) (g.met.R.Rank.laws c.args.rank.now c.requires.sound)
          c.loop-parent.invariant.due _ _ (omega arith) w c.loop-parent.invariant.rises child c.in-Some.ensures.1;
      shuffled = then_shuffled n _ _ _ e c.loop-parent.invariant.shuffled shuffles;
    }
