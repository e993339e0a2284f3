-- The number on its way up is the only one that may be too late.
use Rattle.std.proofs.Common.{◌≤◌, ◌+◌, length}
use Rattle.due_queue.specs.Awake.{AllDue}
use Rattle.due_queue.specs.Heap.{RisesAt}
use Rattle.due_queue.specs.Numbering.{Shuffled, placed}
use Rattle.due_queue.proofs.heap.rise.Given as goal

abbrev pub invariant-loop-parent : goal.invariant-loop-parent
invariant-loop-parent g l = record {
  within : l.place ≤ l.awake;
  due : AllDue (g.R.Rank.Due l.rank) (placed l.numbers) (l.awake + 1);
  rises : RisesAt (g.R.Rank.sooner l.rank) (placed l.numbers) (l.awake + 1) l.place;
  shuffled : Shuffled (length l.fn.numbers) (placed l.fn.numbers) (placed l.numbers) (l.awake + 1);
}

abbrev pub decreases-loop-parent : goal.decreases-loop-parent
decreases-loop-parent g l = l.place
