-- The number on its way down is the only one that may be too early.
use Rattle.std.proofs.Common.{◌≤◌, ◌-◌, length}
use Rattle.due_queue.specs.Awake.{AllDue}
use Rattle.due_queue.specs.Heap.{SinksAt}
use Rattle.due_queue.specs.Numbering.{Shuffled, placed}
use Rattle.due_queue.proofs.heap.sink.Given as goal

abbrev pub invariant-loop-child : goal.invariant-loop-child
invariant-loop-child g l = record {
  within : l.place ≤ l.awake;
  due : AllDue (g.R.Rank.Due l.rank) (placed l.numbers) l.awake;
  sinks : SinksAt (g.R.Rank.sooner l.rank) (placed l.numbers) l.awake l.place;
  shuffled : Shuffled (length l.fn.numbers) (placed l.fn.numbers) (placed l.numbers) l.awake;
}

abbrev pub decreases-loop-child : goal.decreases-loop-child
decreases-loop-child g l = l.awake - l.place
