-- The numbers at the places so far are parted into those that are due and those that are not.
use Rattle.std.proofs.Common.{length}
use Rattle.due_queue.specs.Awake.{Parted}
use Rattle.due_queue.specs.Numbering.{Numbering, placed}
use Rattle.due_queue.proofs.waking.wake.Given as goal

abbrev pub invariant-loop-place : goal.invariant-loop-place
invariant-loop-place g l = record {
  numbering : Numbering (length l.fn.numbers) (placed l.numbers);
  parted : Parted (g.R.Rank.Due l.rank) (g.R.Rank.sooner l.rank) (placed l.numbers) l.count l.place;
}
