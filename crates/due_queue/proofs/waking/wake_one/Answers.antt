-- The number has changed places with the first that sleeps, and has risen.
use Rattle.std.proofs.Common.{◌+◌, ℕ, arith, length, subst}
use Rattle.due_queue.specs.Numbering.{Shuffled, placed}
use Rattle.due_queue.proofs.Swaps.{swap_shuffles, swapped}
use Rattle.due_queue.proofs.Sleepers.{woken}
use Rattle.due_queue.proofs.waking.wake_one.Goals as goal

pub returns-clause-numbering : goal.returns-clause-numbering
returns-clause-numbering g c =
    let n = length c.args.numbers.now in
    let e = c.args.awake in
    let k = c.args.place in
    let y = c.requires.parted.within in
    let rises : Shuffled n (placed c.swap.new.self) (placed c.rise.new.numbers) (e + 1) =
    subst (λ (m : ℕ). Shuffled m (placed c.swap.new.self) (placed c.rise.new.numbers) (e + 1)) c.swap.ensures.len
    c.rise.ensures.shuffled in
    rises.numbering ((swap_shuffles n _ _ _ _ (omega arith) (omega arith)
    (swapped _ _ _ _ c.swap.ensures.by_index) (k + 1) (omega arith) (omega arith)).numbering c.requires.numbering)

pub returns-clause-parted : goal.returns-clause-parted
returns-clause-parted g c =
    woken _ _ _ _ _ _ _ _ c.requires.parted (swapped _ _ _ _ c.swap.ensures.by_index) c.rise.ensures.shuffled
    (c.is_due.ensures.0 c.if-not-is_due.false)
    c.rise.ensures.heap
