-- The number at the root is due first.
use Rattle.std.proofs.Common.{arith}
use Rattle.std.proofs.lemmas.Grind.{common_steps}
use Rattle.due_queue.proofs.Queues.{first_due}
use Rattle.due_queue.proofs.queue.Queue.next.Goals as goal

pub returns-clause-answered : goal.returns-clause-answered
returns-clause-answered g c = grind (arith, common_steps)

pub returns-clause-first : goal.returns-clause-first
returns-clause-first g c =
    first_due _ _ (g.met.R.Rank.laws c.args.rank.now c.requires.sound) _ c.root.result (returns-clause-answered g c)
