-- Each label is made ready in turn, and that of the beginning last.
use Rattle.leg_search.proofs.Memories.{clears, prepares}
use Rattle.std.proofs.Common.{arith}
use Rattle.leg_search.proofs.memory.prepare.Goals as goal

pub loop-state-preserved : goal.loop-state-preserved
loop-state-preserved g c = clears g.K.Cost.value g.K.Cost.costs c.loop-state.labels c.loop-state.state
    c.unreached.result
    (omega arith) c.unreached.ensures.note c.loop-state.invariant

pub returns-clause-ready : goal.returns-clause-ready
returns-clause-ready g c = prepares g.K.Cost.value g.K.Cost.costs c.loop-state.labels c.loop-state.state c.args.beginning
    c.beginning.result (omega arith) (omega arith) c.beginning.ensures.note c.loop-state.invariant
