-- A search that has come to its end class by class is over.
use Rattle.leg_search.proofs.search.explore.Goals as goal

pub returns-then-run-clause-ends : goal.returns-then-run-clause-ends
returns-then-run-clause-ends g c = c.run.ensures.ends c.if-run.true
