-- The first differing place begins the run, and the first after it in its row that does not differ ends it.
use Rattle.std.proofs.Common.{arith}
use Rattle.runs.proofs.Bounds.{next_is}
use Rattle.runs.proofs.next.next_run.Goals as goal

pub returns : goal.returns
returns g c = next_is _ _ _ _ _ _ _ c.args.size.columns_least c.places-places.ensures c.first_where-first.ensures
    (omega arith) c.end_in_row-end.ensures
