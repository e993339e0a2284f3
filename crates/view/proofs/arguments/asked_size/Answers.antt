-- By hand: the search does not take the answer that is passed on apart.
use Rattle.std.proofs.Common.{rules}
use Rattle.view.proofs.Asks.{size_asked}
use Rattle.view.proofs.arguments.asked_size.Goals as goal

pub returns : goal.returns
returns c =
    size_asked c.args.kind.now c.args.rows.now c.args.columns.now c.read_size.result (search rules) c.read_size.ensures
