-- Words that ask for a panel ask for its size, of whatever kind it is.
-- By hand: the search does not find it, also with this as a lemma that is named on the function: the step through
-- `from_residual`, after which the size is that of the request.
use Rattle.std.proofs.Common.{refl}
use Rattle.view.proofs.requests.asked_panel.Goals as goal

pub returns-in_err-size : goal.returns-in_err-size
returns-in_err-size c = rw c.from_residual-in_err-size.ensures
    (λ q asked. c.in_err-size.ensures q.size (record { kind = refl; rows = asked.rows; columns = asked.columns }))
