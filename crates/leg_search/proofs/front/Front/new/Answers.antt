-- Each entry is 0, and so is what is read behind the last.
use Rattle.leg_search.proofs.Fronts.{all_zero}
use Rattle.leg_search.proofs.front.Front.new.Goals as goal

pub returns-clause-next : goal.returns-clause-next
returns-clause-next c = λ class. all_zero 4097 class
