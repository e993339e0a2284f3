-- What a panel's motions in classes are read as.
--     count_of cs     how many classes there are
--     class_of cs d   the motions of the class d; none where there is no such class
use Rattle.std.specs.Prelude.{ℕ, List, length}
use Rattle.motion_order.specs.Ends.{class_at}
use Rattle.motion_order.specs.declared.classes.Classes.{Classes}
use Rattle.motion_order.specs.declared.offer.Offer.{Offer}

abbrev pub count_of : Classes → ℕ
count_of cs = length cs.ends.now

abbrev pub class_of : Classes → ℕ → List Offer
class_of cs = class_at cs.offers.now cs.ends.now
