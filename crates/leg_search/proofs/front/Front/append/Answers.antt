-- The label at the end of the line holds the state then.
use Rattle.leg_search.proofs.Fronts.{appends}
use Rattle.leg_search.proofs.front.Front.append.Goals as goal

pub returns-clause-appends : goal.returns-clause-appends
returns-clause-appends g c = appends g.K.Cost.value g.K.Cost.costs c.args.labels.now c.args.self.now c.hold.new.self
    c.index-labels-self.result c.args.state c.requires
    c.hold.ensures.note c.hold.ensures.step
