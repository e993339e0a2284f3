-- What the label holds.
use Rattle.std.proofs.Common.{◌∙◌, sym}
use Rattle.leg_search.proofs.Fronts.{lined_at}
use Rattle.leg_search.proofs.front.state_at.Goals as goal

pub returns : goal.returns
returns g c = c.step.ensures ∙ sym (lined_at c.args.labels.now c.args.position c.index-labels-position.result c.requires
    c.index-labels-position.is)
