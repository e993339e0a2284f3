-- By hand: the search does not find it, and a function's line cannot name a lemma whose name has a hyphen.
use Rattle.std.proofs.Common.{arith}
use Rattle.std.proofs.lemmas.Grind.{common_steps}
use Rattle.std.proofs.lemmas.List.{length-take-le}
use Rattle.panel.proofs.bytes.ShortBytes.push.Goals as goal

-- sixteen bytes are there already
pub returns-else-self-lt16 : goal.returns-else-self-lt16
returns-else-self-lt16 c = grind (arith, common_steps, length-take-le)
