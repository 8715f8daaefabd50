use Rattle.histories.proofs.Refusals.{answered}
use Rattle.histories.proofs.refuses_exactly_when.Goals as goal

pub returns : goal.returns
returns c = answered
