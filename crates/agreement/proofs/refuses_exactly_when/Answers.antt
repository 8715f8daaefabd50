use Rattle.agreement.proofs.When.{exactly_when}
use Rattle.agreement.proofs.refuses_exactly_when.Goals as goal

pub returns : goal.returns
returns c = exactly_when
