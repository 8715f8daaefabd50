use Rattle.agreement.proofs.Agreement.{demand2}
use Rattle.agreement.proofs.answers_as_the_rust.Goals as goal

pub returns : goal.returns
returns c = demand2
