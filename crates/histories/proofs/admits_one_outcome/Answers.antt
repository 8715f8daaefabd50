use Rattle.histories.proofs.Same.{same}
use Rattle.histories.proofs.admits_one_outcome.Goals as goal

pub returns : goal.returns
returns c = same
