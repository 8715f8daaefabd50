use Rattle.histories.proofs.Refusals.{changed}
use Rattle.histories.proofs.leaves_what_is_stated.Goals as goal

pub returns : goal.returns
returns c = changed
