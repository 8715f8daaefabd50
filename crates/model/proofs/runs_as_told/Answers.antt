use Rattle.model.proofs.Instances.{instances}
use Rattle.model.proofs.runs_as_told.Goals as goal

pub returns : goal.returns
returns c = instances
