use Rattle.writing.proofs.Places.{places}
use Rattle.writing.proofs.Page.worded.Goals as goal

pub returns-clause-wrote : goal.returns-clause-wrote
returns-clause-wrote c = search places
