use Rattle.writing.proofs.Places.{places}
use Rattle.writing.proofs.Page.index.Goals as goal

pub returns-then-i-eq0-clause-wrote : goal.returns-then-i-eq0-clause-wrote
returns-then-i-eq0-clause-wrote c = search places

pub returns-else-i-eq0-clause-wrote : goal.returns-else-i-eq0-clause-wrote
returns-else-i-eq0-clause-wrote c = search places
