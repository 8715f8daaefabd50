use Rattle.writing.proofs.Places.{places}
use Rattle.writing.proofs.Page.write_ok.Goals as goal

pub returns-then-v-ne1-clause-wrote : goal.returns-then-v-ne1-clause-wrote
returns-then-v-ne1-clause-wrote c = search places

pub returns-else-v-ne1-clause-wrote : goal.returns-else-v-ne1-clause-wrote
returns-else-v-ne1-clause-wrote c = search places
