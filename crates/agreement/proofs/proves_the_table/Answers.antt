use Rattle.agreement.proofs.ProvedTable.{proved_table}
use Rattle.agreement.proofs.proves_the_table.Goals as goal

pub returns : goal.returns
returns c = proved_table
