use Rattle.histories.proofs.Tables.{demand2_tables}
use Rattle.histories.proofs.answers_as_the_rust.Goals as goal

pub returns : goal.returns
returns c = record { up_to_the_first = demand2_tables }
