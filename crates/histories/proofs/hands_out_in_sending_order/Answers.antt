use Rattle.histories.proofs.Tables.{demand3_tables}
use Rattle.histories.proofs.hands_out_in_sending_order.Goals as goal

pub returns : goal.returns
returns c = record { bundles = demand3_tables }
