use Rattle.histories.proofs.Tables.{kept_table, well_formed-always}
use Rattle.histories.proofs.keeps_tables_well_formed.Goals as goal

pub returns : goal.returns
returns c = record { call = kept_table; always = well_formed-always }
