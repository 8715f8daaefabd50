use Rattle.tab.proofs.ResendPlace.{table_rows}
use Rattle.tab.proofs.Table.count_rows.Goals as goal

pub returns-clause-rows : goal.returns-clause-rows
returns-clause-rows c = table_rows c.args.self.now c.args.clock _ _ c.count_offs-offs.ensures.rows c.count_ons-ons.ensures.rows
