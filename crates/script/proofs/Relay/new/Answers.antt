-- A new table is the one that stands for the new state.
use Rattle.std.proofs.Common.{ap, ◌∙◌}
use Rattle.model.specs.State as model
use Rattle.packet.specs.declared.Record.{Record}
use Rattle.tab.specs.Tables.{repr}
use Rattle.tab.proofs.Called.{table_form}
use Rattle.script.specs.Plain.{plain}
use Rattle.script.proofs.Relay.new.Goals as goal

pub returns-clause-start : goal.returns-clause-start
returns-clause-start c =
    let t = table_form c.new.result c.new.ensures.table ∙ ap repr c.new.ensures.state in
    λ i. plain (t i) (c.new-2.ensures.items i)
