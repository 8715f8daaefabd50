use Rattle.std.proofs.Common.{take, ◌∙◌}
use Rattle.list.proofs.Std.{position_view}
use Rattle.model.specs.State as model
use Rattle.chan.specs.Channels.{off_of}
use Rattle.tab.specs.Tables.{state_of}
use Rattle.tab.proofs.Table.off_position.Goals as goal

pub returns-clause-first : goal.returns-clause-first
unfolding state_of
returns-clause-first c =
    rw c.used.ensures at c.off_position.ensures ∙ position_view (model.is_off c.args.address) off_of (take c.args.self.now.offcount c.args.self.now.offs)
