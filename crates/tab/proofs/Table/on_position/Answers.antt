use Rattle.std.proofs.Common.{take, ◌∙◌}
use Rattle.list.proofs.Std.{position_view}
use Rattle.model.specs.State as model
use Rattle.chan.specs.Channels.{on_of}
use Rattle.tab.specs.Tables.{state_of}
use Rattle.tab.proofs.Table.on_position.Goals as goal

pub returns-clause-first : goal.returns-clause-first
unfolding state_of
returns-clause-first c =
    rw c.used.ensures at c.on_position.ensures ∙ position_view (model.is_on c.args.address c.args.index) on_of (take c.args.self.now.oncount c.args.self.now.ons)
