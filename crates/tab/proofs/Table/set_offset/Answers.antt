use Rattle.std.proofs.Common.{refl}
use Rattle.tab.specs.Tables.{state_of}
use Rattle.tab.proofs.Table.set_offset.Goals as goal

pub returns-clause-state : goal.returns-clause-state
unfolding state_of
returns-clause-state c = refl
