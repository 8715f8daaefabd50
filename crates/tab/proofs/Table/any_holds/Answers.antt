use Rattle.model.specs.Rust.{holds}
use Rattle.tab.specs.Tables.{state_of}
use Rattle.tab.proofs.Held.{in_first, in_second}
use Rattle.tab.proofs.Table.any_holds.Goals as goal

pub returns-then-any_off : goal.returns-then-any_off
unfolding holds state_of
returns-then-any_off c = in_first _ _ _ c.any_off.ensures c.if-any_off.true

pub returns-else-any_off : goal.returns-else-any_off
unfolding holds state_of
returns-else-any_off c = in_second _ _ _ _ c.any_off.ensures c.if-any_off.false c.any_on.ensures
