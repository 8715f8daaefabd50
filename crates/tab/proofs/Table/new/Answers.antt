use Rattle.std.proofs.Common.{◌≡◌, refl, Bool, true, false}
use Rattle.packet.specs.Data.{is_set}
use Rattle.tab.specs.Tables.{state_of}
use Rattle.tab.proofs.Table.new.Goals as goal

flag : (b : Bool) → is_set (mir.Val.bool_byte b) ≡ b
flag true = refl
flag false = refl

pub returns-clause-state : goal.returns-clause-state
unfolding state_of
returns-clause-state c = rw (c.new.ensures, flag) refl
