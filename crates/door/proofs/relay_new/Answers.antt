use Rattle.std.proofs.Common.{refl}
use Rattle.door.proofs.Fitting.{renewed-is}
use Rattle.door.proofs.relay_new.Goals as goal

pub returns-in-Ok-clause-table : goal.returns-in-Ok-clause-table
returns-in-Ok-clause-table c = let e = c.in-Ok.ensures in renewed-is _ _ _ (e.variant.0 refl) e.table e.state
