use Rattle.std.proofs.Common.{arith}
use Rattle.list.proofs.Swaps.{swapped}
use Rattle.list.proofs.swap_remove.Goals as goal

pub returns-clause-list : goal.returns-clause-list
returns-clause-list g c = swapped _ _ _ _ _ _ _ c.requires.list c.requires.there (omega arith)
