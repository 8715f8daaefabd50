use Rattle.tab.proofs.Put.{sure}
use Rattle.tab.proofs.Table.append_off.Goals as goal

pub returns-clause-state : goal.returns-clause-state
returns-clause-state c = sure c.add_off.result _ c.add_off.ensures.state c.add_off.ensures.full c.requires.room
