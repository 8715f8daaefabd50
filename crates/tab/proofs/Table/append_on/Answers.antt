use Rattle.tab.proofs.Put.{sure}
use Rattle.tab.proofs.Table.append_on.Goals as goal

pub returns-clause-state : goal.returns-clause-state
returns-clause-state c = sure c.add_on.result _ c.add_on.ensures.state c.add_on.ensures.full c.requires.room
