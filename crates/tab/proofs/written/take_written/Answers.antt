use Rattle.tab.proofs.Names.{all_taken, one_lacks}
use Rattle.tab.proofs.written.take_written.Goals as goal

pub returns-in-Ok-clause-answer : goal.returns-in-Ok-clause-answer
returns-in-Ok-clause-answer c = all_taken _ _ c.in-Ok.ensures.items

pub returns-in-Err-clause-answer : goal.returns-in-Err-clause-answer
returns-in-Err-clause-answer c = one_lacks _ c.in-Err.ensures.lacking
