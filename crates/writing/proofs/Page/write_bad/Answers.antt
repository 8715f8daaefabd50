use Rattle.writing.proofs.Places.{retold}
use Rattle.std.proofs.Common.{arith, refl}
use Rattle.writing.proofs.Page.write_bad.Goals as goal

pub returns-clause-wrote : goal.returns-clause-wrote
returns-clause-wrote c = retold _ _ _ _ _ _ _ _ refl (omega arith) c.text.ensures.wrote
