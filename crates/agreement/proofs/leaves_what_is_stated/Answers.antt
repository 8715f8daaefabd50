use Rattle.agreement.proofs.Effects.{effects}
use Rattle.agreement.proofs.leaves_what_is_stated.Goals as goal

pub returns : goal.returns
returns c = effects
