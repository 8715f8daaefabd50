use Rattle.order.proofs.Examples.{examples}
use Rattle.order.proofs.holds_in_examples.Goals as goal

pub returns : goal.returns
returns c = examples
