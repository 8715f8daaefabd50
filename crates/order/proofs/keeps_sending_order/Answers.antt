use Rattle.order.proofs.Demand3.{always}
use Rattle.order.proofs.Waiting.{repeated_now}
use Rattle.order.proofs.keeps_sending_order.Goals as goal

pub returns : goal.returns
returns c = record { always = always; repeated_now = repeated_now }
