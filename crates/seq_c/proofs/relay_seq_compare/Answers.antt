-- An argument is refused, or passes its test. Assumes nothing.
use Rattle.seq_c.proofs.HostSteps.{host}
use Rattle.seq_c.proofs.relay_seq_compare.Goals as goal

pub legal-requires : goal.legal-requires
legal-requires c = search host

pub returns-then-not-legal : goal.returns-then-not-legal
returns-then-not-legal c = search host

pub legal-requires-2 : goal.legal-requires-2
legal-requires-2 c = search host

pub returns-then-not-legal-2 : goal.returns-then-not-legal-2
returns-then-not-legal-2 c = search host

pub compare-requires : goal.compare-requires
compare-requires c = search host

pub order_number-requires : goal.order_number-requires
order_number-requires c = search host

pub returns : goal.returns
returns c = search host
