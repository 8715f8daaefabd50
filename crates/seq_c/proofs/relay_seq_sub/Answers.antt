-- An argument is refused, or passes its test. Assumes nothing.
use Rattle.seq_c.proofs.HostSteps.{host}
use Rattle.seq_c.proofs.relay_seq_sub.Goals as goal

pub legal-requires : goal.legal-requires
legal-requires c = search host

pub returns-then-not-legal : goal.returns-then-not-legal
returns-then-not-legal c = search host

pub sub-rest-requires : goal.sub-rest-requires
sub-rest-requires c = search host

pub returns : goal.returns
returns c = search host
