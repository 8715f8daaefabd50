use Rattle.std.proofs.Common.{sym, ap}
use Rattle.queues.specs.Made.{front_len}
use Rattle.queues.proofs.Fronts.{no_bundle, front_len_is}
use Rattle.queues.proofs.bundles.Bundles.front_len.Goals as goal

pub returns-then-self-eq0 : goal.returns-then-self-eq0
returns-then-self-eq0 c = sym (ap front_len (no_bundle c.args.self.now c.if-self-eq0.true))

pub returns : goal.returns
returns c = front_len_is c.args.self.now c.requires c.if-self-eq0.false
