use Rattle.list.proofs.Edits.{on_err}
use Rattle.chan.specs.Channels.{data_of}
use Rattle.chan.proofs.Acked.{forwarded_beyond}
use Rattle.chan.proofs.OffData.forwarded.Goals as goal

pub returns-in_err-insert-clause-full : goal.returns-in_err-insert-clause-full
returns-in_err-insert-clause-full c =
    on_err _ (forwarded_beyond c.args.cumulative c.args.time c.args.r.now (data_of c.args.self.now) c.if-r-eq1.true (rw c.forwarded_entry.ensures at c.in_err-insert.ensures.full))
