use Rattle.list.proofs.Edits.{on_err}
use Rattle.chan.specs.Arriving.{reliable, kept_of}
use Rattle.chan.proofs.Arrivals.{alone_full, alone_arrived}
use Rattle.chan.proofs.OnChannel.add_alone.Goals as goal

pub returns-in_err-push_one-clause-full : goal.returns-in_err-push_one-clause-full
returns-in_err-push_one-clause-full c = on_err _ (alone_full (reliable c.args.self.now) c.args.p c.requires.alone c.in_err-push_one.ensures.full)

pub returns-clause-items : goal.returns-clause-items
returns-clause-items c =
    rw (c.in_ok-push_one.ensures.items, c.add.ensures) (alone_arrived (reliable c.args.self.now) c.args.p c.requires.alone (kept_of c.args.self.now))
