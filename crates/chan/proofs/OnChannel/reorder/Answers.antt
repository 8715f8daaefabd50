use Rattle.std.proofs.Common.{◌∙◌}
use Rattle.list.proofs.Edits.{on_err}
use Rattle.chan.specs.Arriving.{reliable}
use Rattle.chan.proofs.Arrivals.{equal, less, greater, greater_full}
use Rattle.chan.proofs.OnChannel.reorder.Goals as goal

pub returns-in_err-insert-in-Greater-clause-full : goal.returns-in_err-insert-in-Greater-clause-full
returns-in_err-insert-in-Greater-clause-full c =
    on_err _ (greater_full (reliable c.args.self.now) c.args.p _ c.compare.ensures c.in-Greater.is c.in_err-insert-in-Greater.ensures.full)

pub returns-in_ok-run-in-Equal-clause-items : goal.returns-in_ok-run-in-Equal-clause-items
returns-in_ok-run-in-Equal-clause-items c =
    c.in_ok-run-in-Equal.ensures.items ∙ equal (reliable c.args.self.now) c.args.p _ c.compare.ensures c.in-Equal.is

pub returns-in_ok-extend-in-Less-clause-items : goal.returns-in_ok-extend-in-Less-clause-items
returns-in_ok-extend-in-Less-clause-items c =
    rw (c.in_ok-extend-in-Less.ensures.items, c.new-run.ensures.items, c.as_slice.ensures) (less (reliable c.args.self.now) c.args.p _ c.compare.ensures c.in-Less.is)

pub returns-in_ok-extend-in-Greater-clause-items : goal.returns-in_ok-extend-in-Greater-clause-items
returns-in_ok-extend-in-Greater-clause-items c =
    rw (c.in_ok-insert-in-Greater.ensures.items, c.in_ok-extend-in-Greater.ensures.items, c.new-run.ensures.items, c.as_slice-in-Greater.ensures)
    (greater (reliable c.args.self.now) c.args.p _ c.compare.ensures c.in-Greater.is)
