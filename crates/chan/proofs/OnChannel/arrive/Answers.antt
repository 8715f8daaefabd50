use Rattle.std.proofs.Common.{refl}
use Rattle.list.proofs.Edits.{on_err}
use Rattle.chan.proofs.Steps.{from_at}
use Rattle.chan.specs.Arriving.{reliable}
use Rattle.chan.proofs.Arrivals.{arrived, over_buffer, over_queue, over_bundles}
use Rattle.chan.proofs.OnChannel.arrive.Goals as goal

pub returns-in_err-run-clause-full : goal.returns-in_err-run-clause-full
returns-in_err-run-clause-full c = on_err _ (over_buffer (reliable c.args.self.now) _ c.args.p refl c.in_err-run.ensures.full)

pub returns-in_err-taken-clause-full : goal.returns-in_err-taken-clause-full
returns-in_err-taken-clause-full c =
    on_err _ (over_bundles (reliable c.args.self.now) _ c.args.p c.in_ok-run.ensures.items (rw c.as_slice-queue.ensures at c.in_err-taken.ensures.full))

pub returns-in_err-self-clause-full : goal.returns-in_err-self-clause-full
returns-in_err-self-clause-full c =
    on_err _ (over_queue (reliable c.args.self.now) _ c.args.p c.in_ok-run.ensures.items
    (rw (from_at, c.in_ok-taken.ensures.rest, c.as_slice-queue.ensures) at c.in_err-self.ensures.full))

pub returns-clause-items : goal.returns-clause-items
returns-clause-items c =
    rw (c.in_ok-self.ensures.items, from_at, c.in_ok-taken.ensures.rest, c.in_ok-taken.ensures.items, c.as_slice-queue.ensures)
    (arrived (reliable c.args.self.now) _ c.args.p c.in_ok-run.ensures.items _ _ c.in_ok-run.ensures.kept)
