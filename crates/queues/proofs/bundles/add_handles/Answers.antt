use Rattle.std.proofs.Common.{arith}
use Rattle.list.proofs.Edits.{on_err}
use Rattle.queues.proofs.Cuts.{too_many}
use Rattle.queues.proofs.bundles.add_handles.Goals as goal

pub returns-in_err-push-clause-full : goal.returns-in_err-push-clause-full
returns-in_err-push-clause-full c =
    on_err _ (too_many _ _ _ _ _ _ _ c.loop-p.invariant.list c.requires.list c.loop-p.invariant.rest (omega (arith, c.loop-p.auto.places, c.in_err-push.ensures.full)) c.loop-p-test.true)
