use Rattle.std.proofs.Common.{◌∙◌, refl}
use Rattle.list.proofs.Edits.{on_err}
use Rattle.chan.proofs.Sent.{join_next, join_last, join_beyond}
use Rattle.chan.proofs.sends.join_out.Goals as goal

pub loop-h-init : goal.loop-h-init
loop-h-init c = record { list = c.requires; rest = refl }

pub loop-h-preserved : goal.loop-h-preserved
loop-h-preserved c =
    record {
      list = c.push.ensures.list;
      rest = join_next c.args.time c.loop-h.number.0 c.add-number.result.0 c.loop-h.h-index c.args.handles.now _ _ c.loop-h-test.true (rw c.get.ensures at c.in_ok-push.ensures.items) c.add-number.ensures ∙ c.loop-h.invariant.rest;
    }

pub returns-in_err-push-clause-full : goal.returns-in_err-push-clause-full
returns-in_err-push-clause-full c =
    on_err _ (join_beyond c.args.time _ _ c.loop-h.h-index c.args.handles.now _ _ c.loop-h-test.true c.loop-h.invariant.rest c.in_err-push.ensures.full)

pub returns-clause-items : goal.returns-clause-items
returns-clause-items c = join_last c.args.time c.loop-h.number.0 c.loop-h.h-index c.args.handles.now _ c.loop-h-test.false ∙ c.loop-h.invariant.rest
