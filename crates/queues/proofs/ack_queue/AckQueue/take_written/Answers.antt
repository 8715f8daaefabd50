use Rattle.std.proofs.Common.{◌∙◌, sym}
use Rattle.list.proofs.Edits.{on_err}
use Rattle.queues.proofs.Swapped.{take_next, take_lacks, take_last}
use Rattle.queues.proofs.ack_queue.AckQueue.take_written.Goals as goal

pub loop-n-preserved : goal.loop-n-preserved
loop-n-preserved c =
    record {
      list = c.take.ensures.list;
      rest = take_next _ _ _ _ c.loop-n-test.true c.in_ok-take.ensures.there c.in_ok-take.ensures.items ∙ c.loop-n.invariant.rest;
    }

pub returns-in_err-take-clause-lacking : goal.returns-in_err-take-clause-lacking
returns-in_err-take-clause-lacking c = on_err _ (sym c.loop-n.invariant.rest ∙ take_lacks _ _ _ c.loop-n-test.true c.in_err-take.ensures.lacking)

pub returns-clause-items : goal.returns-clause-items
returns-clause-items c = sym c.loop-n.invariant.rest ∙ take_last _ _ _ c.loop-n-test.false
