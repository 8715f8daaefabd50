use Rattle.std.proofs.Common.{◌∙◌}
use Rattle.queues.proofs.Swapped.{ack_next, ack_last}
use Rattle.queues.proofs.ack_queue.AckQueue.ack_singles.Goals as goal

pub loop-n-preserved : goal.loop-n-preserved
loop-n-preserved c = record { list = c.ack.ensures.list; rest = ack_next _ _ _ _ c.loop-n-test.true c.ack.ensures.items ∙ c.loop-n.invariant.rest }

pub returns-clause-items : goal.returns-clause-items
returns-clause-items c = ack_last _ _ _ c.loop-n-test.false ∙ c.loop-n.invariant.rest
