use Rattle.std.proofs.Common.{rules}
use Rattle.model.specs.Acks.{not_before}
use Rattle.queues.proofs.ack_queue.AckQueue.ack_cumulative.Goals as goal

pub returns-clause-items : goal.returns-clause-items
returns-clause-items c = c.retain.ensures.items (not_before c.args.number) (λ x b k. search rules)
