use Rattle.std.proofs.Common.{◌≡◌, drop}
use Rattle.model.specs.Acks.{take_written}
use Rattle.queues.specs.Acks.{IsAckQueue, numbers}
use Rattle.queues.proofs.ack_queue.AckQueue.take_written.Given as goal

abbrev pub invariant-loop-n : goal.invariant-loop-n
invariant-loop-n l = record {
  list : IsAckQueue l.queue;
  rest : take_written (drop l.n-index l.names) (numbers l.queue) ≡ take_written l.names (numbers l.initial.queue);
}
