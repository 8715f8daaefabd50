use Rattle.std.proofs.Common.{◌≡◌, drop}
use Rattle.model.specs.Acks.{ack_in_singles}
use Rattle.queues.specs.Acks.{IsAckQueue, numbers}
use Rattle.queues.proofs.ack_queue.AckQueue.ack_singles.Given as goal

abbrev pub invariant-loop-n : goal.invariant-loop-n
invariant-loop-n l = record {
  list : IsAckQueue l.self;
  rest : ack_in_singles (drop l.n-index l.singles) (numbers l.self) ≡ ack_in_singles l.singles (numbers l.initial.self);
}
