use Rattle.std.proofs.Common.{◌≡◌, drop}
use Rattle.model.specs.Acks.{ack_cumulative}
use Rattle.queues.proofs.out_list.passed.Given as goal

abbrev pub invariant-loop-e : goal.invariant-loop-e
invariant-loop-e l = record {
  all : l.n ≡ l.e-index;
  rest : ack_cumulative l.number (drop l.n l.entries) ≡ ack_cumulative l.number l.entries;
}
