use Rattle.std.proofs.Common.{◌≡◌, drop}
use Rattle.model.specs.Acks.{ack_singles}
use Rattle.queues.specs.Out.{IsOutList, entries}
use Rattle.queues.proofs.out_list.OutList.ack_singles.Given as goal

abbrev pub invariant-loop-n : goal.invariant-loop-n
invariant-loop-n l = record {
  list : IsOutList l.self;
  rest : ack_singles (drop l.n-index l.numbers) (entries l.self) ≡ ack_singles l.numbers (entries l.initial.self);
}
