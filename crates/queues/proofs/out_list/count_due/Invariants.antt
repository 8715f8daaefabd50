use Rattle.std.proofs.Common.{◌≡◌, ◌≤◌, ◌+◌, drop, length}
use Rattle.queues.specs.Out.{due_entries}
use Rattle.queues.proofs.out_list.count_due.Given as goal

abbrev pub invariant-loop-e : goal.invariant-loop-e
invariant-loop-e l = record {
  some : l.n ≤ l.e-index;
  rest : l.n + length (due_entries l.clock (drop l.e-index l.entries)) ≡ length (due_entries l.clock l.entries);
}
