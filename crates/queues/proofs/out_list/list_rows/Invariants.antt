use Rattle.std.proofs.Common.{drop}
use Rattle.model.specs.Calls.{flat}
use Rattle.list.proofs.Copies.{Writing}
use Rattle.queues.specs.Out.{due_rows}
use Rattle.queues.proofs.out_list.list_rows.Given as goal

abbrev pub invariant-loop-e : goal.invariant-loop-e
invariant-loop-e l = Writing l.initial.lent l.at (flat (due_rows l.address l.clock l.entries)) l.lent l.next (flat (due_rows l.address l.clock (drop l.e-index l.entries)))
