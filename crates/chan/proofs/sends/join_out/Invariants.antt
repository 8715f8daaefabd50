use Rattle.std.proofs.Common.{◌≡◌, ◌++◌, drop}
use Rattle.model.specs.Rust.{sent_entries}
use Rattle.queues.specs.Out.{entries, IsOutList}
use Rattle.chan.proofs.sends.join_out.Given as goal

abbrev pub invariant-loop-h : goal.invariant-loop-h
invariant-loop-h l = record {
  list : IsOutList l.joined;
  rest : entries l.joined ++ sent_entries l.time l.number.0 (drop l.h-index l.handles) ≡ entries l.initial.joined ++ sent_entries l.time l.initial.number.0 l.handles;
}
