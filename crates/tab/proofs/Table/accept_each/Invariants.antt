use Rattle.model.specs.Port as port
use Rattle.tab.specs.Tables.{IsTable, state_of}
use Rattle.tab.proofs.Delivered.{Played}
use Rattle.tab.proofs.Table.accept_each.Given as goal

abbrev pub invariant-loop-r : goal.invariant-loop-r
invariant-loop-r l = record {
  table : IsTable l.self;
  played : Played l.time l.address l.records l.r-index (state_of l.self) l.done (port.play l.time l.address l.records (state_of l.initial.self));
}
