use Rattle.std.proofs.Common.{◌≡◌, ◌++◌, length, take, drop}
use Rattle.list.specs.Lists.{IsList}
use Rattle.model.specs.Group.{handles}
use Rattle.queues.proofs.bundles.add_handles.Given as goal

abbrev pub invariant-loop-p : goal.invariant-loop-p
invariant-loop-p l = record {
  list : IsList (length l.initial.places) 0 l.len l.places;
  rest : take l.len l.places ++ handles (drop l.p-index l.packets) ≡ take l.initial.len l.initial.places ++ handles l.packets;
}
