use Rattle.std.proofs.Common.{◌≡◌, map, drop}
use Rattle.list.specs.Find.{has}
use Rattle.model.specs.Rust.{holds_group}
use Rattle.queues.specs.Places.{group_of}
use Rattle.queues.proofs.groups.one_holds.Given as goal

abbrev pub invariant-loop-g : goal.invariant-loop-g
invariant-loop-g l = has (holds_group l.handle) (map group_of (drop l.g-index l.groups)) ≡ has (holds_group l.handle) (map group_of l.groups)
