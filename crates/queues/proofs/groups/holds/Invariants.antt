use Rattle.std.proofs.Common.{◌≡◌, length, drop}
use Rattle.list.specs.Find.{has}
use Rattle.model.specs.Rust.{holds_place}
use Rattle.queues.specs.Places.{places}
use Rattle.queues.proofs.groups.holds.Given as goal

abbrev pub invariant-loop-i : goal.invariant-loop-i
invariant-loop-i l = has (holds_place l.handle) (drop l.i (places (length l.marks) l.marks l.handles)) ≡ has (holds_place l.handle) (places (length l.marks) l.marks l.handles)
