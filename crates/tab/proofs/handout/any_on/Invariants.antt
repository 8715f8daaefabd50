use Rattle.std.proofs.Common.{◌≡◌, map, drop}
use Rattle.list.specs.Find.{has}
use Rattle.model.specs.Rust.{holds_on}
use Rattle.chan.specs.Channels.{on_of}
use Rattle.tab.proofs.handout.any_on.Given as goal

abbrev pub invariant-loop-c : goal.invariant-loop-c
invariant-loop-c l = has (holds_on l.handle) (map on_of (drop l.c-index l.channels)) ≡ has (holds_on l.handle) (map on_of l.channels)
