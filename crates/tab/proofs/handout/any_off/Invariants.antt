use Rattle.std.proofs.Common.{◌≡◌, map, drop}
use Rattle.list.specs.Find.{has}
use Rattle.model.specs.Rust.{holds_off}
use Rattle.chan.specs.Channels.{off_of}
use Rattle.tab.proofs.handout.any_off.Given as goal

abbrev pub invariant-loop-c : goal.invariant-loop-c
invariant-loop-c l = has (holds_off l.handle) (map off_of (drop l.c-index l.channels)) ≡ has (holds_off l.handle) (map off_of l.channels)
