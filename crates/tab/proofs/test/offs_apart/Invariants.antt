use Rattle.std.proofs.Common.{◌≡◌, map, drop}
use Rattle.model.specs.Wellformed.{distinct, same_off}
use Rattle.chan.specs.Channels.{off_of}
use Rattle.tab.proofs.test.offs_apart.Given as goal

abbrev pub invariant-loop-i : goal.invariant-loop-i
invariant-loop-i l = distinct same_off (map off_of l.s) ≡ distinct same_off (map off_of (drop l.i l.s))
