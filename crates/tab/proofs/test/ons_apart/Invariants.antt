use Rattle.std.proofs.Common.{◌≡◌, map, drop}
use Rattle.model.specs.Wellformed.{distinct, same_on}
use Rattle.chan.specs.Channels.{on_of}
use Rattle.tab.proofs.test.ons_apart.Given as goal

abbrev pub invariant-loop-i : goal.invariant-loop-i
invariant-loop-i l = distinct same_on (map on_of l.s) ≡ distinct same_on (map on_of (drop l.i l.s))
