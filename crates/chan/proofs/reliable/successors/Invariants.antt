use Rattle.std.proofs.Common.{◌≡◌, ◌+◌, drop}
use Rattle.chan.specs.Arriving.{run}
use Rattle.chan.proofs.reliable.successors.Given as goal

abbrev pub invariant-loop-i : goal.invariant-loop-i
invariant-loop-i l = l.i + run l.due (drop l.i l.packets) ≡ run l.number l.packets
