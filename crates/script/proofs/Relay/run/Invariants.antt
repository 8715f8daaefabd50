-- After each turn the answers so far, and then those to the rest, are all answers.
use Rattle.std.proofs.Common.{◌-◌, length}
use Rattle.script.specs.Holding.{IsHeld, plain_of}
use Rattle.script.specs.Input.{going}
use Rattle.script.proofs.Input.{Running}
use Rattle.script.proofs.Relay.run.Given as goal

abbrev pub invariant-loop-r : goal.invariant-loop-r
invariant-loop-r l = (IsHeld l.initial.self.held → IsHeld l.self.held) × Running (plain_of l.initial.self) l.read l.from l.initial.out l.out (going (plain_of l.self) l.r)

abbrev pub decreases-loop-r : goal.decreases-loop-r
decreases-loop-r l = length l.read - l.r.at
