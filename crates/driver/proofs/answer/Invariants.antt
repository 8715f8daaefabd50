-- What was written so far, and then the answers to the rest, are all answers. Assumes nothing.
use Rattle.std.proofs.Common.{◌≡◌, ◌-◌, length}
use Rattle.script.specs.Holding.{IsHeld, plain_of}
use Rattle.driver.proofs.Answering.{Writing}
use Rattle.driver.proofs.answer.Given as goal

abbrev pub invariant-loop-at : goal.invariant-loop-at
invariant-loop-at g l =
    (65536 ≡ length l.out) × IsHeld l.relay.held × Writing l.input (plain_of l.relay) l.at (g.W.Write.contents l.initial.to) (g.W.Write.contents l.to)

abbrev pub decreases-loop-at : goal.decreases-loop-at
decreases-loop-at g l = length l.input - l.at
