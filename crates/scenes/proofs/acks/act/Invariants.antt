use Rattle.queues.specs.Acks.{IsAckQueue}
use Rattle.scenes.proofs.acks.act.Given as goal

abbrev pub invariant-loop-k : goal.invariant-loop-k
invariant-loop-k l = IsAckQueue l.q

abbrev pub invariant-loop-number : goal.invariant-loop-number
invariant-loop-number l = IsAckQueue l.q
