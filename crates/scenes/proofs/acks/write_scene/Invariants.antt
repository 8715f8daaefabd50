use Rattle.queues.specs.Acks.{IsAckQueue}
use Rattle.scenes.proofs.acks.write_scene.Given as goal

abbrev pub invariant-loop-step : goal.invariant-loop-step
invariant-loop-step g l = IsAckQueue l.q
