use Rattle.queues.specs.Out.{IsOutList}
use Rattle.scenes.proofs.out.write_scene.Given as goal

abbrev pub invariant-loop-step : goal.invariant-loop-step
invariant-loop-step g l = IsOutList l.o
