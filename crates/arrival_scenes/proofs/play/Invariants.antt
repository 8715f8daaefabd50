use Rattle.chan.specs.Channels.{IsOnChannel}
use Rattle.arrival_scenes.proofs.play.Given as goal

abbrev pub invariant-loop-step : goal.invariant-loop-step
invariant-loop-step l = IsOnChannel l.c
