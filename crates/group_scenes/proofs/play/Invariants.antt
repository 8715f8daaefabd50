use Rattle.chan.specs.Channels.{IsOffData}
use Rattle.group_scenes.proofs.play.Given as goal

abbrev pub invariant-loop-step : goal.invariant-loop-step
invariant-loop-step l = IsOffData l.d
