use Rattle.chan.specs.Channels.{IsOnChannel}
use Rattle.arrival_scenes.proofs.act.Given as goal

abbrev pub invariant-loop-number : goal.invariant-loop-number
invariant-loop-number l = IsOnChannel l.c

abbrev pub invariant-loop-number-2 : goal.invariant-loop-number-2
invariant-loop-number-2 l = IsOnChannel l.c
