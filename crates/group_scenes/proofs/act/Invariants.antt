use Rattle.chan.specs.Channels.{IsOffData}
use Rattle.group_scenes.proofs.act.Given as goal

abbrev pub invariant-loop-handle : goal.invariant-loop-handle
invariant-loop-handle l = IsOffData l.d

abbrev pub invariant-loop-number : goal.invariant-loop-number
invariant-loop-number l = IsOffData l.d

abbrev pub invariant-loop-first : goal.invariant-loop-first
invariant-loop-first l = IsOffData l.d
