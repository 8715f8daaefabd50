use Rattle.queues.specs.Out.{IsOutList}
use Rattle.scenes.proofs.out.act.Given as goal

abbrev pub invariant-loop-k : goal.invariant-loop-k
invariant-loop-k l = IsOutList l.o

abbrev pub invariant-loop-number : goal.invariant-loop-number
invariant-loop-number l = IsOutList l.o
