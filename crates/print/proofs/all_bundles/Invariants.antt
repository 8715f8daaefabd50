use Rattle.std.proofs.Common.{length}
use Rattle.queues.specs.Made.{bundles_of, IsBundles}
use Rattle.print.proofs.all_bundles.Given as goal

abbrev pub invariant-loop-len : goal.invariant-loop-len
invariant-loop-len g l = IsBundles l.rest

abbrev pub decreases-loop-len : goal.decreases-loop-len
decreases-loop-len g l = length (bundles_of l.rest)
