use Rattle.std.proofs.Common.{◌≡◌, ◌≤◌, ◌-◌, length, take, drop}
use Rattle.model.specs.Group.{before, group}
use Rattle.queues.specs.Made.{bundles_of, IsBundles}
use Rattle.chan.proofs.grouping.group.Given as goal

abbrev pub invariant-loop-n : goal.invariant-loop-n
invariant-loop-n l = record {
  within : l.at ≤ length l.packets;
  bundles : IsBundles l.made;
  first : take (length (bundles_of l.initial.made)) (bundles_of l.made) ≡ bundles_of l.initial.made;
  rest : before (bundles_of l.made) (group (drop l.at l.packets)) ≡ before (bundles_of l.initial.made) (group l.packets);
}

abbrev pub decreases-loop-n : goal.decreases-loop-n
decreases-loop-n l = length l.packets - l.at
