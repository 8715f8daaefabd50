use Rattle.queues.proofs.OneGroup.{new-group, good_by, seen_by, few_new}
use Rattle.model.specs.Group.{new_group}
use Rattle.queues.proofs.groups.Fragments.new.Goals as goal

pub returns-clause-group : goal.returns-clause-group
returns-clause-group c = good_by _ (new_group c.args.first c.args.len c.args.time) (new-group c.args.first c.args.len c.args.time) (few_new _ c.requires)

pub returns-clause-new : goal.returns-clause-new
returns-clause-new c = seen_by _ (new_group c.args.first c.args.len c.args.time) (new-group c.args.first c.args.len c.args.time) (few_new _ c.requires)
