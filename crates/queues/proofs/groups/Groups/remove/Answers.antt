use Rattle.queues.proofs.AllGroups.{removed, removed_items}
use Rattle.queues.proofs.groups.Groups.remove.Goals as goal

pub returns-clause-groups : goal.returns-clause-groups
returns-clause-groups c = removed c.args.self.now _ _ _ c.requires.groups (rw (c.requires.groups.groups.size, c.none.ensures) at c.remove.ensures.list) c.remove.ensures.items

pub returns-clause-items : goal.returns-clause-items
returns-clause-items c = removed_items c.args.self.now _ _ _ c.requires.groups (rw (c.requires.groups.groups.size, c.none.ensures) at c.remove.ensures.list) c.remove.ensures.items
