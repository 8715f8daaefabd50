use Rattle.list.proofs.Arrays.{list_set, each_set, items_set}
use Rattle.queues.specs.Places.{IsGroup, group_of, no_fragments}
use Rattle.queues.proofs.AllGroups.{inside}
use Rattle.queues.proofs.groups.Groups.put.Goals as goal

pub returns-clause-groups : goal.returns-clause-groups
returns-clause-groups c =
    let lt = inside c.args.self.now c.args.i c.requires.groups c.requires.there in
    record {
      groups = list_set IsGroup group_of _ _ no_fragments _ c.requires.groups.groups c.requires.groups.each _ lt _;
      each = each_set IsGroup group_of _ _ no_fragments _ c.requires.groups.groups c.requires.groups.each _ lt _ c.requires.group;
    }

pub returns-clause-items : goal.returns-clause-items
returns-clause-items c =
    let lt = inside c.args.self.now c.args.i c.requires.groups c.requires.there in
    items_set IsGroup group_of _ _ no_fragments _ c.requires.groups.groups c.requires.groups.each _ lt _
