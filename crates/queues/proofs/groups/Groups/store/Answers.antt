use Rattle.list.proofs.Arrays.{list_set, each_set}
use Rattle.queues.specs.Places.{IsGroup, group_of, no_fragments}
use Rattle.queues.proofs.AllGroups.{inside}
use Rattle.queues.proofs.groups.Groups.store.Goals as goal

pub returns-clause-groups : goal.returns-clause-groups
returns-clause-groups c =
    let lt = inside c.args.self.now c.args.g c.requires.groups c.requires.there in
    record {
      groups = list_set IsGroup group_of _ _ no_fragments _ c.requires.groups.groups c.requires.groups.each _ lt _;
      each = each_set IsGroup group_of _ _ no_fragments _ c.requires.groups.groups c.requires.groups.each _ lt _ c.store.ensures.group;
    }
