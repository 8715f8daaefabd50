use Rattle.std.proofs.Common.{arith}
use Rattle.queues.proofs.OneGroup.{place-index, mark_le, count_few, store_good, store_is}
use Rattle.queues.proofs.groups.Fragments.store.Goals as goal

pub bounds-self-i : goal.bounds-self-i
bounds-self-i c = place-index _ _ c.requires.group c.requires.there

pub overflow_sub-self : goal.overflow_sub-self
overflow_sub-self c = omega (arith, mark_le c.args.self.now c.args.i c.requires.group c.requires.there)

pub overflow_add-self : goal.overflow_add-self
overflow_add-self c = record { fits = omega (arith, count_few c.args.self.now c.args.i c.requires.group c.requires.there) }

pub bounds-self-i-2 : goal.bounds-self-i-2
bounds-self-i-2 c = place-index _ _ c.requires.group c.requires.there

pub bounds-self-i-3 : goal.bounds-self-i-3
bounds-self-i-3 c = place-index _ _ c.requires.group c.requires.there

pub returns-clause-group : goal.returns-clause-group
returns-clause-group c = store_good _ _ c.requires.group c.requires.there _ _

pub returns-clause-stored : goal.returns-clause-stored
returns-clause-stored c = store_is _ _ c.requires.group c.requires.there _ _
