use Rattle.std.proofs.Common.{arith}
use Rattle.queues.proofs.OneGroup.{place-index, mark_le, count_few, fills}
use Rattle.queues.proofs.groups.Fragments.fills.Goals as goal

pub bounds-self-i : goal.bounds-self-i
bounds-self-i c = place-index _ _ c.requires.group c.requires.there

pub overflow_sub-result : goal.overflow_sub-result
overflow_sub-result c = omega (arith, mark_le c.args.self.now c.args.i c.requires.group c.requires.there)

pub overflow_add-result : goal.overflow_add-result
overflow_add-result c = record { fits = omega (arith, count_few c.args.self.now c.args.i c.requires.group c.requires.there) }

pub returns : goal.returns
returns c = λ handle time. fills _ _ c.requires.group c.requires.there handle time
