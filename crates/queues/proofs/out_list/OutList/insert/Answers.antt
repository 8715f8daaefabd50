use Rattle.std.proofs.Common.{arith, length-take}
use Rattle.list.proofs.Edits.{on_err, length_items}
use Rattle.queues.specs.Out.{entries}
use Rattle.queues.proofs.OutSearch.{within, too_long}
use Rattle.queues.proofs.out_list.OutList.insert.Goals as goal

pub insert-requires-clause-there : goal.insert-requires-clause-there
insert-requires-clause-there c =
    let w = within c.args.e (entries c.args.self.now) _ _ (rw c.as_slice.ensures.items at c.place_of.ensures) c.in-Some.is in
    omega (arith, w, length-take c.args.self.now.len c.args.self.now.entries)

pub returns-in_err-insert-in-Some-clause-full : goal.returns-in_err-insert-in-Some-clause-full
returns-in_err-insert-in-Some-clause-full c =
    on_err _ (too_long c.args.e (entries c.args.self.now) _ _ (rw c.as_slice.ensures.items at c.place_of.ensures) c.in-Some.is
    (omega (arith, length_items _ _ _ _ c.requires, c.requires.size, c.in_err-insert-in-Some.ensures.full)))
