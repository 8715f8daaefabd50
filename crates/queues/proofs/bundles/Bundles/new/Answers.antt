use Rattle.std.proofs.Common.{refl, rules}
use Rattle.list.specs.Find.{sum}
use Rattle.queues.specs.Made.{split_by}
use Rattle.queues.proofs.bundles.Bundles.new.Goals as goal

pub returns-clause-bundles : goal.returns-clause-bundles
unfolding sum
returns-clause-bundles c = record { lengths = search rules; handles = search rules; whole = refl }

pub returns-clause-items : goal.returns-clause-items
unfolding split_by
returns-clause-items c = refl
