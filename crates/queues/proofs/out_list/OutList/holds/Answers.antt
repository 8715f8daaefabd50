use Rattle.std.proofs.Common.{◌∙◌, rules, tests}
use Rattle.std.proofs.lemmas.Iterator.{YieldsList-from_slice}
use Rattle.std.proofs.lemmas.Iterator.Search.{any_from_yields_List}
use Rattle.list.proofs.Firsts.{has_is}
use Rattle.model.specs.Rust.{holds_entry}
use Rattle.queues.specs.Out.{entries}
use Rattle.queues.proofs.out_list.OutList.holds.Goals as goal

pub returns : goal.returns
returns c =
    any_from_yields_List (holds_entry c.args.handle) _ _ _ c.any.ensures.ran (YieldsList-from_slice (entries c.args.self.now) cc) (λ x b q k. search (rules, tests)) ∙ has_is _ _
