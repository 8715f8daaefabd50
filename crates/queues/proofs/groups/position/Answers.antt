use Rattle.std.proofs.Common.{rules, tests, sym, ◌∙◌}
use Rattle.std.proofs.lemmas.Iterator.{YieldsList-from_slice}
use Rattle.std.proofs.lemmas.Iterator.Search.{position_from_yields_List}
use Rattle.model.specs.Group.{is_first}
use Rattle.queues.specs.declared.groups.Fragments.{Fragments}
use Rattle.queues.specs.Places.{group_of}
use Rattle.list.proofs.Firsts.{position_is}
use Rattle.queues.proofs.AllGroups.{position_map}
use Rattle.queues.proofs.groups.position.Goals as goal

pub returns : goal.returns
returns c =
    let first = position_from_yields_List (λ (g : Fragments). is_first c.args.first (group_of g)) _ _ c.position.result c.position.ensures.ran (YieldsList-from_slice c.args.groups.now cc) (λ x b q k. search (rules, tests)) in
    first ∙ (position_is (λ (g : Fragments). is_first c.args.first (group_of g)) c.args.groups.now ∙ sym (position_map (is_first c.args.first) group_of c.args.groups.now))
