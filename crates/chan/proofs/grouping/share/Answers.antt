use Rattle.std.proofs.Common.{rules, tests, sym, ◌∙◌}
use Rattle.std.proofs.lemmas.Iterator.{YieldsList-from_slice}
use Rattle.std.proofs.lemmas.Iterator.Search.{all_from_yields_List}
use Rattle.packet.specs.Data.{range_of}
use Rattle.model.specs.Group.{is_range}
use Rattle.chan.proofs.Steps.{share_all}
use Rattle.chan.proofs.grouping.share.Goals as goal

pub returns : goal.returns
returns c =
    let all = all_from_yields_List (λ p. is_range c.args.first c.args.last (range_of p)) _ _ c.all.result c.all.ensures.ran (YieldsList-from_slice c.args.packets.now cc) (λ x b q k. search (rules, tests)) in
    all ∙ sym (share_all c.args.first c.args.last c.args.packets.now)
