use Rattle.std.proofs.Common.{◌∙◌, Bool, rules, tests}
use Rattle.std.proofs.lemmas.Iterator.{YieldsList-from_slice}
use Rattle.std.proofs.lemmas.Iterator.Search.{all_from_yields_List}
use Rattle.packet.specs.declared.OutEntry.{OutEntry}
use Rattle.queues.specs.Out.{entries, calm}
use Rattle.queues.proofs.Quiet.{all_is}
use Rattle.queues.proofs.out_list.OutList.is_quiet.Goals as goal

pub returns : goal.returns
returns c =
    let test : OutEntry → Bool = λ e. calm c.args.clock.time c.args.clock.timeout c.args.clock.give_up e in
    all_from_yields_List test _ _ _ c.all.ensures.ran (YieldsList-from_slice (entries c.args.self.now) cc) (λ x b q k. search (rules, tests)) ∙ all_is test _
