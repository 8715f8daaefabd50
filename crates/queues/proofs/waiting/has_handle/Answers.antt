use Rattle.std.proofs.Common.{rules, tests, sym, ◌∙◌}
use Rattle.std.proofs.lemmas.Iterator.{YieldsList-from_slice}
use Rattle.std.proofs.lemmas.Iterator.Search.{any_from_yields_List}
use Rattle.model.specs.Rust.{holds_packet}
use Rattle.queues.proofs.Handles.{has_any}
use Rattle.queues.proofs.waiting.has_handle.Goals as goal

pub returns : goal.returns
returns c =
    let any = any_from_yields_List (holds_packet c.args.handle) _ _ c.any.result c.any.ensures.ran (YieldsList-from_slice c.args.packets.now cc) (λ x b q k. search (rules, tests)) in
    any ∙ sym (has_any (holds_packet c.args.handle) c.args.packets.now)
