-- The channel of the last record, or a refusal.
use Rattle.std.proofs.Common.{sym, ◌∙◌, Ok, Err}
use Rattle.script.specs.Holding.{plain_of}
use Rattle.script.proofs.Says.{numbered, delivered_says}
use Rattle.script.proofs.Relay.deliver.Goals as goal

pub returns-in-Ok-clause-says : goal.returns-in-Ok-clause-says
returns-in-Ok-clause-says c =
    delivered_says (plain_of c.args.self.now) c.args.time c.args.address c.args.r _ _ _ _ (Ok c.in-Ok.view) _ _ _ _ (c.as_slice.ensures ∙ c.push.ensures.items) c.accept-delivery.ensures.table c.accept-delivery.ensures.answer c.use_up.ensures.used (sym c.in-Ok.is) c.write_ok.ensures.wrote

pub returns-in-Err-clause-says : goal.returns-in-Err-clause-says
returns-in-Err-clause-says c =
    delivered_says (plain_of c.args.self.now) c.args.time c.args.address c.args.r _ _ _ _ (Err c.in-Err.refusal) _ _ _ _ (c.as_slice.ensures ∙ c.push.ensures.items) c.accept-delivery.ensures.table c.accept-delivery.ensures.answer c.use_up.ensures.used (sym c.in-Err.is) (numbered _ _ _ _ _ _ c.code.ensures c.write_no.ensures.wrote)
