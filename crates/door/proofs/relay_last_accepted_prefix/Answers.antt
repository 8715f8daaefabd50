use Rattle.std.proofs.Common.{refl, sym, ap, ◌*◌, ◌∙◌}
use Rattle.tab.specs.Calls.{prefix_in}
use Rattle.tab.proofs.Fitting.{call-fits, last-fits}
use Rattle.door.proofs.Fitting.{prefix-result, prefix-is-fits}
use Rattle.door.proofs.relay_last_accepted_prefix.Goals as goal

pub returns-in-Ok : goal.returns-in-Ok
returns-in-Ok c = ap prefix-result (sym c.in-Ok.is ∙ c.last_accepted_prefix.ensures.answer) ∙ prefix-is-fits _ (call-fits prefix_in _ refl last-fits _)

pub returns-in-Err : goal.returns-in-Err
returns-in-Err c = ap (λ k. k * 4294967296) c.code.ensures ∙ ap prefix-result (sym c.in-Err.is ∙ c.last_accepted_prefix.ensures.answer) ∙ prefix-is-fits _ (call-fits prefix_in _ refl last-fits _)
