use Rattle.std.proofs.Common.{refl, sym, ap, ◌+◌, ◌∙◌}
use Rattle.tab.specs.Calls.{held_in}
use Rattle.tab.proofs.Fitting.{call-fits, holds-fits}
use Rattle.door.proofs.Fitting.{held-result, held-fits}
use Rattle.door.proofs.relay_holds.Goals as goal

pub returns-in-Ok : goal.returns-in-Ok
returns-in-Ok c = ap held-result (sym c.in-Ok.is ∙ c.holds.ensures.answer) ∙ held-fits _ (call-fits held_in _ refl (holds-fits _) _)

pub returns-in-Err : goal.returns-in-Err
returns-in-Err c = ap (λ k. 2147483648 + k) c.code.ensures ∙ ap held-result (sym c.in-Err.is ∙ c.holds.ensures.answer) ∙ held-fits _ (call-fits held_in _ refl (holds-fits _) _)
