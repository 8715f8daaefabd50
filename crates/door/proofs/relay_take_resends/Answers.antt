use Rattle.std.proofs.Common.{◌≤◌, rules, refl, sym, ap, ◌+◌, ◌∙◌}
use Rattle.tab.specs.Calls.{rows_in}
use Rattle.tab.proofs.Fitting.{call-fits, resends-fits}
use Rattle.door.proofs.Fitting.{rows-result, rows-fits}
use Rattle.door.proofs.relay_take_resends.Goals as goal

pub overflow_cast-result : goal.overflow_cast-result
overflow_cast-result c =
    let m : c.in-Ok.rows ≤ 384 = c.in-Ok.ensures.few in
    search rules

pub returns-in-Ok-clause-number : goal.returns-in-Ok-clause-number
returns-in-Ok-clause-number c = ap rows-result (sym c.in-Ok.is ∙ c.take_resends.ensures.answer) ∙ rows-fits _ (call-fits rows_in _ refl (resends-fits _ _ _ _) _)

pub returns-in-Err-clause-number : goal.returns-in-Err-clause-number
returns-in-Err-clause-number c = ap (λ k. 2147483648 + k) c.code.ensures ∙ ap rows-result (sym c.in-Err.is ∙ c.take_resends.ensures.answer) ∙ rows-fits _ (call-fits rows_in _ refl (resends-fits _ _ _ _) _)
