use Rattle.std.proofs.Common.{◌≡◌, ◌≤◌, refl, sym, ap, ◌+◌, ◌∙◌, Ok, arith, rules}
use Rattle.std.specs.declared.option.Option.TheVariants.{None, Some}
use Rattle.tab.specs.Calls.{bundle_in}
use Rattle.tab.proofs.Fitting.{call-fits, next-fits}
use Rattle.door.proofs.Fitting.{bundle-result, bundle-fits}
use Rattle.door.proofs.Long.{popped-small}
use Rattle.door.proofs.relay_next_bundle.Goals as goal

pub overflow_cast-result : goal.overflow_cast-result
overflow_cast-result c =
    let m : c.in-Ok-Some.n ≤ 64 = popped-small c.args.k.now c.args.lent.now c.args.t.now c.next_bundle.result c.in-Ok-Some.n c.next_bundle.ensures.answer (c.in-Ok-Some.is ∙ ap Ok c.in-Ok-Some.field-0-is) in
    search rules

pub overflow_add-result : goal.overflow_add-result
overflow_add-result c =
    let m : c.in-Ok-Some.n ≤ 64 = popped-small c.args.k.now c.args.lent.now c.args.t.now c.next_bundle.result c.in-Ok-Some.n c.next_bundle.ensures.answer (c.in-Ok-Some.is ∙ ap Ok c.in-Ok-Some.field-0-is) in
    search rules

pub returns-in-Ok-None-clause-number : goal.returns-in-Ok-None-clause-number
returns-in-Ok-None-clause-number c = ap bundle-result (sym (c.in-Ok-None.is ∙ ap Ok c.in-Ok-None.field-0-is) ∙ c.next_bundle.ensures.answer) ∙ bundle-fits _ (call-fits bundle_in _ refl (λ s. next-fits _ s _) _)

pub returns-in-Ok-Some-clause-number : goal.returns-in-Ok-Some-clause-number
returns-in-Ok-Some-clause-number c = ap bundle-result (sym (c.in-Ok-Some.is ∙ ap Ok c.in-Ok-Some.field-0-is) ∙ c.next_bundle.ensures.answer) ∙ bundle-fits _ (call-fits bundle_in _ refl (λ s. next-fits _ s _) _)

pub returns-in-Err-clause-number : goal.returns-in-Err-clause-number
returns-in-Err-clause-number c = ap (λ k. 2147483648 + k) c.code.ensures ∙ ap bundle-result (sym c.in-Err.is ∙ c.next_bundle.ensures.answer) ∙ bundle-fits _ (call-fits bundle_in _ refl (λ s. next-fits _ s _) _)
