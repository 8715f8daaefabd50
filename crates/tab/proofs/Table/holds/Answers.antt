use Rattle.std.proofs.Common.{Ok, ap, refl}
use Rattle.model.specs.Calls as Calls
use Rattle.model.specs.Port.{reply}
use Rattle.tab.specs.Calls.{answer_of, held_in}
use Rattle.tab.proofs.Called.{refused_table, refused_answer, in_form, granted_table, granted_answer}
use Rattle.tab.proofs.Fitting.{code-says, call-fits, holds-fits}
use Rattle.tab.proofs.Table.holds.Goals as goal

pub returns-clause-table : goal.returns-clause-table
returns-clause-table c = refused_table (Calls.holds c.args.handle) _ _ c.is_well_formed.ensures.test c.if-is_well_formed.false refl

pub returns-clause-answer : goal.returns-clause-answer
returns-clause-answer c = refused_answer (Calls.holds c.args.handle) _ _ c.is_well_formed.ensures.test c.if-is_well_formed.false refl held_in

pub returns-then-is_well_formed-clause-table : goal.returns-then-is_well_formed-clause-table
unfolding reply
returns-then-is_well_formed-clause-table c =
    let form = in_form (Calls.holds c.args.handle) _ _ c.is_well_formed.ensures.test c.if-is_well_formed.true in
    granted_table (Calls.holds c.args.handle) _ _ c.is_well_formed.ensures.test c.if-is_well_formed.true _ form refl

pub any_holds-requires : goal.any_holds-requires
any_holds-requires c = in_form (Calls.holds c.args.handle) _ _ c.is_well_formed.ensures.test c.if-is_well_formed.true

pub returns-then-is_well_formed-clause-answer : goal.returns-then-is_well_formed-clause-answer
unfolding reply answer_of
returns-then-is_well_formed-clause-answer c =
    granted_answer (Calls.holds c.args.handle) _ _ c.is_well_formed.ensures.test c.if-is_well_formed.true held_in _ (ap Ok c.any_holds.ensures)

pub returns-clause-code : goal.returns-clause-code
returns-clause-code c = code-says held_in _ _ (returns-clause-answer c) (call-fits held_in _ refl (holds-fits _) _)

pub returns-then-is_well_formed-clause-code : goal.returns-then-is_well_formed-clause-code
returns-then-is_well_formed-clause-code c = code-says held_in _ _ (returns-then-is_well_formed-clause-answer c) (call-fits held_in _ refl (holds-fits _) _)
