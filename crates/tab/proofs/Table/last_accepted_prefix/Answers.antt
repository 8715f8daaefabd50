use Rattle.std.proofs.Common.{refl}
use Rattle.model.specs.Calls as Calls
use Rattle.model.specs.Port.{reply}
use Rattle.tab.specs.Tables.{state_of}
use Rattle.tab.specs.Calls.{answer_of, prefix_in}
use Rattle.tab.proofs.Called.{refused_table, refused_answer, in_form, granted_table, granted_answer}
use Rattle.tab.proofs.Fitting.{code-says, call-fits, last-fits}
use Rattle.tab.proofs.Table.last_accepted_prefix.Goals as goal

pub returns-clause-table : goal.returns-clause-table
returns-clause-table c = refused_table Calls.last_accepted_prefix _ _ c.is_well_formed.ensures.test c.if-is_well_formed.false refl

pub returns-clause-answer : goal.returns-clause-answer
returns-clause-answer c = refused_answer Calls.last_accepted_prefix _ _ c.is_well_formed.ensures.test c.if-is_well_formed.false refl prefix_in

pub returns-then-is_well_formed-clause-table : goal.returns-then-is_well_formed-clause-table
unfolding reply
returns-then-is_well_formed-clause-table c =
    let form = in_form Calls.last_accepted_prefix _ _ c.is_well_formed.ensures.test c.if-is_well_formed.true in
    granted_table Calls.last_accepted_prefix _ _ c.is_well_formed.ensures.test c.if-is_well_formed.true _ form refl

pub returns-then-is_well_formed-clause-answer : goal.returns-then-is_well_formed-clause-answer
unfolding reply state_of answer_of
returns-then-is_well_formed-clause-answer c = granted_answer Calls.last_accepted_prefix _ _ c.is_well_formed.ensures.test c.if-is_well_formed.true prefix_in _ refl

pub returns-clause-code : goal.returns-clause-code
returns-clause-code c = code-says prefix_in _ _ (returns-clause-answer c) (call-fits prefix_in _ refl last-fits _)

pub returns-then-is_well_formed-clause-code : goal.returns-then-is_well_formed-clause-code
returns-then-is_well_formed-clause-code c = code-says prefix_in _ _ (returns-then-is_well_formed-clause-answer c) (call-fits prefix_in _ refl last-fits _)
