use Rattle.std.proofs.Common.{refl}
use Rattle.model.specs.Calls as Calls
use Rattle.model.specs.Port.{reply}
use Rattle.tab.specs.Tables.{state_of}
use Rattle.tab.specs.Calls.{answer_of, done_in}
use Rattle.tab.proofs.Called.{refused_table, refused_answer, in_form, granted_table, granted_answer}
use Rattle.tab.proofs.Fitting.{code-says, call-fits, transfer-fits}
use Rattle.tab.proofs.Table.transfer_prefix_offset_from_last_received.Goals as goal

pub returns-then-not-is_well_formed-clause-table : goal.returns-then-not-is_well_formed-clause-table
returns-then-not-is_well_formed-clause-table c = refused_table Calls.transfer_prefix_offset _ _ c.is_well_formed.ensures.test c.if-not-is_well_formed.true refl

pub returns-then-not-is_well_formed-clause-answer : goal.returns-then-not-is_well_formed-clause-answer
returns-then-not-is_well_formed-clause-answer c = refused_answer Calls.transfer_prefix_offset _ _ c.is_well_formed.ensures.test c.if-not-is_well_formed.true refl done_in

pub set_offset-requires : goal.set_offset-requires
set_offset-requires c = in_form Calls.transfer_prefix_offset _ _ c.is_well_formed.ensures.test c.if-not-is_well_formed.false

pub returns-clause-table : goal.returns-clause-table
unfolding reply state_of
returns-clause-table c = granted_table Calls.transfer_prefix_offset _ _ c.is_well_formed.ensures.test c.if-not-is_well_formed.false _ c.set_offset.ensures.table c.set_offset.ensures.state

pub returns-clause-answer : goal.returns-clause-answer
unfolding reply answer_of
returns-clause-answer c = granted_answer Calls.transfer_prefix_offset _ _ c.is_well_formed.ensures.test c.if-not-is_well_formed.false done_in _ refl

pub returns-then-not-is_well_formed-clause-code : goal.returns-then-not-is_well_formed-clause-code
returns-then-not-is_well_formed-clause-code c = code-says done_in _ _ (returns-then-not-is_well_formed-clause-answer c) (call-fits done_in _ refl transfer-fits _)

pub returns-clause-code : goal.returns-clause-code
returns-clause-code c = code-says done_in _ _ (returns-clause-answer c) (call-fits done_in _ refl transfer-fits _)
