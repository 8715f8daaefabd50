use Rattle.std.proofs.Common.{refl}
use Rattle.model.specs.Calls as Calls
use Rattle.tab.specs.Calls.{done_in}
use Rattle.tab.proofs.Called.{refused_table, refused_answer, in_form, granted_table, granted_answer}
use Rattle.tab.proofs.Fitting.{code-says, call-fits, written-fits}
use Rattle.tab.proofs.Table.acks_written.Goals as goal

pub returns-then-not-is_well_formed-clause-table : goal.returns-then-not-is_well_formed-clause-table
returns-then-not-is_well_formed-clause-table c = refused_table (Calls.acks_written c.args.key.now c.args.names.now) _ _ c.is_well_formed.ensures.test c.if-not-is_well_formed.true refl

pub returns-then-not-is_well_formed-clause-answer : goal.returns-then-not-is_well_formed-clause-answer
returns-then-not-is_well_formed-clause-answer c = refused_answer (Calls.acks_written c.args.key.now c.args.names.now) _ _ c.is_well_formed.ensures.test c.if-not-is_well_formed.true refl done_in

pub take_written-requires : goal.take_written-requires
take_written-requires c = in_form (Calls.acks_written c.args.key.now c.args.names.now) _ _ c.is_well_formed.ensures.test c.if-not-is_well_formed.false

pub returns-clause-table : goal.returns-clause-table
returns-clause-table c = granted_table (Calls.acks_written c.args.key.now c.args.names.now) _ _ c.is_well_formed.ensures.test c.if-not-is_well_formed.false _ c.take_written.ensures.table c.take_written.ensures.state

pub returns-clause-answer : goal.returns-clause-answer
returns-clause-answer c = granted_answer (Calls.acks_written c.args.key.now c.args.names.now) _ _ c.is_well_formed.ensures.test c.if-not-is_well_formed.false done_in _ c.take_written.ensures.answer

pub returns-then-not-is_well_formed-clause-code : goal.returns-then-not-is_well_formed-clause-code
returns-then-not-is_well_formed-clause-code c = code-says done_in _ _ (returns-then-not-is_well_formed-clause-answer c) (call-fits done_in _ refl (λ s. written-fits _ s _) _)

pub returns-clause-code : goal.returns-clause-code
returns-clause-code c = code-says done_in _ _ (returns-clause-answer c) (call-fits done_in _ refl (λ s. written-fits _ s _) _)
