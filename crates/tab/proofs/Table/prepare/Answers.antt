use Rattle.std.proofs.Common.{refl}
use Rattle.model.specs.Calls as Calls
use Rattle.tab.specs.Calls.{prepared_in}
use Rattle.tab.proofs.Called.{refused_table, refused_answer, in_form, granted_table, granted_answer}
use Rattle.tab.proofs.Fitting.{code-says, call-fits, prepare-fits}
use Rattle.tab.proofs.Table.prepare.Goals as goal

pub returns-then-not-is_well_formed-clause-table : goal.returns-then-not-is_well_formed-clause-table
returns-then-not-is_well_formed-clause-table c =
    refused_table (Calls.prepare c.args.time c.args.key.now c.args.reliable c.args.handles.now) _ _ c.is_well_formed.ensures.test c.if-not-is_well_formed.true refl

pub returns-then-not-is_well_formed-clause-answer : goal.returns-then-not-is_well_formed-clause-answer
returns-then-not-is_well_formed-clause-answer c =
    refused_answer (Calls.prepare c.args.time c.args.key.now c.args.reliable c.args.handles.now) _ _ c.is_well_formed.ensures.test c.if-not-is_well_formed.true refl prepared_in

pub send-requires : goal.send-requires
send-requires c = in_form (Calls.prepare c.args.time c.args.key.now c.args.reliable c.args.handles.now) _ _ c.is_well_formed.ensures.test c.if-not-is_well_formed.false

pub returns-clause-table : goal.returns-clause-table
returns-clause-table c =
    granted_table (Calls.prepare c.args.time c.args.key.now c.args.reliable c.args.handles.now) _ _ c.is_well_formed.ensures.test c.if-not-is_well_formed.false _ c.send.ensures.table c.send.ensures.state

pub returns-clause-answer : goal.returns-clause-answer
returns-clause-answer c =
    granted_answer (Calls.prepare c.args.time c.args.key.now c.args.reliable c.args.handles.now) _ _ c.is_well_formed.ensures.test c.if-not-is_well_formed.false prepared_in _ c.send.ensures.answer

pub returns-then-not-is_well_formed-clause-code : goal.returns-then-not-is_well_formed-clause-code
returns-then-not-is_well_formed-clause-code c = code-says prepared_in _ _ (returns-then-not-is_well_formed-clause-answer c) (call-fits prepared_in _ refl (λ s. prepare-fits _ s _ _ _) _)

pub returns-clause-code : goal.returns-clause-code
returns-clause-code c = code-says prepared_in _ _ (returns-clause-answer c) (call-fits prepared_in _ refl (λ s. prepare-fits _ s _ _ _) _)
