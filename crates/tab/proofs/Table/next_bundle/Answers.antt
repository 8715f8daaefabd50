use Rattle.std.proofs.Common.{refl}
use Rattle.model.specs.Calls as Calls
use Rattle.tab.specs.Calls.{bundle_in}
use Rattle.tab.proofs.Called.{refused_table, refused_answer, refused_lent, in_form, granted_table, granted_answer, granted_lent}
use Rattle.tab.proofs.Fitting.{code-says, call-fits, next-fits}
use Rattle.tab.proofs.Table.next_bundle.Goals as goal

pub returns-then-not-is_well_formed-clause-table : goal.returns-then-not-is_well_formed-clause-table
returns-then-not-is_well_formed-clause-table c = refused_table (Calls.next_bundle c.args.key.now c.args.lent.now) _ _ c.is_well_formed.ensures.test c.if-not-is_well_formed.true refl

pub returns-then-not-is_well_formed-clause-answer : goal.returns-then-not-is_well_formed-clause-answer
returns-then-not-is_well_formed-clause-answer c = refused_answer (Calls.next_bundle c.args.key.now c.args.lent.now) _ _ c.is_well_formed.ensures.test c.if-not-is_well_formed.true refl bundle_in

pub returns-then-not-is_well_formed-clause-lent : goal.returns-then-not-is_well_formed-clause-lent
returns-then-not-is_well_formed-clause-lent c = refused_lent (Calls.next_bundle c.args.key.now c.args.lent.now) _ _ c.is_well_formed.ensures.test c.if-not-is_well_formed.true refl c.args.lent.now

pub hand_out-requires : goal.hand_out-requires
hand_out-requires c = in_form (Calls.next_bundle c.args.key.now c.args.lent.now) _ _ c.is_well_formed.ensures.test c.if-not-is_well_formed.false

pub returns-clause-table : goal.returns-clause-table
returns-clause-table c = granted_table (Calls.next_bundle c.args.key.now c.args.lent.now) _ _ c.is_well_formed.ensures.test c.if-not-is_well_formed.false _ c.hand_out.ensures.table c.hand_out.ensures.state

pub returns-clause-answer : goal.returns-clause-answer
returns-clause-answer c = granted_answer (Calls.next_bundle c.args.key.now c.args.lent.now) _ _ c.is_well_formed.ensures.test c.if-not-is_well_formed.false bundle_in _ c.hand_out.ensures.answer

pub returns-clause-lent : goal.returns-clause-lent
returns-clause-lent c = granted_lent (Calls.next_bundle c.args.key.now c.args.lent.now) _ _ c.is_well_formed.ensures.test c.if-not-is_well_formed.false _ _ c.hand_out.ensures.lent

pub returns-then-not-is_well_formed-clause-code : goal.returns-then-not-is_well_formed-clause-code
returns-then-not-is_well_formed-clause-code c = code-says bundle_in _ _ (returns-then-not-is_well_formed-clause-answer c) (call-fits bundle_in _ refl (λ s. next-fits _ s _) _)

pub returns-clause-code : goal.returns-clause-code
returns-clause-code c = code-says bundle_in _ _ (returns-clause-answer c) (call-fits bundle_in _ refl (λ s. next-fits _ s _) _)
