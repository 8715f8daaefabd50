use Rattle.std.proofs.Common.{refl}
use Rattle.model.specs.Calls as Calls
use Rattle.tab.specs.Calls.{rows_in}
use Rattle.tab.proofs.Called.{refused_table, refused_answer, refused_lent, in_form, granted_table, granted_answer, granted_lent}
use Rattle.tab.proofs.Fitting.{code-says, call-fits, resends-fits}
use Rattle.tab.proofs.Table.take_resends.Goals as goal

pub returns-then-not-is_well_formed-clause-table : goal.returns-then-not-is_well_formed-clause-table
returns-then-not-is_well_formed-clause-table c = refused_table (Calls.take_resends c.args.clock.time c.args.clock.timeout c.args.clock.give_up c.args.lent.now) _ _ c.is_well_formed.ensures.test c.if-not-is_well_formed.true refl

pub returns-then-not-is_well_formed-clause-answer : goal.returns-then-not-is_well_formed-clause-answer
returns-then-not-is_well_formed-clause-answer c = refused_answer (Calls.take_resends c.args.clock.time c.args.clock.timeout c.args.clock.give_up c.args.lent.now) _ _ c.is_well_formed.ensures.test c.if-not-is_well_formed.true refl rows_in

pub returns-then-not-is_well_formed-clause-lent : goal.returns-then-not-is_well_formed-clause-lent
returns-then-not-is_well_formed-clause-lent c = refused_lent (Calls.take_resends c.args.clock.time c.args.clock.timeout c.args.clock.give_up c.args.lent.now) _ _ c.is_well_formed.ensures.test c.if-not-is_well_formed.true refl c.args.lent.now

pub resend-requires : goal.resend-requires
resend-requires c = in_form (Calls.take_resends c.args.clock.time c.args.clock.timeout c.args.clock.give_up c.args.lent.now) _ _ c.is_well_formed.ensures.test c.if-not-is_well_formed.false

pub returns-clause-table : goal.returns-clause-table
returns-clause-table c = granted_table (Calls.take_resends c.args.clock.time c.args.clock.timeout c.args.clock.give_up c.args.lent.now) _ _ c.is_well_formed.ensures.test c.if-not-is_well_formed.false _ c.resend.ensures.table c.resend.ensures.state

pub returns-clause-answer : goal.returns-clause-answer
returns-clause-answer c = granted_answer (Calls.take_resends c.args.clock.time c.args.clock.timeout c.args.clock.give_up c.args.lent.now) _ _ c.is_well_formed.ensures.test c.if-not-is_well_formed.false rows_in _ c.resend.ensures.answer

pub returns-clause-lent : goal.returns-clause-lent
returns-clause-lent c = granted_lent (Calls.take_resends c.args.clock.time c.args.clock.timeout c.args.clock.give_up c.args.lent.now) _ _ c.is_well_formed.ensures.test c.if-not-is_well_formed.false _ _ c.resend.ensures.lent

pub returns-then-not-is_well_formed-clause-code : goal.returns-then-not-is_well_formed-clause-code
returns-then-not-is_well_formed-clause-code c = code-says rows_in _ _ (returns-then-not-is_well_formed-clause-answer c) (call-fits rows_in _ refl (resends-fits _ _ _ _) _)

pub returns-clause-code : goal.returns-clause-code
returns-clause-code c = code-says rows_in _ _ (returns-clause-answer c) (call-fits rows_in _ refl (resends-fits _ _ _ _) _)
