use Rattle.std.proofs.Common.{refl}
use Rattle.model.specs.Calls as Calls
use Rattle.tab.specs.Calls.{view_in}
use Rattle.tab.proofs.Called.{refused_table, refused_answer, in_form, granted_table, granted_answer}
use Rattle.tab.proofs.Fitting.{code-says, call-fits, channel-fits}
use Rattle.tab.proofs.Table.channel.Goals as goal

pub returns-then-not-is_well_formed-clause-table : goal.returns-then-not-is_well_formed-clause-table
returns-then-not-is_well_formed-clause-table c = refused_table (Calls.channel c.args.key.now) _ _ c.is_well_formed.ensures.test c.if-not-is_well_formed.true refl

pub returns-then-not-is_well_formed-clause-answer : goal.returns-then-not-is_well_formed-clause-answer
returns-then-not-is_well_formed-clause-answer c = refused_answer (Calls.channel c.args.key.now) _ _ c.is_well_formed.ensures.test c.if-not-is_well_formed.true refl view_in

pub find_or_make-requires : goal.find_or_make-requires
find_or_make-requires c = in_form (Calls.channel c.args.key.now) _ _ c.is_well_formed.ensures.test c.if-not-is_well_formed.false

pub returns-clause-table : goal.returns-clause-table
returns-clause-table c = granted_table (Calls.channel c.args.key.now) _ _ c.is_well_formed.ensures.test c.if-not-is_well_formed.false _ c.find_or_make.ensures.table c.find_or_make.ensures.state

pub returns-clause-answer : goal.returns-clause-answer
returns-clause-answer c = granted_answer (Calls.channel c.args.key.now) _ _ c.is_well_formed.ensures.test c.if-not-is_well_formed.false view_in _ c.find_or_make.ensures.answer

pub returns-then-not-is_well_formed-clause-code : goal.returns-then-not-is_well_formed-clause-code
returns-then-not-is_well_formed-clause-code c = code-says view_in _ _ (returns-then-not-is_well_formed-clause-answer c) (call-fits view_in _ refl (channel-fits _) _)

pub returns-clause-code : goal.returns-clause-code
returns-clause-code c = code-says view_in _ _ (returns-clause-answer c) (call-fits view_in _ refl (channel-fits _) _)
