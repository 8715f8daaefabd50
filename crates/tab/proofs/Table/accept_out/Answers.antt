use Rattle.std.proofs.Common.{◌≡◌, Ok, Err, true, false, refl, sym, ap, ◌∙◌, arith, rules, length, ◌≤◌, ◌<◌}
use Rattle.tab.proofs.Put.{time_form}
use Rattle.tab.proofs.Doors.{out_one_table, out_one_answer, out_two_table, out_two_answer, out_three_table, out_three_answer, out_all_table, out_all_answer}
use Rattle.tab.specs.Calls.{view_in}
use Rattle.tab.proofs.Fitting.{code-says, call-fits, accept-out-fits}
use Rattle.tab.proofs.Table.accept_out.Goals as goal

pub returns-then-not-is_well_formed-clause-table : goal.returns-then-not-is_well_formed-clause-table
returns-then-not-is_well_formed-clause-table c = out_one_table c.args.self.now c.args.time c.args.address c.args.r.now _ c.is_well_formed.ensures.test c.if-not-is_well_formed.true

pub returns-then-not-is_well_formed-clause-answer : goal.returns-then-not-is_well_formed-clause-answer
returns-then-not-is_well_formed-clause-answer c = out_one_answer c.args.self.now c.args.time c.args.address c.args.r.now _ c.is_well_formed.ensures.test c.if-not-is_well_formed.true

pub returns-then-not-well_made-clause-table : goal.returns-then-not-well_made-clause-table
returns-then-not-well_made-clause-table c = out_two_table c.args.self.now c.args.time c.args.address c.args.r.now _ c.is_well_formed.ensures.test c.if-not-is_well_formed.false (c.is_well_formed.ensures.means.0 c.if-not-is_well_formed.false).form _ c.well_made.ensures c.if-not-well_made.true

pub returns-then-not-well_made-clause-answer : goal.returns-then-not-well_made-clause-answer
returns-then-not-well_made-clause-answer c = out_two_answer c.args.self.now c.args.time c.args.address c.args.r.now _ c.is_well_formed.ensures.test c.if-not-is_well_formed.false (c.is_well_formed.ensures.means.0 c.if-not-is_well_formed.false).form _ c.well_made.ensures c.if-not-well_made.true

pub returns-then-time-self-clause-table : goal.returns-then-time-self-clause-table
returns-then-time-self-clause-table c = out_three_table c.args.self.now c.args.time c.args.address c.args.r.now _ c.is_well_formed.ensures.test c.if-not-is_well_formed.false (c.is_well_formed.ensures.means.0 c.if-not-is_well_formed.false).form _ c.well_made.ensures c.if-not-well_made.false c.if-time-self.true

pub returns-then-time-self-clause-answer : goal.returns-then-time-self-clause-answer
returns-then-time-self-clause-answer c = out_three_answer c.args.self.now c.args.time c.args.address c.args.r.now _ c.is_well_formed.ensures.test c.if-not-is_well_formed.false (c.is_well_formed.ensures.means.0 c.if-not-is_well_formed.false).form _ c.well_made.ensures c.if-not-well_made.false c.if-time-self.true

pub returns-clause-table : goal.returns-clause-table
returns-clause-table c = out_all_table c.args.self.now c.args.time c.args.address c.args.r.now _ c.is_well_formed.ensures.test c.if-not-is_well_formed.false (c.is_well_formed.ensures.means.0 c.if-not-is_well_formed.false).form _ c.well_made.ensures c.if-not-well_made.false c.if-time-self.false _ c.forward.ensures.table c.forward.ensures.state

pub returns-clause-answer : goal.returns-clause-answer
returns-clause-answer c = out_all_answer c.args.self.now c.args.time c.args.address c.args.r.now _ c.is_well_formed.ensures.test c.if-not-is_well_formed.false (c.is_well_formed.ensures.means.0 c.if-not-is_well_formed.false).form _ c.well_made.ensures c.if-not-well_made.false c.if-time-self.false _ c.forward.ensures.result

pub returns-then-not-is_well_formed-clause-code : goal.returns-then-not-is_well_formed-clause-code
returns-then-not-is_well_formed-clause-code c = code-says view_in _ _ (returns-then-not-is_well_formed-clause-answer c) (call-fits view_in _ refl (accept-out-fits _ _ _) _)

pub returns-then-not-well_made-clause-code : goal.returns-then-not-well_made-clause-code
returns-then-not-well_made-clause-code c = code-says view_in _ _ (returns-then-not-well_made-clause-answer c) (call-fits view_in _ refl (accept-out-fits _ _ _) _)

pub returns-then-time-self-clause-code : goal.returns-then-time-self-clause-code
returns-then-time-self-clause-code c = code-says view_in _ _ (returns-then-time-self-clause-answer c) (call-fits view_in _ refl (accept-out-fits _ _ _) _)

pub returns-clause-code : goal.returns-clause-code
returns-clause-code c = code-says view_in _ _ (returns-clause-answer c) (call-fits view_in _ refl (accept-out-fits _ _ _) _)
