use Rattle.std.proofs.Common.{◌≡◌, Ok, Err, true, false, refl, sym, ap, ◌∙◌, arith, rules, length, ◌≤◌, ◌<◌}
use Rattle.tab.proofs.Put.{time_form}
use Rattle.tab.proofs.Doors.{one_table, one_answer, two_table, two_answer, three_table, three_answer, all_table, all_answer}
use Rattle.tab.proofs.Fitting.{delivery-code}
use Rattle.tab.proofs.Table.accept.Goals as goal

pub returns-then-not-is_well_formed-clause-table : goal.returns-then-not-is_well_formed-clause-table
returns-then-not-is_well_formed-clause-table c = one_table c.args.self.now c.args.time c.args.address c.args.records.now _ c.is_well_formed.ensures.test c.if-not-is_well_formed.true

pub returns-then-not-is_well_formed-clause-answer : goal.returns-then-not-is_well_formed-clause-answer
returns-then-not-is_well_formed-clause-answer c = one_answer c.args.self.now c.args.time c.args.address c.args.records.now _ c.is_well_formed.ensures.test _ c.refused.ensures c.if-not-is_well_formed.true

pub returns-then-not-is_well_made-clause-table : goal.returns-then-not-is_well_made-clause-table
returns-then-not-is_well_made-clause-table c = two_table c.args.self.now c.args.time c.args.address c.args.records.now _ c.is_well_formed.ensures.test c.if-not-is_well_formed.false (c.is_well_formed.ensures.means.0 c.if-not-is_well_formed.false).form _ c.is_well_made.ensures c.if-not-is_well_made.true

pub returns-then-not-is_well_made-clause-answer : goal.returns-then-not-is_well_made-clause-answer
returns-then-not-is_well_made-clause-answer c = two_answer c.args.self.now c.args.time c.args.address c.args.records.now _ c.is_well_formed.ensures.test c.if-not-is_well_formed.false (c.is_well_formed.ensures.means.0 c.if-not-is_well_formed.false).form _ c.is_well_made.ensures _ c.refused-then-not-is_well_made.ensures c.if-not-is_well_made.true

pub returns-then-time-self-clause-table : goal.returns-then-time-self-clause-table
returns-then-time-self-clause-table c = three_table c.args.self.now c.args.time c.args.address c.args.records.now _ c.is_well_formed.ensures.test c.if-not-is_well_formed.false (c.is_well_formed.ensures.means.0 c.if-not-is_well_formed.false).form _ c.is_well_made.ensures c.if-not-is_well_made.false c.if-time-self.true

pub returns-then-time-self-clause-answer : goal.returns-then-time-self-clause-answer
returns-then-time-self-clause-answer c = three_answer c.args.self.now c.args.time c.args.address c.args.records.now _ c.is_well_formed.ensures.test c.if-not-is_well_formed.false (c.is_well_formed.ensures.means.0 c.if-not-is_well_formed.false).form _ c.is_well_made.ensures _ c.refused-then-time-self.ensures c.if-not-is_well_made.false c.if-time-self.true

pub returns-clause-table : goal.returns-clause-table
returns-clause-table c = all_table c.args.self.now c.args.time c.args.address c.args.records.now _ c.is_well_formed.ensures.test c.if-not-is_well_formed.false (c.is_well_formed.ensures.means.0 c.if-not-is_well_formed.false).form _ c.is_well_made.ensures c.if-not-is_well_made.false c.if-time-self.false _ c.accept_each.ensures.table c.accept_each.ensures.state

pub returns-clause-answer : goal.returns-clause-answer
returns-clause-answer c = all_answer c.args.self.now c.args.time c.args.address c.args.records.now _ c.is_well_formed.ensures.test c.if-not-is_well_formed.false (c.is_well_formed.ensures.means.0 c.if-not-is_well_formed.false).form _ c.is_well_made.ensures c.if-not-is_well_made.false c.if-time-self.false _ c.accept_each.ensures.delivery

pub returns-then-not-is_well_formed-clause-code : goal.returns-then-not-is_well_formed-clause-code
returns-then-not-is_well_formed-clause-code c = delivery-code _ _ _ _ _ (returns-then-not-is_well_formed-clause-answer c)

pub returns-then-not-is_well_made-clause-code : goal.returns-then-not-is_well_made-clause-code
returns-then-not-is_well_made-clause-code c = delivery-code _ _ _ _ _ (returns-then-not-is_well_made-clause-answer c)

pub returns-then-time-self-clause-code : goal.returns-then-time-self-clause-code
returns-then-time-self-clause-code c = delivery-code _ _ _ _ _ (returns-then-time-self-clause-answer c)

pub returns-clause-code : goal.returns-clause-code
returns-clause-code c = delivery-code _ _ _ _ _ (returns-clause-answer c)
