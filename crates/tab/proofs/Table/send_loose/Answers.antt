use Rattle.std.proofs.Common.{◌∙◌}
use Rattle.tab.proofs.SendPlace.{one_answer, more_answer, more_state}
use Rattle.tab.proofs.Table.send_loose.Goals as goal

pub returns-then-count-le-LONE-clause-answer : goal.returns-then-count-le-LONE-clause-answer
returns-then-count-le-LONE-clause-answer c = c.answer.ensures ∙ one_answer c.args.self.now c.args.view _ c.if-count-le-LONE.true

pub returns-clause-state : goal.returns-clause-state
returns-clause-state c = more_state c.args.self.now c.args.view _ _ c.alloc-first.ensures.next c.if-count-le-LONE.false

pub returns-clause-answer : goal.returns-clause-answer
returns-clause-answer c = more_answer c.args.self.now c.args.view _ _ c.alloc-first.result.0 (rw c.get.ensures at c.answer-2.ensures) c.alloc-first.ensures.first c.if-count-le-LONE.false
