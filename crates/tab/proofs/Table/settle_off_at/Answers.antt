use Rattle.std.proofs.Common.{◌≡◌, Ok, Err, true, false, refl, sym, ap, ◌∙◌, arith, rules, length, ◌≤◌, ◌<◌}
use Rattle.tab.proofs.Steps.{off_good}
use Rattle.tab.proofs.Ways.{off_at_form, off_at_late_form, off_at_ok_state, off_at_ok_answer, off_at_err_answer, off_at_kept_state, off_at_late_state}
use Rattle.tab.proofs.Table.settle_off_at.Goals as goal

pub take-requires : goal.take-requires
take-requires c = off_good c.args.self.now c.requires.table _ c.requires.within _

pub returns-in-Ok-clause-table : goal.returns-in-Ok-clause-table
returns-in-Ok-clause-table c = off_at_form c.args.way c.args.time c.args.address c.args.r.now c.args.self.now c.requires.table _ c.requires.within c.requires.at _ _ c.in-Ok.ensures.channel c.in-Ok.ensures.items c.args.prefix

pub returns-in-Ok-clause-result : goal.returns-in-Ok-clause-result
returns-in-Ok-clause-result c = off_at_ok_answer c.args.way c.args.time c.args.address c.args.r.now c.args.self.now c.requires.table _ c.requires.within c.requires.at _ _ c.in-Ok.ensures.channel c.in-Ok.ensures.items c.args.prefix _ _ c.view.ensures c.in-Ok.ensures.result

pub returns-in-Ok-clause-state : goal.returns-in-Ok-clause-state
returns-in-Ok-clause-state c = off_at_ok_state c.args.way c.args.time c.args.address c.args.r.now c.args.self.now c.requires.table _ c.requires.within c.requires.at _ _ c.in-Ok.ensures.channel c.in-Ok.ensures.items c.args.prefix c.in-Ok.ensures.result

pub returns-then-is_late-clause-table : goal.returns-then-is_late-clause-table
returns-then-is_late-clause-table c = off_at_late_form c.args.way c.args.time c.args.address c.args.r.now c.args.self.now c.requires.table _ c.requires.within c.requires.at _ _ c.in-Err.ensures.channel c.in-Err.ensures.items

pub returns-then-is_late-clause-result : goal.returns-then-is_late-clause-result
returns-then-is_late-clause-result c = off_at_err_answer c.args.way c.args.time c.args.address c.args.r.now c.args.self.now c.requires.table _ c.requires.within c.requires.at _ _ c.in-Err.ensures.channel c.in-Err.ensures.items c.args.prefix _ c.in-Err.ensures.result

pub returns-then-is_late-clause-state : goal.returns-then-is_late-clause-state
returns-then-is_late-clause-state c = off_at_late_state c.args.way c.args.time c.args.address c.args.r.now c.args.self.now c.requires.table _ c.requires.within c.requires.at _ _ c.in-Err.ensures.channel c.in-Err.ensures.items c.args.prefix _ c.in-Err.ensures.result (sym c.is_late.ensures ∙ c.if-is_late.true)

pub returns-else-is_late-clause-table : goal.returns-else-is_late-clause-table
returns-else-is_late-clause-table c = off_at_form c.args.way c.args.time c.args.address c.args.r.now c.args.self.now c.requires.table _ c.requires.within c.requires.at _ _ c.in-Err.ensures.channel c.in-Err.ensures.items c.args.prefix

pub returns-else-is_late-clause-result : goal.returns-else-is_late-clause-result
returns-else-is_late-clause-result c = off_at_err_answer c.args.way c.args.time c.args.address c.args.r.now c.args.self.now c.requires.table _ c.requires.within c.requires.at _ _ c.in-Err.ensures.channel c.in-Err.ensures.items c.args.prefix _ c.in-Err.ensures.result

pub returns-else-is_late-clause-state : goal.returns-else-is_late-clause-state
returns-else-is_late-clause-state c = off_at_kept_state c.args.way c.args.time c.args.address c.args.r.now c.args.self.now c.requires.table _ c.requires.within c.requires.at _ _ c.in-Err.ensures.channel c.in-Err.ensures.items c.args.prefix _ c.in-Err.ensures.result (sym c.is_late.ensures ∙ c.if-is_late.false)
