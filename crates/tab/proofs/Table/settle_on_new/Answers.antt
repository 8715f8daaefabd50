use Rattle.std.proofs.Common.{◌≡◌, Ok, Err, true, false, refl, sym, ap, ◌∙◌, arith, rules, length, ◌≤◌, ◌<◌}
use Rattle.model.specs.State.{new_on}
use Rattle.tab.proofs.Put.{prefix_form}
use Rattle.tab.proofs.Ways.{on_new_key, on_new_ok_state, on_new_kept_state, on_new_ok_answer, on_new_err_answer, on_new_late_state}
use Rattle.tab.proofs.Table.settle_on_new.Goals as goal

pub append_on-requires-clause-new : goal.append_on-requires-clause-new
append_on-requires-clause-new c = on_new_key c.args.way c.args.time c.args.address c.args.r.now c.args.self.now c.requires.new _ _ (c.new-c.ensures.items ∙ (λ j. new_on c.args.address (c.index_of.ensures j) (c.version_of.ensures j))) c.in-Ok.ensures.items

pub returns-in-Ok-clause-table : goal.returns-in-Ok-clause-table
returns-in-Ok-clause-table c = prefix_form _ c.args.prefix c.append_on.ensures.table

pub returns-in-Ok-clause-result : goal.returns-in-Ok-clause-result
returns-in-Ok-clause-result c = on_new_ok_answer c.args.way c.args.time c.args.address c.args.r.now c.args.self.now c.requires.new _ _ (c.new-c.ensures.items ∙ (λ j. new_on c.args.address (c.index_of.ensures j) (c.version_of.ensures j))) c.in-Ok.ensures.items c.args.prefix _ c.view.ensures c.in-Ok.ensures.result

pub returns-in-Ok-clause-state : goal.returns-in-Ok-clause-state
returns-in-Ok-clause-state c = on_new_ok_state c.args.way c.args.time c.args.address c.args.r.now c.args.self.now c.requires.new _ _ (c.new-c.ensures.items ∙ (λ j. new_on c.args.address (c.index_of.ensures j) (c.version_of.ensures j))) c.in-Ok.ensures.items c.append_on.new.self c.append_on.ensures.state c.args.prefix c.in-Ok.ensures.result

pub returns-then-is_late-clause-result : goal.returns-then-is_late-clause-result
returns-then-is_late-clause-result c = on_new_err_answer c.args.way c.args.time c.args.address c.args.r.now c.args.self.now c.requires.new _ _ (c.new-c.ensures.items ∙ (λ j. new_on c.args.address (c.index_of.ensures j) (c.version_of.ensures j))) c.in-Err.ensures.items c.args.prefix _ c.in-Err.ensures.result

pub returns-then-is_late-clause-state : goal.returns-then-is_late-clause-state
returns-then-is_late-clause-state c = on_new_late_state c.args.way c.args.time c.args.address c.args.r.now c.args.self.now c.requires.new _ _ (c.new-c.ensures.items ∙ (λ j. new_on c.args.address (c.index_of.ensures j) (c.version_of.ensures j))) c.in-Err.ensures.items c.args.prefix _ c.in-Err.ensures.result (sym c.is_late.ensures ∙ c.if-is_late.true)

pub append_on-requires-in-Err-clause-new : goal.append_on-requires-in-Err-clause-new
append_on-requires-in-Err-clause-new c = on_new_key c.args.way c.args.time c.args.address c.args.r.now c.args.self.now c.requires.new _ _ (c.new-c.ensures.items ∙ (λ j. new_on c.args.address (c.index_of.ensures j) (c.version_of.ensures j))) c.in-Err.ensures.items

pub returns-else-is_late-clause-result : goal.returns-else-is_late-clause-result
returns-else-is_late-clause-result c = on_new_err_answer c.args.way c.args.time c.args.address c.args.r.now c.args.self.now c.requires.new _ _ (c.new-c.ensures.items ∙ (λ j. new_on c.args.address (c.index_of.ensures j) (c.version_of.ensures j))) c.in-Err.ensures.items c.args.prefix _ c.in-Err.ensures.result

pub returns-else-is_late-clause-state : goal.returns-else-is_late-clause-state
returns-else-is_late-clause-state c = on_new_kept_state c.args.way c.args.time c.args.address c.args.r.now c.args.self.now c.requires.new _ _ (c.new-c.ensures.items ∙ (λ j. new_on c.args.address (c.index_of.ensures j) (c.version_of.ensures j))) c.in-Err.ensures.items c.append_on-in-Err.new.self c.append_on-in-Err.ensures.state c.args.prefix _ c.in-Err.ensures.result (sym c.is_late.ensures ∙ c.if-is_late.false)
