use Rattle.std.proofs.Common.{rules, sym, ap, map, ◌∙◌}
use Rattle.model.specs.Rust.{young, mark}
use Rattle.queues.proofs.Quiet.{quiet_same, quiet_rows, quiet_next}
use Rattle.queues.proofs.out_list.OutList.resend.Goals as goal

pub returns-then-is_quiet-clause-items : goal.returns-then-is_quiet-clause-items
returns-then-is_quiet-clause-items c = quiet_same c.args.clock _ (sym c.is_quiet.ensures ∙ c.if-is_quiet.true)

pub returns-then-is_quiet-clause-rows : goal.returns-then-is_quiet-clause-rows
returns-then-is_quiet-clause-rows c = quiet_rows c.args.clock _ (sym c.is_quiet.ensures ∙ c.if-is_quiet.true) c.args.address c.args.at c.args.lent.now

pub returns-then-is_quiet-clause-next : goal.returns-then-is_quiet-clause-next
returns-then-is_quiet-clause-next c = quiet_next c.args.clock _ (sym c.is_quiet.ensures ∙ c.if-is_quiet.true) c.args.address c.args.at

pub returns-clause-items : goal.returns-clause-items
returns-clause-items c =
    let clock = c.args.clock in
    let kept = c.retain.ensures.items (young clock.time clock.give_up) (λ x b k. search rules) in
    let marked = c.map.ensures.items (mark clock.time clock.timeout) (λ x b k. search rules) in
    marked ∙ ap (λ l. map (mark clock.time clock.timeout) l) kept
