use Rattle.std.proofs.Common.{◌≡◌, Ok, Err, true, false, refl, sym, ap, ◌∙◌, arith, rules, length, ◌≤◌, ◌<◌}
use borrow.Author.Tests.{eq-eqb, ne_eqb}
use Rattle.tab.specs.Tables.{state_of}
use Rattle.tab.specs.Played.{Step}
use Rattle.tab.proofs.Doors.{sent_on, sent_off}
use Rattle.tab.proofs.Table.forward.Goals as goal

pub returns-then-r-eq1-clause-result : goal.returns-then-r-eq1-clause-result
returns-then-r-eq1-clause-result c = c.settle_on.ensures.result ∙ ap (λ (w : Step). w.answer) (sent_on c.args.self.now c.args.time c.args.address c.args.r.now (eq-eqb _ 1 c.if-r-eq1.true))

pub returns-then-r-eq1-clause-state : goal.returns-then-r-eq1-clause-state
returns-then-r-eq1-clause-state c = c.settle_on.ensures.state ∙ ap (λ (w : Step). w.state) (sent_on c.args.self.now c.args.time c.args.address c.args.r.now (eq-eqb _ 1 c.if-r-eq1.true))

pub returns-clause-result : goal.returns-clause-result
returns-clause-result c = c.settle_off.ensures.result ∙ ap (λ (w : Step). w.answer) (sent_off c.args.self.now c.args.time c.args.address c.args.r.now (ne_eqb _ 1 c.if-r-eq1.false))

pub returns-clause-state : goal.returns-clause-state
returns-clause-state c = c.settle_off.ensures.state ∙ ap (λ (w : Step). w.state) (sent_off c.args.self.now c.args.time c.args.address c.args.r.now (ne_eqb _ 1 c.if-r-eq1.false))
