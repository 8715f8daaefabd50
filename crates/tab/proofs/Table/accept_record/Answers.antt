use Rattle.std.proofs.Common.{◌≡◌, Ok, Err, true, false, refl, sym, ap, ◌∙◌, arith, rules, length, ◌≤◌, ◌<◌}
use borrow.Author.Tests.{eq-eqb, ne_eqb}
use Rattle.tab.specs.Played.{Step}
use Rattle.tab.proofs.Doors.{malformed_result, malformed_state, came_on, came_off}
use Rattle.tab.proofs.Table.accept_record.Goals as goal

pub returns-then-not-well_made-clause-result : goal.returns-then-not-well_made-clause-result
returns-then-not-well_made-clause-result c = malformed_result c.args.self.now c.requires c.args.time c.args.address c.args.r.now _ c.well_made.ensures c.if-not-well_made.true

pub returns-then-not-well_made-clause-state : goal.returns-then-not-well_made-clause-state
returns-then-not-well_made-clause-state c = malformed_state c.args.self.now c.requires c.args.time c.args.address c.args.r.now _ c.well_made.ensures c.if-not-well_made.true

pub returns-then-r-eq1-clause-result : goal.returns-then-r-eq1-clause-result
returns-then-r-eq1-clause-result c = c.settle_on.ensures.result ∙ ap (λ (w : Step). w.answer) (came_on c.args.self.now c.requires c.args.time c.args.address c.args.r.now _ refl (sym c.well_made.ensures ∙ c.if-not-well_made.false) (eq-eqb _ 1 c.if-r-eq1.true))

pub returns-then-r-eq1-clause-state : goal.returns-then-r-eq1-clause-state
returns-then-r-eq1-clause-state c = c.settle_on.ensures.state ∙ ap (λ (w : Step). w.state) (came_on c.args.self.now c.requires c.args.time c.args.address c.args.r.now _ refl (sym c.well_made.ensures ∙ c.if-not-well_made.false) (eq-eqb _ 1 c.if-r-eq1.true))

pub returns-clause-result : goal.returns-clause-result
returns-clause-result c = c.settle_off.ensures.result ∙ ap (λ (w : Step). w.answer) (came_off c.args.self.now c.requires c.args.time c.args.address c.args.r.now _ refl (sym c.well_made.ensures ∙ c.if-not-well_made.false) (ne_eqb _ 1 c.if-r-eq1.false))

pub returns-clause-state : goal.returns-clause-state
returns-clause-state c = c.settle_off.ensures.state ∙ ap (λ (w : Step). w.state) (came_off c.args.self.now c.requires c.args.time c.args.address c.args.r.now _ refl (sym c.well_made.ensures ∙ c.if-not-well_made.false) (ne_eqb _ 1 c.if-r-eq1.false))
