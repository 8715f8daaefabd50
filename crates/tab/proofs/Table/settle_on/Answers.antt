use Rattle.std.proofs.Common.{◌≡◌, Ok, Err, true, false, refl, sym, ap, ◌∙◌, arith, rules, length, ◌≤◌, ◌<◌}
use Rattle.tab.specs.Tables.{state_of}
use Rattle.tab.specs.Played.{Step, on_step, placed}
use Rattle.tab.proofs.Ways.{on_at_place, on_new_place, on_no_place, placed_yes, placed_no, by_index}
use Rattle.tab.proofs.Table.settle_on.Goals as goal

pub returns-in-Some-clause-result : goal.returns-in-Some-clause-result
returns-in-Some-clause-result c = c.settle_on_at.ensures.result ∙ ap (λ (w : Step). w.answer) (placed_yes _ (state_of c.args.self.now) (on_step c.args.way c.args.prefix c.args.time c.args.address c.args.r.now (state_of c.args.self.now)) (on_at_place c.args.address c.args.r.now c.args.self.now _ (by_index c.args.address _ _ c.args.self.now _ c.index_of.ensures c.in-Some.ensures.first)))

pub returns-in-Some-clause-state : goal.returns-in-Some-clause-state
returns-in-Some-clause-state c = c.settle_on_at.ensures.state ∙ ap (λ (w : Step). w.state) (placed_yes _ (state_of c.args.self.now) (on_step c.args.way c.args.prefix c.args.time c.args.address c.args.r.now (state_of c.args.self.now)) (on_at_place c.args.address c.args.r.now c.args.self.now _ (by_index c.args.address _ _ c.args.self.now _ c.index_of.ensures c.in-Some.ensures.first)))

pub returns-then-not-has_on_room-clause-result : goal.returns-then-not-has_on_room-clause-result
returns-then-not-has_on_room-clause-result c = ap (λ (w : Step). w.answer) (placed_no _ (state_of c.args.self.now) (on_step c.args.way c.args.prefix c.args.time c.args.address c.args.r.now (state_of c.args.self.now)) (on_no_place c.args.address c.args.r.now c.args.self.now (by_index c.args.address _ _ c.args.self.now _ c.index_of.ensures c.in-None.ensures.first) (sym c.has_on_room.ensures ∙ c.if-not-has_on_room.true)))

pub returns-then-not-has_on_room-clause-state : goal.returns-then-not-has_on_room-clause-state
returns-then-not-has_on_room-clause-state c = ap (λ (w : Step). w.state) (placed_no _ (state_of c.args.self.now) (on_step c.args.way c.args.prefix c.args.time c.args.address c.args.r.now (state_of c.args.self.now)) (on_no_place c.args.address c.args.r.now c.args.self.now (by_index c.args.address _ _ c.args.self.now _ c.index_of.ensures c.in-None.ensures.first) (sym c.has_on_room.ensures ∙ c.if-not-has_on_room.true)))

pub settle_on_new-requires-clause-room : goal.settle_on_new-requires-clause-room
settle_on_new-requires-clause-room c = sym c.has_on_room.ensures ∙ c.if-not-has_on_room.false

pub returns-else-not-has_on_room-clause-result : goal.returns-else-not-has_on_room-clause-result
returns-else-not-has_on_room-clause-result c = c.settle_on_new.ensures.result ∙ ap (λ (w : Step). w.answer) (placed_yes _ (state_of c.args.self.now) (on_step c.args.way c.args.prefix c.args.time c.args.address c.args.r.now (state_of c.args.self.now)) (on_new_place c.args.address c.args.r.now c.args.self.now (by_index c.args.address _ _ c.args.self.now _ c.index_of.ensures c.in-None.ensures.first) (sym c.has_on_room.ensures ∙ c.if-not-has_on_room.false)))

pub returns-else-not-has_on_room-clause-state : goal.returns-else-not-has_on_room-clause-state
returns-else-not-has_on_room-clause-state c = c.settle_on_new.ensures.state ∙ ap (λ (w : Step). w.state) (placed_yes _ (state_of c.args.self.now) (on_step c.args.way c.args.prefix c.args.time c.args.address c.args.r.now (state_of c.args.self.now)) (on_new_place c.args.address c.args.r.now c.args.self.now (by_index c.args.address _ _ c.args.self.now _ c.index_of.ensures c.in-None.ensures.first) (sym c.has_on_room.ensures ∙ c.if-not-has_on_room.false)))
