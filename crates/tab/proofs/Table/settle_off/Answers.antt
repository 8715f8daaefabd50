use Rattle.std.proofs.Common.{◌≡◌, Ok, Err, true, false, refl, sym, ap, ◌∙◌, arith, rules, length, ◌≤◌, ◌<◌}
use Rattle.tab.specs.Tables.{state_of}
use Rattle.tab.specs.Played.{Step, off_step, placed}
use Rattle.tab.proofs.Ways.{off_at_place, off_new_place, off_no_place, placed_yes, placed_no}
use Rattle.tab.proofs.Table.settle_off.Goals as goal

pub returns-in-Some-clause-result : goal.returns-in-Some-clause-result
returns-in-Some-clause-result c = c.settle_off_at.ensures.result ∙ ap (λ (w : Step). w.answer) (placed_yes _ (state_of c.args.self.now) (off_step c.args.way c.args.prefix c.args.time c.args.address c.args.r.now (state_of c.args.self.now)) (off_at_place c.args.address c.args.r.now c.args.self.now _ (sym c.in-Some.ensures.first)))

pub returns-in-Some-clause-state : goal.returns-in-Some-clause-state
returns-in-Some-clause-state c = c.settle_off_at.ensures.state ∙ ap (λ (w : Step). w.state) (placed_yes _ (state_of c.args.self.now) (off_step c.args.way c.args.prefix c.args.time c.args.address c.args.r.now (state_of c.args.self.now)) (off_at_place c.args.address c.args.r.now c.args.self.now _ (sym c.in-Some.ensures.first)))

pub returns-then-not-has_off_room-clause-result : goal.returns-then-not-has_off_room-clause-result
returns-then-not-has_off_room-clause-result c = ap (λ (w : Step). w.answer) (placed_no _ (state_of c.args.self.now) (off_step c.args.way c.args.prefix c.args.time c.args.address c.args.r.now (state_of c.args.self.now)) (off_no_place c.args.address c.args.r.now c.args.self.now (sym c.in-None.ensures.first) (sym c.has_off_room.ensures ∙ c.if-not-has_off_room.true)))

pub returns-then-not-has_off_room-clause-state : goal.returns-then-not-has_off_room-clause-state
returns-then-not-has_off_room-clause-state c = ap (λ (w : Step). w.state) (placed_no _ (state_of c.args.self.now) (off_step c.args.way c.args.prefix c.args.time c.args.address c.args.r.now (state_of c.args.self.now)) (off_no_place c.args.address c.args.r.now c.args.self.now (sym c.in-None.ensures.first) (sym c.has_off_room.ensures ∙ c.if-not-has_off_room.true)))

pub settle_off_new-requires-clause-room : goal.settle_off_new-requires-clause-room
settle_off_new-requires-clause-room c = sym c.has_off_room.ensures ∙ c.if-not-has_off_room.false

pub returns-else-not-has_off_room-clause-result : goal.returns-else-not-has_off_room-clause-result
returns-else-not-has_off_room-clause-result c = c.settle_off_new.ensures.result ∙ ap (λ (w : Step). w.answer) (placed_yes _ (state_of c.args.self.now) (off_step c.args.way c.args.prefix c.args.time c.args.address c.args.r.now (state_of c.args.self.now)) (off_new_place c.args.address c.args.r.now c.args.self.now (sym c.in-None.ensures.first) (sym c.has_off_room.ensures ∙ c.if-not-has_off_room.false)))

pub returns-else-not-has_off_room-clause-state : goal.returns-else-not-has_off_room-clause-state
returns-else-not-has_off_room-clause-state c = c.settle_off_new.ensures.state ∙ ap (λ (w : Step). w.state) (placed_yes _ (state_of c.args.self.now) (off_step c.args.way c.args.prefix c.args.time c.args.address c.args.r.now (state_of c.args.self.now)) (off_new_place c.args.address c.args.r.now c.args.self.now (sym c.in-None.ensures.first) (sym c.has_off_room.ensures ∙ c.if-not-has_off_room.false)))
