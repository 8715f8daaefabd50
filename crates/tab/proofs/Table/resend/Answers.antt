use Rattle.std.proofs.Common.{◌≡◌, ◌∙◌, sym, ap}
use borrow.Author.Tests.{ltb-true, ltb-false}
use Rattle.packet.specs.declared.Refusal.TheVariants.{TimeBelow, ListTooShort}
use Rattle.model.specs.State as model
use Rattle.model.specs.Calls as Calls
use Rattle.model.specs.Port.{Reply, reply, timed, refuse}
use Rattle.tab.specs.Tables.{state_of}
use Rattle.tab.specs.Calls.{answer_of, rows_in}
use Rattle.tab.proofs.SendPlace.{late_is, due_is}
use Rattle.tab.proofs.ResendPlace.{again_late, again_short, offs_room, ons_room, again_state, again_answer, again_lent}
use Rattle.tab.proofs.Table.resend.Goals as goal
use Rattle.tab.proofs.Table.resend.Goals.{Then-is_late, Then-lent-rows}

late : (c : Then-is_late) → reply (Calls.take_resends c.args.clock.time c.args.clock.timeout c.args.clock.give_up c.args.lent.now) (state_of c.args.self.now) ≡ refuse TimeBelow (timed c.args.clock.time (state_of c.args.self.now))
late c = again_late c.args.clock _ _ (late_is c.args.self.now _ (ltb-true c.args.clock.time c.args.self.now.latest (sym c.is_late.ensures ∙ c.if-is_late.true)))

short : (c : Then-lent-rows) → reply (Calls.take_resends c.args.clock.time c.args.clock.timeout c.args.clock.give_up c.args.lent.now) (state_of c.args.self.now) ≡ refuse ListTooShort (timed c.args.clock.time (state_of c.args.self.now))
short c = again_short c.args.clock _ _ (due_is c.args.self.now _ (ltb-false c.args.clock.time c.args.self.now.latest (sym c.is_late.ensures ∙ c.if-is_late.false))) (rw c.count_rows-rows.ensures.rows at c.if-lent-rows.true)

pub returns-then-is_late-clause-state : goal.returns-then-is_late-clause-state
returns-then-is_late-clause-state c = sym (ap (λ (r : Reply). r.state) (late c))

pub returns-then-is_late-clause-answer : goal.returns-then-is_late-clause-answer
unfolding answer_of
returns-then-is_late-clause-answer c = sym (ap (λ (r : Reply). answer_of rows_in r.answer) (late c))

pub returns-then-is_late-clause-lent : goal.returns-then-is_late-clause-lent
returns-then-is_late-clause-lent c = sym (ap (λ (r : Reply). Calls.lent r.answer c.args.lent.now) (late c))

pub returns-then-lent-rows-clause-state : goal.returns-then-lent-rows-clause-state
unfolding state_of
returns-then-lent-rows-clause-state c = sym (ap (λ (r : Reply). r.state) (short c))

pub returns-then-lent-rows-clause-answer : goal.returns-then-lent-rows-clause-answer
unfolding answer_of
returns-then-lent-rows-clause-answer c = sym (ap (λ (r : Reply). answer_of rows_in r.answer) (short c))

pub returns-then-lent-rows-clause-lent : goal.returns-then-lent-rows-clause-lent
returns-then-lent-rows-clause-lent c = sym (ap (λ (r : Reply). Calls.lent r.answer c.args.lent.now) (short c))

pub resend_offs-next-requires-clause-room : goal.resend_offs-next-requires-clause-room
resend_offs-next-requires-clause-room c = offs_room c.args.clock c.args.self.now c.args.lent.now _ c.count_rows-rows.ensures.rows c.if-lent-rows.false (ltb-false c.args.clock.time c.args.self.now.latest (sym c.is_late.ensures ∙ c.if-is_late.false))

pub resend_ons-requires-clause-room : goal.resend_ons-requires-clause-room
resend_ons-requires-clause-room c =
    ons_room c.args.clock c.args.self.now c.args.lent.now _ c.count_rows-rows.ensures.rows c.if-lent-rows.false (ltb-false c.args.clock.time c.args.self.now.latest (sym c.is_late.ensures ∙ c.if-is_late.false))
    _ _ c.resend_offs-next.ensures.rows c.resend_offs-next.ensures.next

pub returns-clause-state : goal.returns-clause-state
returns-clause-state c =
    again_state c.args.clock c.args.self.now c.args.lent.now _ c.count_rows-rows.ensures.rows c.if-lent-rows.false (ltb-false c.args.clock.time c.args.self.now.latest (sym c.is_late.ensures ∙ c.if-is_late.false))
    c.requires _ _ c.resend_offs-next.ensures.items _ _ c.resend_ons.ensures.items

pub returns-clause-answer : goal.returns-clause-answer
returns-clause-answer c = again_answer c.args.clock c.args.self.now c.args.lent.now _ c.count_rows-rows.ensures.rows c.if-lent-rows.false (ltb-false c.args.clock.time c.args.self.now.latest (sym c.is_late.ensures ∙ c.if-is_late.false))

pub returns-clause-lent : goal.returns-clause-lent
returns-clause-lent c =
    again_lent c.args.clock c.args.self.now c.args.lent.now _ c.count_rows-rows.ensures.rows c.if-lent-rows.false (ltb-false c.args.clock.time c.args.self.now.latest (sym c.is_late.ensures ∙ c.if-is_late.false))
    _ _ c.resend_offs-next.ensures.rows c.resend_offs-next.ensures.next _ c.resend_ons.ensures.rows
