use Rattle.std.proofs.Common.{◌≡◌, ◌∙◌, sym, ap, refl, false, true, le-leb}
use Rattle.std.proofs.lemmas.Bool.{lt-leb}
use Rattle.packet.specs.declared.Refusal.TheVariants.{OutOfRange, TimeBelow}
use Rattle.model.specs.State as model
use Rattle.model.specs.Calls as Calls
use Rattle.model.specs.Port.{Reply, reply, timed, refuse, on_time, prepare_s}
use Rattle.tab.specs.Tables.{state_of}
use Rattle.tab.specs.Calls.{answer_of, prepared_in}
use Rattle.tab.proofs.Named.{told}
use Rattle.tab.proofs.Sending.{sent_malformed, sent_late, sent_on_time}
use Rattle.tab.proofs.SendPlace.{late_is, due_is}
use Rattle.tab.proofs.Table.send.Goals as goal
use Rattle.tab.proofs.Table.send.Goals.{Then-not-is_asked, Then-time-self, After-send_now}

malformed : (c : Then-not-is_asked) → reply (Calls.prepare c.args.time c.args.key.now c.args.reliable c.args.handles.now) (state_of c.args.self.now) ≡ refuse OutOfRange (timed c.args.time (state_of c.args.self.now))
malformed c = sent_malformed _ _ _ _ _ (told _ _ _ c.is_asked.ensures c.if-not-is_asked.true)

late : (c : Then-time-self) → reply (Calls.prepare c.args.time c.args.key.now c.args.reliable c.args.handles.now) (state_of c.args.self.now) ≡ refuse TimeBelow (timed c.args.time (state_of c.args.self.now))
late c = sent_late _ _ _ _ _ (told _ _ _ c.is_asked.ensures c.if-not-is_asked.false) (late_is c.args.self.now _ c.if-time-self.true)

pub returns-then-not-is_asked-clause-state : goal.returns-then-not-is_asked-clause-state
returns-then-not-is_asked-clause-state c = sym (ap (λ (r : Reply). r.state) (malformed c))

pub returns-then-not-is_asked-clause-answer : goal.returns-then-not-is_asked-clause-answer
unfolding answer_of
returns-then-not-is_asked-clause-answer c = sym (ap (λ (r : Reply). answer_of prepared_in r.answer) (malformed c))

pub returns-then-time-self-clause-state : goal.returns-then-time-self-clause-state
returns-then-time-self-clause-state c = sym (ap (λ (r : Reply). r.state) (late c))

pub returns-then-time-self-clause-answer : goal.returns-then-time-self-clause-answer
unfolding answer_of
returns-then-time-self-clause-answer c = sym (ap (λ (r : Reply). answer_of prepared_in r.answer) (late c))

on_time_reply : (c : After-send_now) → prepare_s c.args.time c.args.key.now c.args.reliable c.args.handles.now (model.with_time c.args.time (state_of c.args.self.now)) ≡ reply (Calls.prepare c.args.time c.args.key.now c.args.reliable c.args.handles.now) (state_of c.args.self.now)
on_time_reply c = sent_on_time _ _ _ _ _ (told _ _ _ c.is_asked.ensures c.if-not-is_asked.false) (due_is c.args.self.now _ c.if-time-self.false)

pub returns-clause-state : goal.returns-clause-state
unfolding state_of
returns-clause-state c = c.send_now.ensures.state ∙ ap (λ (r : Reply). r.state) (on_time_reply c)

pub returns-clause-answer : goal.returns-clause-answer
unfolding state_of
returns-clause-answer c = c.send_now.ensures.answer ∙ ap (λ (r : Reply). answer_of prepared_in r.answer) (on_time_reply c)
