use Rattle.std.proofs.Common.{◌≡◌, ap, sym, ◌∙◌}
use Rattle.model.specs.State as model
use Rattle.model.specs.Calls as Calls
use Rattle.model.specs.Port.{Reply, reply, untimed, refuse}
use Rattle.packet.specs.declared.Refusal.TheVariants.{OutOfRange}
use Rattle.tab.specs.Tables.{state_of}
use Rattle.tab.specs.Calls.{answer_of, done_in}
use Rattle.model.specs.Acks.{take_written}
use Rattle.tab.specs.Offers.{wrote_answer, queue_after}
use Rattle.tab.proofs.Named.{told, key_absent, key_there, on_below, on_lists, on_data, on_table, on_state, off_below, off_lists, off_data, off_table, off_state}
use Rattle.tab.proofs.Names.{absent_leaves, wrote_malformed, wrote_absent, wrote_given}
use Rattle.tab.proofs.Table.take_written.Goals as goal
use Rattle.tab.proofs.Table.take_written.Goals.{Then-not-well_made}

malformed : (c : Then-not-well_made) → reply (Calls.acks_written c.args.key.now c.args.names.now) (state_of c.args.self.now) ≡ refuse OutOfRange (untimed (state_of c.args.self.now))
malformed c = wrote_malformed _ _ _ (told _ _ _ c.well_made.ensures c.if-not-well_made.true)

pub returns-then-not-well_made-clause-state : goal.returns-then-not-well_made-clause-state
returns-then-not-well_made-clause-state c = sym (ap (λ (r : Reply). r.state) (malformed c))

pub returns-then-not-well_made-clause-answer : goal.returns-then-not-well_made-clause-answer
unfolding answer_of
returns-then-not-well_made-clause-answer c = sym (ap (λ (r : Reply). answer_of done_in r.answer) (malformed c))

pub returns-in-None-clause-state : goal.returns-in-None-clause-state
returns-in-None-clause-state c =
    let gone = wrote_absent c.args.key.now c.args.names.now (state_of c.args.self.now) (told _ _ _ c.well_made.ensures c.if-not-well_made.false) (key_absent _ _ _ c.position.ensures.first c.in-None.is) in
    sym (ap (λ (r : Reply). r.state) gone ∙ absent_leaves c.args.names.now (state_of c.args.self.now))

pub returns-in-None-clause-answer : goal.returns-in-None-clause-answer
unfolding answer_of
returns-in-None-clause-answer c =
    let gone = wrote_absent c.args.key.now c.args.names.now (state_of c.args.self.now) (told _ _ _ c.well_made.ensures c.if-not-well_made.false) (key_absent _ _ _ c.position.ensures.first c.in-None.is) in
    c.absent.ensures ∙ sym (ap (λ (r : Reply). answer_of done_in r.answer) gone)

-- ---- an on-channel

pub take_written-requires : goal.take_written-requires
take_written-requires c =
    let lt = on_below _ c.requires _ _ _ c.position.ensures.first c.in-Some.is c.if-key-eq1.true c.in-Some.ensures.within in
    on_lists _ c.requires _ _ _ c.position.ensures.first c.in-Some.is c.if-key-eq1.true lt _

pub returns-then-key-eq1-clause-table : goal.returns-then-key-eq1-clause-table
returns-then-key-eq1-clause-table c =
    let lt = on_below _ c.requires _ _ _ c.position.ensures.first c.in-Some.is c.if-key-eq1.true c.in-Some.ensures.within in
    on_table _ c.requires _ _ _ c.position.ensures.first c.in-Some.is c.if-key-eq1.true lt _ _ c.take_written.ensures.data

pub returns-then-key-eq1-clause-state : goal.returns-then-key-eq1-clause-state
returns-then-key-eq1-clause-state c =
    let lt = on_below _ c.requires _ _ _ c.position.ensures.first c.in-Some.is c.if-key-eq1.true c.in-Some.ensures.within in
    let same = on_data _ c.requires _ _ _ c.position.ensures.first c.in-Some.is c.if-key-eq1.true lt _ in
    let given = wrote_given c.args.key.now c.args.names.now (state_of c.args.self.now) (told _ _ _ c.well_made.ensures c.if-not-well_made.false) (key_there _ _ _ _ c.position.ensures.first c.in-Some.is) in
    on_state _ c.requires _ _ _ c.position.ensures.first c.in-Some.is c.if-key-eq1.true lt _ _ _ (c.take_written.ensures.items ∙ ap (λ (d : model.OffData). model.with_acks (queue_after (take_written c.args.names.now d.acks) d.acks) d) same)
    ∙ sym (ap (λ (r : Reply). r.state) given)

pub returns-then-key-eq1-clause-answer : goal.returns-then-key-eq1-clause-answer
returns-then-key-eq1-clause-answer c =
    let lt = on_below _ c.requires _ _ _ c.position.ensures.first c.in-Some.is c.if-key-eq1.true c.in-Some.ensures.within in
    let same = on_data _ c.requires _ _ _ c.position.ensures.first c.in-Some.is c.if-key-eq1.true lt _ in
    let given = wrote_given c.args.key.now c.args.names.now (state_of c.args.self.now) (told _ _ _ c.well_made.ensures c.if-not-well_made.false) (key_there _ _ _ _ c.position.ensures.first c.in-Some.is) in
    c.take_written.ensures.answer ∙ ap (λ (d : model.OffData). answer_of done_in (wrote_answer (take_written c.args.names.now d.acks))) same
    ∙ sym (ap (λ (r : Reply). answer_of done_in r.answer) given)

-- ---- an off-channel

pub take_written-requires-else-key-eq1 : goal.take_written-requires-else-key-eq1
take_written-requires-else-key-eq1 c =
    let lt = off_below _ c.requires _ _ _ c.position.ensures.first c.in-Some.is c.if-key-eq1.false c.in-Some.ensures.within in
    off_lists _ c.requires _ _ _ c.position.ensures.first c.in-Some.is c.if-key-eq1.false lt _

pub returns-else-key-eq1-clause-table : goal.returns-else-key-eq1-clause-table
returns-else-key-eq1-clause-table c =
    let lt = off_below _ c.requires _ _ _ c.position.ensures.first c.in-Some.is c.if-key-eq1.false c.in-Some.ensures.within in
    off_table _ c.requires _ _ _ c.position.ensures.first c.in-Some.is c.if-key-eq1.false lt _ _ c.take_written-else-key-eq1.ensures.data

pub returns-else-key-eq1-clause-state : goal.returns-else-key-eq1-clause-state
returns-else-key-eq1-clause-state c =
    let lt = off_below _ c.requires _ _ _ c.position.ensures.first c.in-Some.is c.if-key-eq1.false c.in-Some.ensures.within in
    let same = off_data _ c.requires _ _ _ c.position.ensures.first c.in-Some.is c.if-key-eq1.false lt _ in
    let given = wrote_given c.args.key.now c.args.names.now (state_of c.args.self.now) (told _ _ _ c.well_made.ensures c.if-not-well_made.false) (key_there _ _ _ _ c.position.ensures.first c.in-Some.is) in
    off_state _ c.requires _ _ _ c.position.ensures.first c.in-Some.is c.if-key-eq1.false lt _ _ _ (c.take_written-else-key-eq1.ensures.items ∙ ap (λ (d : model.OffData). model.with_acks (queue_after (take_written c.args.names.now d.acks) d.acks) d) same)
    ∙ sym (ap (λ (r : Reply). r.state) given)

pub returns-else-key-eq1-clause-answer : goal.returns-else-key-eq1-clause-answer
returns-else-key-eq1-clause-answer c =
    let lt = off_below _ c.requires _ _ _ c.position.ensures.first c.in-Some.is c.if-key-eq1.false c.in-Some.ensures.within in
    let same = off_data _ c.requires _ _ _ c.position.ensures.first c.in-Some.is c.if-key-eq1.false lt _ in
    let given = wrote_given c.args.key.now c.args.names.now (state_of c.args.self.now) (told _ _ _ c.well_made.ensures c.if-not-well_made.false) (key_there _ _ _ _ c.position.ensures.first c.in-Some.is) in
    c.take_written-else-key-eq1.ensures.answer ∙ ap (λ (d : model.OffData). answer_of done_in (wrote_answer (take_written c.args.names.now d.acks))) same
    ∙ sym (ap (λ (r : Reply). answer_of done_in r.answer) given)
