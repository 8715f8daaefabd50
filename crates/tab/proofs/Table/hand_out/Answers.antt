use Rattle.std.proofs.Common.{◌≡◌, ap, sym, ◌∙◌, length}
use Rattle.model.specs.State as model
use Rattle.model.specs.Calls as Calls
use Rattle.model.specs.Port.{Reply, reply, untimed, refuse}
use Rattle.packet.specs.declared.Refusal.TheVariants.{OutOfRange, ChannelAbsent}
use Rattle.tab.specs.Tables.{state_of}
use Rattle.tab.specs.Calls.{answer_of, bundle_in}
use Rattle.tab.specs.Offers.{offered}
use Rattle.tab.proofs.Named.{told, key_absent, key_there, on_below, on_lists, on_data, on_table, on_state, off_below, off_lists, off_data, off_table, off_state}
use Rattle.tab.proofs.Offers.{next_malformed, next_absent, next_given, bundles_put, bundles_left}
use Rattle.tab.proofs.Table.hand_out.Goals as goal
use Rattle.tab.proofs.Table.hand_out.Goals.{Then-not-well_made, In-None}

malformed : (c : Then-not-well_made) → reply (Calls.next_bundle c.args.key.now c.args.lent.now) (state_of c.args.self.now) ≡ refuse OutOfRange (untimed (state_of c.args.self.now))
malformed c = next_malformed _ _ _ (told _ _ _ c.well_made.ensures c.if-not-well_made.true)

absent : (c : In-None) → reply (Calls.next_bundle c.args.key.now c.args.lent.now) (state_of c.args.self.now) ≡ refuse ChannelAbsent (untimed (state_of c.args.self.now))
absent c = next_absent _ _ _ (told _ _ _ c.well_made.ensures c.if-not-well_made.false) (key_absent _ _ _ c.position.ensures.first c.in-None.is)

pub returns-then-not-well_made-clause-state : goal.returns-then-not-well_made-clause-state
returns-then-not-well_made-clause-state c = sym (ap (λ (r : Reply). r.state) (malformed c))

pub returns-then-not-well_made-clause-answer : goal.returns-then-not-well_made-clause-answer
unfolding answer_of
returns-then-not-well_made-clause-answer c = sym (ap (λ (r : Reply). answer_of bundle_in r.answer) (malformed c))

pub returns-then-not-well_made-clause-lent : goal.returns-then-not-well_made-clause-lent
returns-then-not-well_made-clause-lent c = sym (ap (λ (r : Reply). Calls.lent r.answer c.args.lent.now) (malformed c))

pub returns-in-None-clause-state : goal.returns-in-None-clause-state
returns-in-None-clause-state c = sym (ap (λ (r : Reply). r.state) (absent c))

pub returns-in-None-clause-answer : goal.returns-in-None-clause-answer
unfolding answer_of
returns-in-None-clause-answer c = sym (ap (λ (r : Reply). answer_of bundle_in r.answer) (absent c))

pub returns-in-None-clause-lent : goal.returns-in-None-clause-lent
returns-in-None-clause-lent c = sym (ap (λ (r : Reply). Calls.lent r.answer c.args.lent.now) (absent c))

-- ---- an on-channel

pub hand_out-requires : goal.hand_out-requires
hand_out-requires c =
    let lt = on_below _ c.requires _ _ _ c.position.ensures.first c.in-Some.is c.if-key-eq1.true c.in-Some.ensures.within in
    (on_lists _ c.requires _ _ _ c.position.ensures.first c.in-Some.is c.if-key-eq1.true lt _).bundles

pub returns-then-key-eq1-clause-table : goal.returns-then-key-eq1-clause-table
returns-then-key-eq1-clause-table c =
    let lt = on_below _ c.requires _ _ _ c.position.ensures.first c.in-Some.is c.if-key-eq1.true c.in-Some.ensures.within in
    on_table _ c.requires _ _ _ c.position.ensures.first c.in-Some.is c.if-key-eq1.true lt _ _ (bundles_put _ _ (on_lists _ c.requires _ _ _ c.position.ensures.first c.in-Some.is c.if-key-eq1.true lt _) c.hand_out.ensures.bundles)

pub returns-then-key-eq1-clause-state : goal.returns-then-key-eq1-clause-state
returns-then-key-eq1-clause-state c =
    let lt = on_below _ c.requires _ _ _ c.position.ensures.first c.in-Some.is c.if-key-eq1.true c.in-Some.ensures.within in
    let same = on_data _ c.requires _ _ _ c.position.ensures.first c.in-Some.is c.if-key-eq1.true lt _ in
    let given = next_given c.args.key.now c.args.lent.now (state_of c.args.self.now) (told _ _ _ c.well_made.ensures c.if-not-well_made.false) (key_there _ _ _ _ c.position.ensures.first c.in-Some.is) in
    on_state _ c.requires _ _ _ c.position.ensures.first c.in-Some.is c.if-key-eq1.true lt _ _ _ (bundles_left _ _ _ _ same c.hand_out.ensures.items)
    ∙ sym (ap (λ (r : Reply). r.state) given)

pub returns-then-key-eq1-clause-answer : goal.returns-then-key-eq1-clause-answer
returns-then-key-eq1-clause-answer c =
    let lt = on_below _ c.requires _ _ _ c.position.ensures.first c.in-Some.is c.if-key-eq1.true c.in-Some.ensures.within in
    let same = on_data _ c.requires _ _ _ c.position.ensures.first c.in-Some.is c.if-key-eq1.true lt _ in
    let given = next_given c.args.key.now c.args.lent.now (state_of c.args.self.now) (told _ _ _ c.well_made.ensures c.if-not-well_made.false) (key_there _ _ _ _ c.position.ensures.first c.in-Some.is) in
    c.hand_out.ensures.answer ∙ ap (λ (d : model.OffData). answer_of bundle_in (offered d.bundles (length c.args.lent.now))) same
    ∙ sym (ap (λ (r : Reply). answer_of bundle_in r.answer) given)

pub returns-then-key-eq1-clause-lent : goal.returns-then-key-eq1-clause-lent
returns-then-key-eq1-clause-lent c =
    let lt = on_below _ c.requires _ _ _ c.position.ensures.first c.in-Some.is c.if-key-eq1.true c.in-Some.ensures.within in
    let same = on_data _ c.requires _ _ _ c.position.ensures.first c.in-Some.is c.if-key-eq1.true lt _ in
    let given = next_given c.args.key.now c.args.lent.now (state_of c.args.self.now) (told _ _ _ c.well_made.ensures c.if-not-well_made.false) (key_there _ _ _ _ c.position.ensures.first c.in-Some.is) in
    c.hand_out.ensures.lent ∙ ap (λ (d : model.OffData). Calls.lent (offered d.bundles (length c.args.lent.now)) c.args.lent.now) same
    ∙ sym (ap (λ (r : Reply). Calls.lent r.answer c.args.lent.now) given)

-- ---- an off-channel

pub hand_out-requires-else-key-eq1 : goal.hand_out-requires-else-key-eq1
hand_out-requires-else-key-eq1 c =
    let lt = off_below _ c.requires _ _ _ c.position.ensures.first c.in-Some.is c.if-key-eq1.false c.in-Some.ensures.within in
    (off_lists _ c.requires _ _ _ c.position.ensures.first c.in-Some.is c.if-key-eq1.false lt _).bundles

pub returns-else-key-eq1-clause-table : goal.returns-else-key-eq1-clause-table
returns-else-key-eq1-clause-table c =
    let lt = off_below _ c.requires _ _ _ c.position.ensures.first c.in-Some.is c.if-key-eq1.false c.in-Some.ensures.within in
    off_table _ c.requires _ _ _ c.position.ensures.first c.in-Some.is c.if-key-eq1.false lt _ _ (bundles_put _ _ (off_lists _ c.requires _ _ _ c.position.ensures.first c.in-Some.is c.if-key-eq1.false lt _) c.hand_out-else-key-eq1.ensures.bundles)

pub returns-else-key-eq1-clause-state : goal.returns-else-key-eq1-clause-state
returns-else-key-eq1-clause-state c =
    let lt = off_below _ c.requires _ _ _ c.position.ensures.first c.in-Some.is c.if-key-eq1.false c.in-Some.ensures.within in
    let same = off_data _ c.requires _ _ _ c.position.ensures.first c.in-Some.is c.if-key-eq1.false lt _ in
    let given = next_given c.args.key.now c.args.lent.now (state_of c.args.self.now) (told _ _ _ c.well_made.ensures c.if-not-well_made.false) (key_there _ _ _ _ c.position.ensures.first c.in-Some.is) in
    off_state _ c.requires _ _ _ c.position.ensures.first c.in-Some.is c.if-key-eq1.false lt _ _ _ (bundles_left _ _ _ _ same c.hand_out-else-key-eq1.ensures.items)
    ∙ sym (ap (λ (r : Reply). r.state) given)

pub returns-else-key-eq1-clause-answer : goal.returns-else-key-eq1-clause-answer
returns-else-key-eq1-clause-answer c =
    let lt = off_below _ c.requires _ _ _ c.position.ensures.first c.in-Some.is c.if-key-eq1.false c.in-Some.ensures.within in
    let same = off_data _ c.requires _ _ _ c.position.ensures.first c.in-Some.is c.if-key-eq1.false lt _ in
    let given = next_given c.args.key.now c.args.lent.now (state_of c.args.self.now) (told _ _ _ c.well_made.ensures c.if-not-well_made.false) (key_there _ _ _ _ c.position.ensures.first c.in-Some.is) in
    c.hand_out-else-key-eq1.ensures.answer ∙ ap (λ (d : model.OffData). answer_of bundle_in (offered d.bundles (length c.args.lent.now))) same
    ∙ sym (ap (λ (r : Reply). answer_of bundle_in r.answer) given)

pub returns-else-key-eq1-clause-lent : goal.returns-else-key-eq1-clause-lent
returns-else-key-eq1-clause-lent c =
    let lt = off_below _ c.requires _ _ _ c.position.ensures.first c.in-Some.is c.if-key-eq1.false c.in-Some.ensures.within in
    let same = off_data _ c.requires _ _ _ c.position.ensures.first c.in-Some.is c.if-key-eq1.false lt _ in
    let given = next_given c.args.key.now c.args.lent.now (state_of c.args.self.now) (told _ _ _ c.well_made.ensures c.if-not-well_made.false) (key_there _ _ _ _ c.position.ensures.first c.in-Some.is) in
    c.hand_out-else-key-eq1.ensures.lent ∙ ap (λ (d : model.OffData). Calls.lent (offered d.bundles (length c.args.lent.now)) c.args.lent.now) same
    ∙ sym (ap (λ (r : Reply). Calls.lent r.answer c.args.lent.now) given)
