use Rattle.std.proofs.Common.{Ok, ap, sym, ◌∙◌}
use Rattle.list.specs.Find.{position}
use Rattle.packet.specs.Data.{key_index}
use Rattle.model.specs.State as model
use Rattle.model.specs.Rust.{first_version}
use Rattle.model.specs.Port.{Reply}
use Rattle.tab.specs.Tables.{state_of}
use Rattle.tab.specs.Calls.{answer_of, view_in}
use Rattle.tab.specs.Found.{made_on}
use Rattle.tab.proofs.Named.{told}
use Rattle.tab.proofs.Steps.{on_absent, on_there, on_seen, off_absent, off_there, off_seen}
use Rattle.tab.proofs.Found.{find_malformed, find_on, find_off, make_on, make_off}
use Rattle.tab.proofs.Table.find_or_make.Goals as goal

pub returns-then-not-well_made-clause-state : goal.returns-then-not-well_made-clause-state
returns-then-not-well_made-clause-state c =
    let refused = find_malformed c.args.key.now (state_of c.args.self.now) (told _ _ _ c.well_made.ensures c.if-not-well_made.true) in
    sym (ap (λ (r : Reply). r.state) refused)

pub returns-then-not-well_made-clause-answer : goal.returns-then-not-well_made-clause-answer
unfolding answer_of
returns-then-not-well_made-clause-answer c =
    let refused = find_malformed c.args.key.now (state_of c.args.self.now) (told _ _ _ c.well_made.ensures c.if-not-well_made.true) in
    sym (ap (λ (r : Reply). answer_of view_in r.answer) refused)

-- ---- on-channel

pub returns-in-Some-clause-state : goal.returns-in-Some-clause-state
returns-in-Some-clause-state c =
    let k = c.args.key.now in
    let p = (state_of c.args.self.now).protocol in
    let at = (λ j. position (model.is_on k.address (sym c.index_of.ensures j)) p.ons) ∙ sym c.on_position.ensures.first ∙ c.in-Some.is in
    let there = find_on k (state_of c.args.self.now) (told _ _ _ c.well_made.ensures c.if-not-well_made.false) c.if-key-eq1.true (on_there k.address (key_index k) p c.in-Some.i at) in
    sym (ap (λ (r : Reply). r.state) there)

pub returns-in-Some-clause-answer : goal.returns-in-Some-clause-answer
unfolding answer_of
returns-in-Some-clause-answer c =
    let k = c.args.key.now in
    let p = (state_of c.args.self.now).protocol in
    let at = (λ j. position (model.is_on k.address (sym c.index_of.ensures j)) p.ons) ∙ sym c.on_position.ensures.first ∙ c.in-Some.is in
    let there = find_on k (state_of c.args.self.now) (told _ _ _ c.well_made.ensures c.if-not-well_made.false) c.if-key-eq1.true (on_there k.address (key_index k) p c.in-Some.i at) in
    let seen = on_seen c.args.self.now c.requires c.in-Some.i c.in-Some.ensures.within k.address (key_index k) (first_version k) _ at in
    ap Ok (c.view.ensures ∙ ap (λ (x : model.OnChannel). model.on_view x) seen) ∙ sym (ap (λ (r : Reply). answer_of view_in r.answer) there)

pub returns-in-None-clause-state : goal.returns-in-None-clause-state
returns-in-None-clause-state c =
    let k = c.args.key.now in
    let p = (state_of c.args.self.now).protocol in
    let at = (λ j. position (model.is_on k.address (sym c.index_of.ensures j)) p.ons) ∙ sym c.on_position.ensures.first ∙ c.in-None.is in
    let new = make_on k (state_of c.args.self.now) (told _ _ _ c.well_made.ensures c.if-not-well_made.false) c.if-key-eq1.true (on_absent k.address (key_index k) p at) in
    c.make_on.ensures.state ∙ (λ j. (made_on k.address (c.index_of-in-None.ensures j) (c.first_version.ensures j) (state_of c.args.self.now)).state) ∙ sym (ap (λ (r : Reply). r.state) new)

pub returns-in-None-clause-answer : goal.returns-in-None-clause-answer
returns-in-None-clause-answer c =
    let k = c.args.key.now in
    let p = (state_of c.args.self.now).protocol in
    let at = (λ j. position (model.is_on k.address (sym c.index_of.ensures j)) p.ons) ∙ sym c.on_position.ensures.first ∙ c.in-None.is in
    let new = make_on k (state_of c.args.self.now) (told _ _ _ c.well_made.ensures c.if-not-well_made.false) c.if-key-eq1.true (on_absent k.address (key_index k) p at) in
    c.make_on.ensures.answer ∙ (λ j. answer_of view_in (made_on k.address (c.index_of-in-None.ensures j) (c.first_version.ensures j) (state_of c.args.self.now)).answer) ∙ sym (ap (λ (r : Reply). answer_of view_in r.answer) new)

-- ---- off-channel

pub returns-in-Some-off_position-clause-state : goal.returns-in-Some-off_position-clause-state
returns-in-Some-off_position-clause-state c =
    let k = c.args.key.now in
    let p = (state_of c.args.self.now).protocol in
    let at = sym c.off_position.ensures.first ∙ c.in-Some-off_position.is in
    let there = find_off k (state_of c.args.self.now) (told _ _ _ c.well_made.ensures c.if-not-well_made.false) c.if-key-eq1.false (off_there k.address p c.in-Some-off_position.i at) in
    sym (ap (λ (r : Reply). r.state) there)

pub returns-in-Some-off_position-clause-answer : goal.returns-in-Some-off_position-clause-answer
unfolding answer_of
returns-in-Some-off_position-clause-answer c =
    let k = c.args.key.now in
    let p = (state_of c.args.self.now).protocol in
    let at = sym c.off_position.ensures.first ∙ c.in-Some-off_position.is in
    let there = find_off k (state_of c.args.self.now) (told _ _ _ c.well_made.ensures c.if-not-well_made.false) c.if-key-eq1.false (off_there k.address p c.in-Some-off_position.i at) in
    let seen = off_seen c.args.self.now c.requires c.in-Some-off_position.i c.in-Some-off_position.ensures.within k.address _ at in
    ap Ok (c.view-in-Some-off_position.ensures ∙ ap (λ (x : model.OffChannel). model.off_view x) seen) ∙ sym (ap (λ (r : Reply). answer_of view_in r.answer) there)

pub returns-in-None-off_position-clause-state : goal.returns-in-None-off_position-clause-state
returns-in-None-off_position-clause-state c =
    let k = c.args.key.now in
    let p = (state_of c.args.self.now).protocol in
    let at = sym c.off_position.ensures.first ∙ c.in-None-off_position.is in
    let new = make_off k (state_of c.args.self.now) (told _ _ _ c.well_made.ensures c.if-not-well_made.false) c.if-key-eq1.false (off_absent k.address p at) in
    c.make_off.ensures.state ∙ sym (ap (λ (r : Reply). r.state) new)

pub returns-in-None-off_position-clause-answer : goal.returns-in-None-off_position-clause-answer
returns-in-None-off_position-clause-answer c =
    let k = c.args.key.now in
    let p = (state_of c.args.self.now).protocol in
    let at = sym c.off_position.ensures.first ∙ c.in-None-off_position.is in
    let new = make_off k (state_of c.args.self.now) (told _ _ _ c.well_made.ensures c.if-not-well_made.false) c.if-key-eq1.false (off_absent k.address p at) in
    c.make_off.ensures.answer ∙ sym (ap (λ (r : Reply). answer_of view_in r.answer) new)
