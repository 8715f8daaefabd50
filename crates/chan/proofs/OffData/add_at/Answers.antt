use Rattle.std.proofs.Common.{refl, ◌∙◌, false, true}
use Rattle.model.specs.State as model
use Rattle.model.specs.Group.{store, stale, is_beyond, full}
use Rattle.chan.specs.Channels.{data_of}
use Rattle.chan.proofs.Adding.{gives_ok, gives_beyond, gives_as, seen, is_stale, is_far, is_stored, there, put_there, replaced}
use Rattle.chan.proofs.OffData.add_at.Goals as goal

pub at-group-requires-clause-there : goal.at-group-requires-clause-there
at-group-requires-clause-there c = there c.args.g c.args.place c.args.handle c.args.time (data_of c.args.self.now) c.requires.there

pub returns-then-is_stale-clause-given : goal.returns-then-is_stale-clause-given
returns-then-is_stale-clause-given c =
    let s = seen (stale c.args.time) _ _ _ _ c.at-group.ensures.item c.is_stale.ensures c.if-is_stale.true in
    gives_as _ _ _ _ _ (is_stale c.args.g c.args.place c.args.handle c.args.time (data_of c.args.self.now) s) (gives_ok _ _ _ c.requires.ready refl)

pub returns-then-is_beyond-clause-given : goal.returns-then-is_beyond-clause-given
returns-then-is_beyond-clause-given c =
    let s = seen (stale c.args.time) _ _ _ _ c.at-group.ensures.item c.is_stale.ensures c.if-is_stale.false in
    let f = seen (is_beyond c.args.place) _ _ _ _ c.at-group.ensures.item c.is_beyond.ensures c.if-is_beyond.true in
    gives_as _ _ _ _ _ (is_far c.args.g c.args.place c.args.handle c.args.time (data_of c.args.self.now) s f) (gives_beyond _ _ refl)

pub complete-requires-clause-full : goal.complete-requires-clause-full
complete-requires-clause-full c =
    seen (λ (x : model.Group). full (store c.args.place c.args.handle c.args.time x)) _ _ _ _ c.at-group.ensures.item (c.fills.ensures c.args.handle c.args.time) c.if-fills.true

pub returns-then-fills-clause-given : goal.returns-then-fills-clause-given
returns-then-fills-clause-given c =
    let s = seen (stale c.args.time) _ _ _ _ c.at-group.ensures.item c.is_stale.ensures c.if-is_stale.false in
    let f = seen (is_beyond c.args.place) _ _ _ _ c.at-group.ensures.item c.is_beyond.ensures c.if-is_beyond.false in
    let w = seen (λ (x : model.Group). full (store c.args.place c.args.handle c.args.time x)) _ _ _ _ c.at-group.ensures.item (c.fills.ensures c.args.handle c.args.time) c.if-fills.true in
    gives_as _ _ _ _ _ (is_stored c.args.g c.args.place c.args.handle c.args.time (data_of c.args.self.now) s f true w) c.complete.ensures.given

pub returns-clause-given : goal.returns-clause-given
returns-clause-given c =
    let s = seen (stale c.args.time) _ _ _ _ c.at-group.ensures.item c.is_stale.ensures c.if-is_stale.false in
    let f = seen (is_beyond c.args.place) _ _ _ _ c.at-group.ensures.item c.is_beyond.ensures c.if-is_beyond.false in
    let w = seen (λ (x : model.Group). full (store c.args.place c.args.handle c.args.time x)) _ _ _ _ c.at-group.ensures.item (c.fills.ensures c.args.handle c.args.time) c.if-fills.false in
    gives_as _ _ _ _ _ (is_stored c.args.g c.args.place c.args.handle c.args.time (data_of c.args.self.now) s f false w)
    (gives_ok _ _ _ (record { out = c.requires.ready.out; acks = c.requires.ready.acks; groups = c.store.ensures.groups; bundles = c.requires.ready.bundles })
    (replaced (data_of c.args.self.now) _ _ _ _ (c.store.ensures.items ∙ put_there c.args.g c.args.place c.args.handle c.args.time (data_of c.args.self.now) c.requires.there _) refl))
