use Rattle.std.proofs.Common.{◌∷◌, [], ◌++◌, List, ℕ, refl, ap, ◌∙◌}
use Rattle.model.specs.State as model
use Rattle.model.specs.Group.{store, in_places}
use Rattle.queues.specs.Made.{bundles_of}
use Rattle.chan.specs.Channels.{data_of}
use Rattle.chan.proofs.Adding.{gives_ok, gives_over, limit_is, with_new_bundle, replaced, gone}
use Rattle.chan.proofs.OffData.complete.Goals as goal

pub returns-in_err-push_handles-clause-given : goal.returns-in_err-push_handles-clause-given
returns-in_err-push_handles-clause-given c =
    let stored = c.store.ensures.stored ∙ ap (store c.args.place c.args.handle c.args.time) c.at.ensures.item in
    let handles = c.handles.ensures ∙ ap (λ (x : model.Group). in_places x.places) stored in
    gives_over _ _ _ _ (with_new_bundle _ (bundles_of c.args.self.now.bundles) _ _ refl refl (rw handles at c.in_err-push_handles.ensures.full)) (limit_is _ c.from_residual.ensures.1)
    (replaced (data_of c.args.self.now) _ _ _ _ refl (ap bundles_of c.in_err-push_handles.ensures.unchanged))

pub returns-clause-given : goal.returns-clause-given
returns-clause-given c =
    let stored = c.store.ensures.stored ∙ ap (store c.args.place c.args.handle c.args.time) c.at.ensures.item in
    let handles = c.handles.ensures ∙ ap (λ (x : model.Group). in_places x.places) stored in
    gives_ok _ _ _ (record { out = c.requires.ready.out; acks = c.requires.ready.acks; groups = c.remove.ensures.groups; bundles = c.push_handles.ensures.bundles })
    (replaced (data_of c.args.self.now) _ _ _ _ (c.remove.ensures.items ∙ gone c.args.g c.args.place c.args.handle c.args.time (data_of c.args.self.now) c.requires.there)
    (c.in_ok-push_handles.ensures.items ∙ ap (λ (l : List ℕ). bundles_of c.args.self.now.bundles ++ l ∷ []) handles))
