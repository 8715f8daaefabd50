use Rattle.std.proofs.Common.{◌∷◌, [], refl, ap}
use Rattle.queues.specs.Made.{bundles_of}
use Rattle.chan.specs.Channels.{data_of}
use Rattle.chan.proofs.Adding.{gives_ok, gives_over, limit_is, with_new_bundle, one_more, replaced}
use Rattle.chan.proofs.OffData.add_one.Goals as goal

pub returns-in_err-push_one-clause-given : goal.returns-in_err-push_one-clause-given
returns-in_err-push_one-clause-given c =
    gives_over _ _ _ _ (with_new_bundle _ (bundles_of c.args.self.now.bundles) (c.args.handle ∷ []) 1 refl refl (one_more _ c.in_err-push_one.ensures.full)) (limit_is _ c.from_residual.ensures.1)
    (replaced (data_of c.args.self.now) _ _ _ _ refl (ap bundles_of c.in_err-push_one.ensures.unchanged))

pub returns-clause-given : goal.returns-clause-given
returns-clause-given c =
    gives_ok _ _ _ (record { out = c.requires.ready.out; acks = c.requires.ready.acks; groups = c.requires.ready.groups; bundles = c.push_one.ensures.bundles })
    (replaced (data_of c.args.self.now) _ _ _ _ refl c.in_ok-push_one.ensures.items)
