use Rattle.std.proofs.Common.{refl, ap, arith}
use Rattle.queues.specs.Places.{groups_of}
use Rattle.chan.specs.Channels.{data_of}
use Rattle.chan.proofs.Adding.{gives_ok, gives_over, limit_is, gives_beyond, gives_as, replaced, new_far, new_near, new_wide, new_many, new_items}
use Rattle.chan.proofs.Fits.{groups_fit}
use Rattle.chan.proofs.OffData.add_new.Goals as goal

pub returns-then-place-len-clause-given : goal.returns-then-place-len-clause-given
returns-then-place-len-clause-given c =
    gives_as _ _ _ _ _ (new_far c.args.p c.args.place c.args.time _ _ c.distance-len.ensures (omega (arith, c.if-place-len.true))) (gives_beyond _ _ refl)

pub returns-then-len-gt-MAX_FRAGMENTS-clause-given :
    goal.returns-then-len-gt-MAX_FRAGMENTS-clause-given
returns-then-len-gt-MAX_FRAGMENTS-clause-given c =
    gives_as _ _ _ _ _ (new_near c.args.p c.args.place c.args.time _ _ c.distance-len.ensures (omega (arith, c.if-place-len.false)))
    (gives_over _ _ _ _ (new_wide c.args.p c.args.place c.args.time _ (data_of c.args.self.now) c.distance-len.ensures (omega (arith, c.if-len-gt-MAX_FRAGMENTS.true)) (groups_fit _ c.requires.ready.groups)) refl refl)

pub returns-in_err-push-clause-given : goal.returns-in_err-push-clause-given
returns-in_err-push-clause-given c =
    gives_as _ _ _ _ _ (new_near c.args.p c.args.place c.args.time _ _ c.distance-len.ensures (omega (arith, c.if-place-len.false)))
    (gives_over _ _ _ _ (new_many c.args.p c.args.place c.args.time _ (data_of c.args.self.now) c.distance-len.ensures c.in_err-push.ensures.full) (limit_is _ c.from_residual.ensures.1)
    (replaced (data_of c.args.self.now) _ _ _ _ (ap groups_of c.in_err-push.ensures.unchanged) refl))

pub returns-clause-given : goal.returns-clause-given
returns-clause-given c =
    gives_as _ _ _ _ _ (new_near c.args.p c.args.place c.args.time _ _ c.distance-len.ensures (omega (arith, c.if-place-len.false)))
    (gives_ok _ _ _ (record { out = c.requires.ready.out; acks = c.requires.ready.acks; groups = c.push.ensures.groups; bundles = c.requires.ready.bundles })
    (replaced (data_of c.args.self.now) _ _ _ _ (new_items c.args.p c.args.place c.args.time _ (data_of c.args.self.now) c.distance-len.ensures _ _ _ c.in_ok-push.ensures.items c.store.ensures.stored c.new-group.ensures.new) refl))
