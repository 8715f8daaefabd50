use Rattle.std.proofs.Common.{arith, inl, inr, sym, ◌∙◌}
use Rattle.list.proofs.Edits.{on_err}
use Rattle.queues.proofs.Cuts.{len_is, total_is, room_has, pushed, pushed_items, as_many, handles_many}
use Rattle.queues.proofs.bundles.Bundles.push.Goals as goal

pub returns-in_err-add_handles-clause-full : goal.returns-in_err-add_handles-clause-full
returns-in_err-add_handles-clause-full c =
    on_err _ (inr (omega (arith, total_is c.args.self.now c.requires, c.requires.handles.size, c.in_err-add_handles.ensures.full)))

pub overflow_cast-packets : goal.overflow_cast-packets
overflow_cast-packets c =
    let n = as_many 64 _ _ _ _ _ (rw c.requires.handles.size at c.add_handles.ensures.list) c.requires.handles c.in_ok-add_handles.ensures.items in
    record { fits = omega (arith, n, c.add_handles.ensures.list.fits, c.requires.handles.size) }

pub returns-in_err-push-clause-full : goal.returns-in_err-push-clause-full
returns-in_err-push-clause-full c = on_err _ (inl (omega (arith, len_is c.args.self.now c.requires, c.requires.lengths.size, c.in_err-push.ensures.full)))

pub returns-clause-bundles : goal.returns-clause-bundles
returns-clause-bundles c =
    pushed c.args.self.now _ _ _ _ _ _ c.requires (rw c.requires.lengths.size at c.push.ensures.list) (rw c.requires.handles.size at c.add_handles.ensures.list)
    c.in_ok-push.ensures.items c.in_ok-add_handles.ensures.items (handles_many c.args.packets.now)

pub returns-clause-items : goal.returns-clause-items
returns-clause-items c =
    pushed_items c.args.self.now _ _ _ _ _ _ c.requires (rw c.requires.lengths.size at c.push.ensures.list) (rw c.requires.handles.size at c.add_handles.ensures.list)
    c.in_ok-push.ensures.items c.in_ok-add_handles.ensures.items (handles_many c.args.packets.now)

pub returns-in_err-add_handles-clause-bundles : goal.returns-in_err-add_handles-clause-bundles
returns-in_err-add_handles-clause-bundles c =
    absurd (omega (arith, room_has c.args.self.now c.requires _ (sym c.has_room.ensures ∙ c.if-not-has_room.false), c.requires.handles.size, c.in_err-add_handles.ensures.full))

pub returns-in_err-add_handles-clause-unchanged : goal.returns-in_err-add_handles-clause-unchanged
returns-in_err-add_handles-clause-unchanged c =
    absurd (omega (arith, room_has c.args.self.now c.requires _ (sym c.has_room.ensures ∙ c.if-not-has_room.false), c.requires.handles.size, c.in_err-add_handles.ensures.full))

pub returns-in_err-push-clause-bundles : goal.returns-in_err-push-clause-bundles
returns-in_err-push-clause-bundles c =
    absurd (omega (arith, room_has c.args.self.now c.requires _ (sym c.has_room.ensures ∙ c.if-not-has_room.false), c.requires.lengths.size, c.in_err-push.ensures.full))

pub returns-in_err-push-clause-unchanged : goal.returns-in_err-push-clause-unchanged
returns-in_err-push-clause-unchanged c =
    absurd (omega (arith, room_has c.args.self.now c.requires _ (sym c.has_room.ensures ∙ c.if-not-has_room.false), c.requires.lengths.size, c.in_err-push.ensures.full))
