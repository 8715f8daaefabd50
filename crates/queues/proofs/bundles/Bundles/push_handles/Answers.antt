use Rattle.std.proofs.Common.{arith, refl, inl, inr}
use Rattle.list.proofs.Edits.{on_err}
use Rattle.queues.proofs.Cuts.{len_is, total_is, pushed, pushed_items}
use Rattle.queues.proofs.bundles.Bundles.push_handles.Goals as goal

pub returns-then-self-ge16-clause-full : goal.returns-then-self-ge16-clause-full
returns-then-self-ge16-clause-full c = inl (omega (arith, len_is c.args.self.now c.requires, c.if-self-ge16.true))

pub returns-in_err-extend-clause-full : goal.returns-in_err-extend-clause-full
returns-in_err-extend-clause-full c =
    on_err _ (inr (omega (arith, total_is c.args.self.now c.requires, c.requires.handles.size, c.in_err-extend.ensures.full)))

pub returns-clause-bundles : goal.returns-clause-bundles
returns-clause-bundles c =
    pushed c.args.self.now _ _ _ _ _ _ c.requires (rw c.requires.lengths.size at c.push.ensures.list) (rw c.requires.handles.size at c.extend.ensures.list)
    c.in_ok-push.ensures.items c.in_ok-extend.ensures.items refl

pub returns-clause-items : goal.returns-clause-items
returns-clause-items c =
    pushed_items c.args.self.now _ _ _ _ _ _ c.requires (rw c.requires.lengths.size at c.push.ensures.list) (rw c.requires.handles.size at c.extend.ensures.list)
    c.in_ok-push.ensures.items c.in_ok-extend.ensures.items refl
