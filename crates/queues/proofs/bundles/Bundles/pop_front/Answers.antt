use Rattle.std.proofs.Common.{sym, ap, ◌∙◌, drop}
use Rattle.list.specs.Find.{written}
use Rattle.queues.specs.Made.{front}
use Rattle.queues.proofs.Fronts.{no_bundle, short, popped, popped_items}
use Rattle.queues.proofs.bundles.Bundles.pop_front.Goals as goal

pub returns-then-self-eq0-clause-items : goal.returns-then-self-eq0-clause-items
returns-then-self-eq0-clause-items c = let e = no_bundle c.args.self.now c.if-self-eq0.true in e ∙ sym (ap (drop 1) e)

pub returns-then-self-eq0-clause-lent : goal.returns-then-self-eq0-clause-lent
returns-then-self-eq0-clause-lent c = sym (ap (λ bs. written (front bs) c.args.lent.now) (no_bundle c.args.self.now c.if-self-eq0.true))

pub take_front-requires-clause-there : goal.take_front-requires-clause-there
take_front-requires-clause-there c = short c.args.self.now c.requires.bundles c.if-self-eq0.false

pub returns-clause-bundles : goal.returns-clause-bundles
returns-clause-bundles c =
    popped c.args.self.now c.requires.bundles c.if-self-eq0.false _ _ _ _ (rw c.requires.bundles.lengths.size at c.take_front-2.ensures.list) (rw c.requires.bundles.handles.size at c.take_front.ensures.list)
    c.take_front-2.ensures.items c.take_front.ensures.items

pub returns-clause-items : goal.returns-clause-items
returns-clause-items c =
    popped_items c.args.self.now c.requires.bundles c.if-self-eq0.false _ _ _ _ (rw c.requires.bundles.lengths.size at c.take_front-2.ensures.list) (rw c.requires.bundles.handles.size at c.take_front.ensures.list)
    c.take_front-2.ensures.items c.take_front.ensures.items
