use Rattle.std.proofs.Common.{arith, sym, ◌∙◌}
use Rattle.model.specs.Rust.{holds_group}
use Rattle.queues.proofs.AllGroups.{held_here, held_on, held_none}
use Rattle.queues.proofs.groups.one_holds.Goals as goal

pub returns-then-holds : goal.returns-then-holds
returns-then-holds c = held_here _ _ _ _ _ c.loop-g-test.true c.holds.ensures c.if-holds.true c.loop-g.invariant

pub loop-g-preserved : goal.loop-g-preserved
loop-g-preserved c = held_on _ _ _ _ _ c.loop-g-test.true c.holds.ensures c.if-holds.false c.loop-g.invariant

pub returns : goal.returns
returns c = sym (sym c.loop-g.invariant ∙ held_none (holds_group c.args.handle) c.args.groups.now c.loop-g.g-index (omega (arith, c.loop-g-test.false)))
