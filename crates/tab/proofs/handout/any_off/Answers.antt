use Rattle.std.proofs.Common.{arith}
use Rattle.model.specs.Rust.{holds_off}
use Rattle.chan.specs.Channels.{off_of}
use Rattle.tab.proofs.Held.{found_here, not_here, none_left_here}
use Rattle.tab.proofs.handout.any_off.Goals as goal

pub returns-then-holds : goal.returns-then-holds
returns-then-holds c = found_here (holds_off c.args.handle) off_of _ _ _ c.loop-c-test.true _ c.holds.ensures c.if-holds.true c.loop-c.invariant

pub loop-c-preserved : goal.loop-c-preserved
loop-c-preserved c = not_here (holds_off c.args.handle) off_of _ _ _ c.loop-c-test.true _ c.holds.ensures c.if-holds.false c.loop-c.invariant

pub returns : goal.returns
returns c = none_left_here (holds_off c.args.handle) off_of _ _ (omega (arith, c.loop-c-test.false)) c.loop-c.invariant
