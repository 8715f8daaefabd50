use Rattle.std.proofs.Common.{arith, sym, ◌∙◌}
use Rattle.queues.proofs.OneGroup.{holds_here, holds_on, holds_end}
use Rattle.queues.proofs.groups.holds.Goals as goal
use Rattle.queues.proofs.groups.holds.Goals.{else-marks-i-eq1-via-then-marks-i-eq1+else-handles-i, else-marks-i-eq1-via-else-marks-i-eq1}

pub returns-then-handles-i : goal.returns-then-handles-i
returns-then-handles-i c = holds_here _ _ _ _ c.requires c.loop-i-test.true c.if-marks-i-eq1.true c.if-handles-i.true c.loop-i.invariant

pub loop-i-preserved : goal.loop-i-preserved
loop-i-preserved c = elim c.else-marks-i-eq1.branch [
  | else-marks-i-eq1-via-then-marks-i-eq1+else-handles-i w ↦ holds_on _ _ _ _ c.requires c.loop-i-test.true (λ p q. w.if-handles-i.false q) c.loop-i.invariant
  | else-marks-i-eq1-via-else-marks-i-eq1 w ↦ holds_on _ _ _ _ c.requires c.loop-i-test.true (λ p q. w.if-marks-i-eq1.false p) c.loop-i.invariant
]

pub returns : goal.returns
returns c = sym (sym c.loop-i.invariant ∙ holds_end _ _ _ _ c.requires (omega (arith, c.loop-i-test.false)))
