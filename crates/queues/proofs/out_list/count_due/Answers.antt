use Rattle.std.proofs.Common.{length, ap, arith, sym, ◌∙◌}
use Rattle.queues.proofs.Resent.{count_yes, count_no, none_due}
use Rattle.queues.proofs.out_list.count_due.Goals as goal
use Rattle.queues.proofs.out_list.count_due.Goals.{then-listed, else-listed}

pub loop-e-init : goal.loop-e-init
loop-e-init c = record { some = omega arith; rest = omega arith }

pub loop-e-preserved : goal.loop-e-preserved
loop-e-preserved c =
    elim c.if-listed.branch [
      | then-listed w ↦ record {
        some = omega arith;
        rest = rw w.n-is (count_yes c.args.clock c.args.entries.now c.loop-e.e-index c.loop-e.n _ c.loop-e-test.true (sym c.listed.ensures ∙ w.if-listed.true) c.loop-e.invariant.rest);
      }
      | else-listed w ↦ record {
        some = omega arith;
        rest = rw w.n-is (count_no c.args.clock c.args.entries.now c.loop-e.e-index c.loop-e.n _ c.loop-e-test.true (sym c.listed.ensures ∙ w.if-listed.false) c.loop-e.invariant.rest);
      }
    ]

pub returns : goal.returns
returns c = omega (arith, c.loop-e.invariant.rest, ap length (none_due c.args.clock c.args.entries.now c.loop-e.e-index c.loop-e-test.false))
