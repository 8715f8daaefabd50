use Rattle.std.proofs.Common.{arith, sym, map}
use Rattle.std.proofs.lemmas.List.{length-map}
use Rattle.std.proofs.Math.ListN.{get_or-map}
use Rattle.chan.specs.Channels.{off_of}
use Rattle.tab.specs.Resending.{rows_of_off}
use Rattle.tab.proofs.Listed.{counted_step, counted_end}
use Rattle.tab.proofs.resends.count_offs.Goals as goal

pub loop-off-preserved : goal.loop-off-preserved
loop-off-preserved c =
    record {
      bound = omega (arith, c.count_due-rows.ensures.few);
      rest =
          rw c.count_due-rows.ensures.rows
          (counted_step (rows_of_off c.args.clock) (map off_of c.args.channels.now) c.loop-off.off-index c.loop-off.rows _ _ _ (omega (arith, length-map c.args.channels.now off_of))
          (sym (get_or-map off_of c.args.channels.now c.loop-off.off-index _)) c.loop-off.invariant.rest);
    }

pub returns-clause-rows : goal.returns-clause-rows
returns-clause-rows c =
    counted_end (rows_of_off c.args.clock) (map off_of c.args.channels.now) c.loop-off.off-index c.loop-off.rows _ (omega (arith, length-map c.args.channels.now off_of)) c.loop-off.invariant.rest
