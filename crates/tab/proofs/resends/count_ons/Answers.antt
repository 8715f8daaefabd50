use Rattle.std.proofs.Common.{arith, sym, map}
use Rattle.std.proofs.lemmas.List.{length-map}
use Rattle.std.proofs.Math.ListN.{get_or-map}
use Rattle.chan.specs.Channels.{on_of}
use Rattle.tab.specs.Resending.{rows_of_on}
use Rattle.tab.proofs.Listed.{counted_step, counted_end}
use Rattle.tab.proofs.resends.count_ons.Goals as goal

pub loop-on-preserved : goal.loop-on-preserved
loop-on-preserved c =
    record {
      bound = omega (arith, c.count_due-rows.ensures.few);
      rest =
          rw c.count_due-rows.ensures.rows
          (counted_step (rows_of_on c.args.clock) (map on_of c.args.channels.now) c.loop-on.on-index c.loop-on.rows _ _ _ (omega (arith, length-map c.args.channels.now on_of))
          (sym (get_or-map on_of c.args.channels.now c.loop-on.on-index _)) c.loop-on.invariant.rest);
    }

pub returns-clause-rows : goal.returns-clause-rows
returns-clause-rows c =
    counted_end (rows_of_on c.args.clock) (map on_of c.args.channels.now) c.loop-on.on-index c.loop-on.rows _ (omega (arith, length-map c.args.channels.now on_of)) c.loop-on.invariant.rest
