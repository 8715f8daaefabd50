use Rattle.std.proofs.Common.{◌≡◌, map}
use Rattle.std.specs.List.{All}
use Rattle.chan.specs.Channels.{on_of, IsOnChannel}
use Rattle.tab.specs.Resending.{rows_of_on, on_after}
use Rattle.tab.proofs.Listed.{Listed, part}
use Rattle.tab.proofs.resends.resend_ons.Given as goal

abbrev pub invariant-loop-i : goal.invariant-loop-i
invariant-loop-i l = record {
  channels : All IsOnChannel l.ons;
  items : map on_of l.ons ≡ part (on_after l.clock) l.i (map on_of l.initial.ons);
  listed : Listed (rows_of_on l.clock) l.initial.next l.initial.lent (map on_of l.initial.ons) l.i l.lent l.next;
}
