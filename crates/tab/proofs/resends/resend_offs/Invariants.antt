use Rattle.std.proofs.Common.{◌≡◌, map}
use Rattle.std.specs.List.{All}
use Rattle.chan.specs.Channels.{off_of, IsOffChannel}
use Rattle.tab.specs.Resending.{rows_of_off, off_after}
use Rattle.tab.proofs.Listed.{Listed, part}
use Rattle.tab.proofs.resends.resend_offs.Given as goal

abbrev pub invariant-loop-i : goal.invariant-loop-i
invariant-loop-i l = record {
  channels : All IsOffChannel l.offs;
  items : map off_of l.offs ≡ part (off_after l.clock) l.i (map off_of l.initial.offs);
  listed : Listed (rows_of_off l.clock) l.initial.next l.initial.lent (map off_of l.initial.offs) l.i l.lent l.next;
}
