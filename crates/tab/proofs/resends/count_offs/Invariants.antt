use Rattle.std.proofs.Common.{◌≡◌, ◌≤◌, ◌+◌, ◌*◌, drop, length, map}
use Rattle.chan.specs.Channels.{off_of}
use Rattle.tab.specs.Resending.{off_rows}
use Rattle.tab.proofs.resends.count_offs.Given as goal

abbrev pub invariant-loop-off : goal.invariant-loop-off
invariant-loop-off l = record {
  bound : l.rows ≤ 32 * l.off-index;
  rest : l.rows + length (off_rows l.clock (drop l.off-index (map off_of l.channels))) ≡ length (off_rows l.clock (map off_of l.channels));
}
