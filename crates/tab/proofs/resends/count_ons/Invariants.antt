use Rattle.std.proofs.Common.{◌≡◌, ◌≤◌, ◌+◌, ◌*◌, drop, length, map}
use Rattle.chan.specs.Channels.{on_of}
use Rattle.tab.specs.Resending.{on_rows}
use Rattle.tab.proofs.resends.count_ons.Given as goal

abbrev pub invariant-loop-on : goal.invariant-loop-on
invariant-loop-on l = record {
  bound : l.rows ≤ 32 * l.on-index;
  rest : l.rows + length (on_rows l.clock (drop l.on-index (map on_of l.channels))) ≡ length (on_rows l.clock (map on_of l.channels));
}
