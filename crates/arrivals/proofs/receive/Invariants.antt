use Rattle.std.proofs.Common.{◌≡◌, take}
use Rattle.order.proofs.Lift.{feed}
use Rattle.chan.specs.Channels.{IsOnChannel}
use Rattle.chan.specs.Arriving.{reliable}
use Rattle.arrivals.proofs.receive.Given as goal

abbrev pub invariant-loop-p : goal.invariant-loop-p
invariant-loop-p l = record {
  channel : IsOnChannel l.channel;
  fed : reliable l.channel ≡ feed (reliable l.initial.channel) (take l.p-index l.packets);
}
