use Rattle.std.proofs.Common.{◌≡◌, length}
use Rattle.packet.specs.Data.{no_packet}
use Rattle.model.specs.Acks.{search}
use Rattle.model.specs.Reorder.{packet_number}
use Rattle.queues.proofs.waiting.place_of.Given as goal

abbrev pub invariant-loop-i : goal.invariant-loop-i
invariant-loop-i l = search packet_number no_packet l.number l.packets l.i ≡ search packet_number no_packet l.number l.packets (length l.packets)
