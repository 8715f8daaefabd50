-- What a list of waiting packets stands for, and when it is in its form.
use Rattle.std.specs.Prelude.{List, length, take, replicate}
use Rattle.list.specs.Pad.{pad}
use Rattle.list.specs.Lists.{IsList}
use Rattle.packet.specs.declared.Packet.{Packet}
use Rattle.packet.specs.Data.{no_packet}
use Rattle.queues.specs.declared.waiting.Waiting.{Waiting}
use Rattle.queues.specs.declared.waiting.Run.{Run}

abbrev pub packets_of : Waiting → List Packet
packets_of w = take w.len w.packets

-- at most 32 packets, and zeros past them
abbrev pub IsWaiting : Waiting → Type 0
IsWaiting w = IsList 32 no_packet w.len w.packets

-- the one value that stands for the list
abbrev pub repr : List Packet → Waiting
repr xs = record { len = length xs; packets = pad 32 no_packet xs }

abbrev pub no_waiting : Waiting
no_waiting = record { len = 0; packets = replicate 32 no_packet }

abbrev pub run_of : Run → List Packet
run_of w = take w.len w.packets

abbrev pub IsRun : Run → Type 0
IsRun w = IsList 65 no_packet w.len w.packets
