-- The acks of a forwarded packet, on the ack queue.
use Rattle.std.specs.Prelude.{Bool}
use Rattle.packet.specs.declared.Record.{Record}
use Rattle.packet.specs.Data.{single_acks}
use Rattle.model.specs.State.{OffData, with_acks}
use Rattle.model.specs.Acks.{ack_in_singles}
use Rattle.model.specs.Rust.{cumulated_in}

abbrev pub acked_in : Bool → Record → OffData → OffData
acked_in cumulative r d = with_acks (ack_in_singles (single_acks r) (cumulated_in cumulative r.cumulative d.acks)) d
