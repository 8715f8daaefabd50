-- What is left where one of several packets was refused.
use Rattle.std.specs.Prelude.{◌≡◌, false, ℕ, ◌<◌, List, length, take, get_or}
use Rattle.packet.specs.declared.Packet.{Packet}
use Rattle.packet.specs.Data.{no_packet}
use Rattle.model.specs.State.{OnChannel}
use Rattle.model.specs.Reorder.{arrive}
use Rattle.model.specs.Record.{reliable_of, with_reliable}
use Rattle.model.specs.Room.{fits_on}
use Rattle.order.specs.InOrder.{HasOrdered}

-- packet n was refused: those before it have arrived, and no other has; with it the channel would be over a limit
pub record FrontOrdered (ps : List Packet) (c : OnChannel) : Type 0 where
  pub n : ℕ
  pub before : n < length ps
  pub ordered : HasOrdered (take n ps) (reliable_of c)
  pub refused : fits_on (with_reliable (arrive (reliable_of c) (get_or ps n no_packet)) c) ≡ false
