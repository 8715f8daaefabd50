-- What a well-made record tells of its fields. Assumes nothing.
use mathlib.Core.Path.{◌≡◌}
use mathlib.Core.Bool.{true, ◌&&◌}
use Prim.Native.Nat.{◌≤◌}
use borrow.Author.Tests.{leb-true}
use lib.Dec.{leb}
use Rattle.list.specs.Pad.{all_b}
use Rattle.list.proofs.Pad.{and_left, and_right}
use Rattle.seq.specs.Num.{legal}
use Rattle.packet.specs.declared.Record.{Record}
use Rattle.packet.specs.Data.{given, flagged, index_good, single_acks, acks_good, well_made}

-- it has at most 8 single acks
pub few-acks : (r : Record) → well_made r ≡ true → r.ackcount ≤ 8
unfolding well_made
few-acks r h =
    let rest = flagged r && index_good r && legal r.number && given r.ranged (legal r.first && legal r.last) && given r.hascumulative (legal r.cumulative) && given r.haslast (legal r.lastreliable) in
    leb-true r.ackcount 8 (and_left (leb r.ackcount 8) (all_b legal (single_acks r)) (and_right rest (acks_good r) h))
