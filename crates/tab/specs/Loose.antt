-- Packets that are not reliable: the shared source moves on where they are more than one.
use Rattle.std.specs.Prelude.{Bool, true, false, ℕ}
use Rattle.seq.specs.Num.{add}
use Rattle.model.specs.State.{Protocol, with_shared}

abbrev pub loosed : Bool → ℕ → Protocol → Protocol
loosed true n p = with_shared (add p.source n) p
loosed false n p = p
