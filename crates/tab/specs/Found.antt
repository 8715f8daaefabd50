-- A channel that is made: its view, where there is a place for one more.
use Rattle.std.specs.Prelude.{Bool, true, false, ℕ}
use Rattle.packet.specs.declared.View.{View}
use Rattle.packet.specs.declared.Refusal.TheVariants.{TableFull}
use Rattle.model.specs.State.{Protocol, State, with_protocol, new_off, new_on, off_view, on_view, put_off, put_on}
use Rattle.model.specs.Room.{off_room, on_room}
use Rattle.model.specs.Calls.{found}
use Rattle.model.specs.Port.{Reply, untimed, refuse, grant}

abbrev pub made_reply : Bool → View → Protocol → State → Reply
made_reply true v p s = grant (found v) (with_protocol p s)
made_reply false v p s = refuse TableFull (untimed s)

-- the off-channel of an address, and the on-channel of an address and an index, in a state that has none
abbrev pub made_off : ℕ → State → Reply
made_off a s = made_reply (off_room s.protocol) (off_view (new_off a)) (put_off (new_off a) s.protocol) s

abbrev pub made_on : ℕ → ℕ → ℕ → State → Reply
made_on a i v s = made_reply (on_room s.protocol) (on_view (new_on a i v)) (put_on (new_on a i v) s.protocol) s
