-- A reliable send on its channel.
use Rattle.std.specs.Prelude.{List, ◌++◌, ℕ, length}
use Rattle.seq.specs.Num.{add}
use Rattle.model.specs.State.{OffChannel, OnChannel, with_out, off_with, on_with, with_source}
use Rattle.model.specs.Rust.{sent_entries}

-- the packets join the out list at its end
abbrev pub joined_off : ℕ → ℕ → List ℕ → OffChannel → OffChannel
joined_off t n hs c = off_with (with_out (c.off.out ++ sent_entries t n hs) c.off) c

-- on-channel they are numbered from the channel's own source, which moves on
abbrev pub sent_on : ℕ → List ℕ → OnChannel → OnChannel
sent_on t hs c = on_with (with_out (c.off.out ++ sent_entries t c.source hs) c.off) (with_source (add c.source (length hs)) c)
