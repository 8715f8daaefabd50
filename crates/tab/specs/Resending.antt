-- A resend of channels of one kind, one after the other: the rows, and each channel after it.
use Rattle.std.specs.Prelude.{List, map}
use Rattle.list.specs.Find.{joined}
use Rattle.packet.specs.declared.Resend.{Resend}
use Rattle.model.specs.State.{OffChannel, OnChannel}
use Rattle.model.specs.Rust.{rows_off, rows_on, resent_off, resent_on}
use Rattle.queues.specs.declared.out_list.Clock.{Clock}

abbrev pub rows_of_off : Clock → OffChannel → List Resend
rows_of_off c x = rows_off c.time c.timeout c.give_up x

abbrev pub rows_of_on : Clock → OnChannel → List Resend
rows_of_on c x = rows_on c.time c.timeout c.give_up x

abbrev pub off_after : Clock → OffChannel → OffChannel
off_after c x = resent_off c.time c.timeout c.give_up x

abbrev pub on_after : Clock → OnChannel → OnChannel
on_after c x = resent_on c.time c.timeout c.give_up x

abbrev pub off_rows : Clock → List OffChannel → List Resend
off_rows c xs = joined (map (rows_of_off c) xs)

abbrev pub on_rows : Clock → List OnChannel → List Resend
on_rows c xs = joined (map (rows_of_on c) xs)
