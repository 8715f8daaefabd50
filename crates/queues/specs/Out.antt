-- What an out list stands for, and when it is in its form.
use Rattle.std.specs.Prelude.{◌&&◌, not, Bool, List, ℕ, map, length, take, replicate}
use Rattle.list.specs.Pad.{pad}
use Rattle.list.specs.Lists.{IsList}
use Rattle.packet.specs.declared.OutEntry.{OutEntry}
use Rattle.packet.specs.Data.{no_entry}
use Rattle.packet.specs.declared.Resend.{Resend}
use Rattle.list.specs.Find.{keep_by}
use Rattle.model.specs.Rust.{young, due, mark, row}
use Rattle.queues.specs.declared.out_list.OutList.{OutList}
use Rattle.queues.specs.declared.out_list.Clock.{Clock}

abbrev pub entries : OutList → List OutEntry
entries o = take o.len o.entries

-- at most 32 entries, and zeros past them
abbrev pub IsOutList : OutList → Type 0
IsOutList o = IsList 32 no_entry o.len o.entries

-- the one value that stands for the list
abbrev pub repr : List OutEntry → OutList
repr xs = record { len = length xs; entries = pad 32 no_entry xs }

abbrev pub no_out_list : OutList
no_out_list = record { len = 0; entries = replicate 32 no_entry }

-- ---- a resend, at a time with its timeout and give-up

-- an entry has a row: it is not given up, and it is due
abbrev pub listed : ℕ → ℕ → ℕ → OutEntry → Bool
listed t timeout give_up e = young t give_up e && due t timeout e

-- a resend leaves an entry as it is: it is neither given up nor due
abbrev pub calm : ℕ → ℕ → ℕ → OutEntry → Bool
calm t timeout give_up e = young t give_up e && not (due t timeout e)

abbrev pub due_entries : Clock → List OutEntry → List OutEntry
due_entries c es = keep_by (due c.time c.timeout) (keep_by (young c.time c.give_up) es)

abbrev pub due_rows : ℕ → Clock → List OutEntry → List Resend
due_rows a c es = map (row a) (due_entries c es)

-- those given up go, and those due are last sent now
abbrev pub resent : Clock → List OutEntry → List OutEntry
resent c es = map (mark c.time c.timeout) (keep_by (young c.time c.give_up) es)
