-- When a table is well formed, and the test of it for any bytes (refusal 1). The test is true exactly where the table is well formed.
use Rattle.std.specs.Prelude.{◌≡◌, Bool, true, ◌&&◌, List, map, ℕ, leb, eqb, length, take, drop}
use Rattle.list.specs.Pad.{all_b}
use Rattle.seq.specs.Num.{legal}
use Rattle.packet.specs.Data.{is_flag}
use Rattle.model.specs.Wellformed.{distinct, same_off, same_on, well_formed}
use Rattle.chan.specs.declared.OffChannel.{OffChannel}
use Rattle.chan.specs.declared.OnChannel.{OnChannel}
use Rattle.chan.specs.Channels.{off_of, on_of}
use Rattle.chan.specs.Tests.{off_test, on_test, idle_off, idle_on}
use Rattle.tab.specs.declared.Table.{Table}
use Rattle.tab.specs.Tables.{state_of, IsTable}

-- it is the one form of its state, and the state's numbers, keys and lists are as the relay keeps them
pub record IsWellFormed (t : Table) : Type 0 where
  pub form : IsTable t
  pub meets : well_formed (state_of t) ≡ true

-- ---- the test, part by part

-- the counts keep their limits, and the shared number is legal
abbrev pub numbers_good : Table → Bool
numbers_good t = is_flag t.forwarding && legal t.source.next && leb t.offcount 4 && leb t.oncount 8

-- an idle channel that passes its test is all zero
abbrev pub spare_off : ℕ → OffChannel → Bool
spare_off latest c = off_test latest c && idle_off c

abbrev pub spare_on : ℕ → OnChannel → Bool
spare_on latest c = on_test latest c && idle_on c

-- each of the first n channels is good at the latest time, each after them unused
unfoldable pub offs_good : List OffChannel → ℕ → ℕ → Bool
offs_good l n latest = eqb (length l) 4 && all_b (off_test latest) (take n l) && all_b (spare_off latest) (drop n l)

unfoldable pub ons_good : List OnChannel → ℕ → ℕ → Bool
ons_good l n latest = eqb (length l) 8 && all_b (on_test latest) (take n l) && all_b (spare_on latest) (drop n l)

-- keys are distinct
abbrev pub keys_distinct : Table → Bool
keys_distinct t = distinct same_off (map off_of (take t.offcount t.offs)) && distinct same_on (map on_of (take t.oncount t.ons))

unfoldable pub wfb : Table → Bool
wfb t = numbers_good t && offs_good t.offs t.offcount t.latest && ons_good t.ons t.oncount t.latest && keys_distinct t
