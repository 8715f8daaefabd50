-- The scope's "Proved table", as a statement: "One table, one theorem".
use Rattle.std.specs.Prelude.{◌≡◌, [], ◌∷◌, ℕ, ◌+◌}
use Rattle.std.specs.declared.option.Option.TheVariants.{None, Some}
use Rattle.std.specs.declared.cmp.Ordering.TheVariants.{Greater}
use Rattle.seq.specs.Num.{add, sub, cmp, observe_s}
use Rattle.seq.specs.Prefix.{mixed}
use Rattle.packet.specs.declared.OutEntry.{OutEntry}
use Rattle.packet.specs.declared.Packet.{Packet}
use Rattle.model.specs.State.{Group, OffData}
use Rattle.model.specs.Acks.{ack_cumulative, ack_in_singles}
use Rattle.model.specs.Group.{add_in_packet, done}

-- an out entry of a number, whatever its times and handle are
abbrev pub entry : OutEntry → ℕ → OutEntry
entry e n = record { time = e.time; sent = e.sent; number = n; held = e.held; handle = e.handle }

-- a group of three places, of which the first is filled, last updated at time u; and what a channel has that holds it alone
abbrev pub waiting : ℕ → Group
waiting u = record { first = 0; updated = u; places = Some 20 ∷ None ∷ None ∷ [] }

abbrev pub holding : Group → OffData
holding g = record { out = []; acks = []; groups = g ∷ []; bundles = [] }

-- the next fragment of that group
abbrev pub fragment : Packet
fragment = record { number = 1; handle = 21; ranged = 1; first = 0; last = 2 }

-- the group with that fragment stored, and its last update set
abbrev pub grown : ℕ → Group
grown t = record { first = 0; updated = t; places = Some 20 ∷ Some 21 ∷ None ∷ [] }

pub record ProvedTable : Type 0 where
  -- 0 - 1 = 0x0FFFFFFF
  pub minus_one : sub 0 1 ≡ 0x0FFF_FFFF
  -- 0 against 0x08000000 and back, Greater twice
  pub half : cmp 0 0x0800_0000 ≡ Greater
  pub half_back : cmp 0x0800_0000 0 ≡ Greater
  -- `alloc` 4 at 0x0FFFFFFE leaves 2
  pub alloc_wraps : add 0x0FFF_FFFE 4 ≡ 2
  -- `observe` 0x0FFFFFFF at 5 stays
  pub observe_stays : observe_s 5 0x0FFF_FFFF ≡ 5
  -- prefix sum for a = 1 is 0x42021
  pub prefix_of_one : mixed 1 ≡ 0x42021
  -- cumulative 3 on 1, 2, 3, 5 leaves 3, 5
  pub cumulative : (e : OutEntry) → ack_cumulative 3 (entry e 1 ∷ entry e 2 ∷ entry e 3 ∷ entry e 5 ∷ []) ≡ entry e 3 ∷ entry e 5 ∷ []
  -- forwarded ack 7 on 4, 7, 9, 6 leaves 4, 6, 9
  pub forwarded_ack_lem : ack_in_singles (7 ∷ []) (4 ∷ 7 ∷ 9 ∷ 6 ∷ []) ≡ 4 ∷ 6 ∷ 9 ∷ []
  -- group age 10,000 stored
  pub age_stored : (u : ℕ) → add_in_packet (u + 10_000) fragment (holding (waiting u)) ≡ done (holding (grown (u + 10_000)))
  -- 10,001 dropped: the group stays
  pub age_dropped : (u : ℕ) → add_in_packet (u + 10_001) fragment (holding (waiting u)) ≡ done (holding (waiting u))
