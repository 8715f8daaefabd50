-- The tests whether a value is a list in its form with good entries: what a table lent by a host is asked, for any bytes.
use Rattle.std.specs.Prelude.{Bool, true, ◌&&◌, ◌||◌, List, [], ◌∷◌, ℕ, leb, eqb, length, take, drop}
use Rattle.list.specs.Pad.{all_b}
use Rattle.list.specs.Find.{sum}
use Rattle.seq.specs.Num.{legal}
use Rattle.packet.specs.declared.OutEntry.{OutEntry}
use Rattle.packet.specs.declared.Packet.{Packet}
use Rattle.model.specs.Wellformed.{entry_good, packet_good, rising, consecutive, distinct, same_first}
use Rattle.queues.specs.declared.out_list.OutList.{OutList}
use Rattle.queues.specs.declared.ack_queue.AckQueue.{AckQueue}
use Rattle.queues.specs.declared.waiting.Waiting.{Waiting}
use Rattle.queues.specs.declared.bundles.Bundles.{Bundles}
use Rattle.queues.specs.declared.groups.Fragments.{Fragments}
use Rattle.queues.specs.declared.groups.Groups.{Groups}
use Rattle.queues.specs.Out.{entries}
use Rattle.queues.specs.Acks.{numbers}
use Rattle.queues.specs.Packets.{packets_of}
use Rattle.queues.specs.Places.{groups_of}

abbrev pub is_zero : ℕ → Bool
is_zero n = eqb n 0

-- ---- the out list: at most 32 entries, each good at the latest time, and unused places zero

abbrev pub no_entry_b : OutEntry → Bool
no_entry_b e = eqb e.time 0 && eqb e.sent 0 && eqb e.number 0 && eqb e.held 0 && eqb e.handle 0

unfoldable pub out_good : ℕ → OutList → Bool
out_good latest o = eqb (length o.entries) 32 && leb o.len 32 && all_b no_entry_b (drop o.len o.entries) && all_b (entry_good latest) (entries o)

-- ---- the ack queue: at most 64 numbers, each legal, and unused places zero

unfoldable pub acks_good : AckQueue → Bool
acks_good q = eqb (length q.numbers) 64 && leb q.len 64 && all_b is_zero (drop q.len q.numbers) && all_b legal (numbers q)

-- ---- groups

-- a mark is 1, or mark and handle are 0
abbrev pub place_good : ℕ → ℕ → Bool
place_good m h = eqb m 1 || eqb m 0 && eqb h 0

unfoldable pub places_good : List ℕ → List ℕ → Bool
places_good [] hs = true
places_good (m ∷ ms) [] = true
places_good (m ∷ ms) (h ∷ hs) = place_good m h && places_good ms hs

abbrev pub sized : Fragments → Bool
sized g = eqb (length g.marks) 32 && eqb (length g.handles) 32

-- filled places are counted truly, and unused places are zero
unfoldable pub fragments_good : Fragments → Bool
fragments_good g =
    sized g && leb g.len 32 && (all_b is_zero (drop g.len g.marks) && places_good g.marks g.handles) && eqb (sum g.marks) g.count

-- each group's last update is not after the latest time, and its first number is legal
abbrev pub used_good : ℕ → Fragments → Bool
used_good latest g = fragments_good g && (legal g.first && leb g.updated latest)

abbrev pub spare_good : Fragments → Bool
spare_good g = fragments_good g && (eqb g.first 0 && eqb g.updated 0 && eqb g.len 0)

-- at most 4 groups, each good, unused places zero, first numbers distinct
unfoldable pub groups_good : ℕ → Groups → Bool
groups_good latest gs =
    eqb (length gs.groups) 4 && leb gs.len 4 && (all_b (used_good latest) (take gs.len gs.groups) && all_b spare_good (drop gs.len gs.groups)) && distinct same_first (groups_of gs)

-- ---- bundles: the counts keep their limits, the lengths add up to the total, and unused places are zero

unfoldable pub bundles_good : Bundles → Bool
bundles_good b =
    (eqb (length b.lengths) 16 && eqb (length b.handles) 64) && leb b.len 16 && leb b.total 64 && all_b is_zero (drop b.len b.lengths) && eqb (sum b.lengths) b.total && all_b is_zero (drop b.total b.handles)

-- ---- packets that wait

abbrev pub no_packet_b : Packet → Bool
no_packet_b p = eqb p.number 0 && eqb p.handle 0 && eqb p.ranged 0 && eqb p.first 0 && eqb p.last 0

unfoldable pub kept : Waiting → Bool
kept w = eqb (length w.packets) 32 && leb w.len 32 && all_b no_packet_b (drop w.len w.packets)

-- distances of buffered numbers from the expected one rise within 1 to 2^27
unfoldable pub buffer_good : Waiting → ℕ → Bool
buffer_good w e = kept w && (all_b packet_good (packets_of w) && rising e 0 (packets_of w))

-- the contiguous queue is consecutive and ends before the expected number
unfoldable pub queue_good : Waiting → ℕ → Bool
queue_good w e = kept w && (all_b packet_good (packets_of w) && consecutive e (packets_of w))
