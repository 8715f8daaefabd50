-- An on-channel's reliable side while a packet arrives.
use Rattle.std.specs.Prelude.{◌≡◌, Bool, not, cond, ◌&&◌, List, [], ◌∷◌, ◌++◌, ℕ, suc, eqb, leb, length}
use Rattle.list.specs.Find.{joined}
use Rattle.seq.specs.Num.{add}
use Rattle.seq.specs.declared.SeqAlloc.{SeqAlloc}
use Rattle.packet.specs.declared.Packet.{Packet}
use Rattle.packet.specs.Data.{is_set}
use Rattle.model.specs.State as model
use Rattle.model.specs.Reorder.{Reliable, move}
use Rattle.model.specs.Record.{reliable_of}
use Rattle.queues.specs.Made.{IsBundles}
use Rattle.queues.specs.Packets.{IsWaiting}
use Rattle.chan.specs.declared.OffData.{OffData}
use Rattle.chan.specs.declared.OnChannel.{OnChannel}
use Rattle.chan.specs.Channels.{data_of, on_of}

-- how many packets follow one another from number e on
unfoldable pub run : ℕ → List Packet → ℕ
run e [] = 0
run e (p ∷ b) = cond (eqb p.number e) (suc (run (add e 1) b)) 0

abbrev pub reliable : OnChannel → Reliable
reliable c = reliable_of (on_of c)

-- what the reorder rule leaves as it was, the queue apart
pub record Kept : Type 0 where
  pub address : ℕ
  pub index : ℕ
  pub version : ℕ
  pub source : SeqAlloc
  pub off : OffData

abbrev pub kept_of : OnChannel → Kept
kept_of c = record { address = c.address; index = c.index; version = c.version; source = c.source; off = c.off }

-- the channel with that and this reliable side
abbrev pub joined_with : Reliable → Kept → model.OnChannel
joined_with m k =
    record {
      address = k.address;
      index = k.index;
      version = k.version;
      off = model.with_bundles m.bundles (data_of k.off);
      expected = m.expected;
      source = k.source.next;
      buffer = m.buffer;
      queue = m.queue;
    }

-- the expected packet has come
abbrev pub advanced : Reliable → Packet → Reliable
advanced r p = move (add r.expected 1) r.buffer (r.queue ++ p ∷ []) r.bundles

-- its lists are in their form
pub record IsSide (c : OnChannel) : Type 0 where
  pub buffer : IsWaiting c.buffer
  pub queue : IsWaiting c.queue
  pub bundles : IsBundles c.off.bundles

-- a channel with the reliable side of the first: its expected number, buffer, queue and bundles
abbrev pub with_side : OnChannel → OnChannel → OnChannel
with_side s c = record c { expected = s.expected; buffer = s.buffer; queue = s.queue; off = record c.off { bundles = s.off.bundles } }

-- the limits of this side: "32 buffered, 32 contiguous waiting, 16 bundles holding 64 handles in all"
abbrev pub within : Reliable → Bool
within m = leb (length m.buffer) 32 && (leb (length m.queue) 32 && (leb (length m.bundles) 16 && leb (length (joined m.bundles)) 64))

-- the test whether nothing waits, and the packet comes in order and has no range
abbrev pub comes_alone : OnChannel → Packet → Bool
comes_alone c p = eqb c.buffer.len 0 && eqb c.queue.len 0 && not (is_set p.ranged) && eqb p.number c.expected

-- which says this of the reliable side
pub record Alone (r : Reliable) (p : Packet) : Type 0 where
  pub buffer : r.buffer ≡ []
  pub queue : r.queue ≡ []
  pub plain : p.ranged ≡ 1 → ⊥
  pub next : p.number ≡ r.expected
