-- What each list of a well-formed table meets: it is in its form, and its items are good. The tests of Tests are true exactly of these.
use Rattle.std.specs.Prelude.{◌≡◌, true, ◌&&◌, ℕ, ◌≤◌, length, take, All, ◌⊎◌}
use Rattle.list.specs.Pad.{all_b}
use Rattle.list.specs.Find.{sum}
use Rattle.list.specs.Lists.{IsList}
use Rattle.packet.specs.declared.OutEntry.{OutEntry}
use Rattle.model.specs.Wellformed.{packet_good, rising, consecutive, distinct, same_first}
use Rattle.queues.specs.declared.out_list.OutList.{OutList}
use Rattle.queues.specs.declared.ack_queue.AckQueue.{AckQueue}
use Rattle.queues.specs.declared.waiting.Waiting.{Waiting}
use Rattle.queues.specs.declared.bundles.Bundles.{Bundles}
use Rattle.queues.specs.declared.groups.Fragments.{Fragments}
use Rattle.queues.specs.declared.groups.Groups.{Groups}
use Rattle.queues.specs.Out.{entries, IsOutList}
use Rattle.queues.specs.Acks.{numbers, IsAckQueue}
use Rattle.queues.specs.Packets.{packets_of, IsWaiting}
use Rattle.queues.specs.Places.{groups_of, no_fragments}
use Rattle.queues.specs.Tests.{places_good}

-- each number legal, a handle only where the flag says so, and time <= last sent <= the latest time
pub record IsGoodEntry (latest : ℕ) (e : OutEntry) : Type 0 where
  pub number : e.number ≤ 0x0FFF_FFFF
  pub held : e.held ≤ 1
  pub handle : (e.held ≡ 1) ⊎ (e.handle ≡ 0)
  pub time : e.time ≤ e.sent
  pub sent : e.sent ≤ latest

pub record IsGoodOut (latest : ℕ) (o : OutList) : Type 0 where
  pub list : IsOutList o
  pub each : All (λ e. IsGoodEntry latest e) (entries o)

pub record IsGoodAcks (q : AckQueue) : Type 0 where
  pub list : IsAckQueue q
  pub each : All (λ n. n ≤ 0x0FFF_FFFF) (numbers q)

-- a group in use: each mark is 1, or mark and handle are 0; filled places are counted truly
pub record IsGoodGroup (latest : ℕ) (g : Fragments) : Type 0 where
  pub marks : IsList 32 0 g.len g.marks
  pub handles : length g.handles ≡ 32
  pub updated : g.updated ≤ latest
  pub first : g.first ≤ 0x0FFF_FFFF
  pub places : places_good g.marks g.handles ≡ true
  pub filled : sum g.marks ≡ g.count

pub record IsGoodGroups (latest : ℕ) (gs : Groups) : Type 0 where
  pub groups : IsList 4 no_fragments gs.len gs.groups
  pub each : All (λ g. IsGoodGroup latest g) (take gs.len gs.groups)
  pub apart : distinct same_first (groups_of gs) ≡ true

pub record IsGoodBundles (b : Bundles) : Type 0 where
  pub lengths : IsList 16 0 b.len b.lengths
  pub handles : IsList 64 0 b.total b.handles
  pub whole : sum b.lengths ≡ b.total

-- buffered packets: distances from the expected number e rise
pub record IsGoodBuffer (e : ℕ) (w : Waiting) : Type 0 where
  pub list : IsWaiting w
  pub rises : all_b packet_good (packets_of w) && rising e 0 (packets_of w) ≡ true

-- the contiguous queue: it ends before the expected number e
pub record IsGoodQueue (e : ℕ) (w : Waiting) : Type 0 where
  pub list : IsWaiting w
  pub follows : all_b packet_good (packets_of w) && consecutive e (packets_of w) ≡ true
