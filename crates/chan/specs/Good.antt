-- What each channel of a well-formed table meets, and what an unused place meets beside it.
use Rattle.std.specs.Prelude.{◌≡◌, true, ℕ, ◌≤◌}
use Rattle.model.specs.Wellformed.{key_good}
use Rattle.queues.specs.Good.{IsGoodOut, IsGoodAcks, IsGoodGroups, IsGoodBundles, IsGoodBuffer, IsGoodQueue}
use Rattle.chan.specs.declared.OffData.{OffData}
use Rattle.chan.specs.declared.OffChannel.{OffChannel}
use Rattle.chan.specs.declared.OnChannel.{OnChannel}
use Rattle.chan.specs.Channels.{on_of}

pub record IsGoodData (latest : ℕ) (d : OffData) : Type 0 where
  pub out : IsGoodOut latest d.out
  pub acks : IsGoodAcks d.acks
  pub groups : IsGoodGroups latest d.groups
  pub bundles : IsGoodBundles d.bundles

pub record IsGoodOff (latest : ℕ) (c : OffChannel) : Type 0 where
  pub lists : IsGoodData latest c.off

pub record AreGoodNumbers (c : OnChannel) : Type 0 where
  pub key : key_good (on_of c) ≡ true
  pub expected : c.expected ≤ 0x0FFF_FFFF
  pub source : c.source.next ≤ 0x0FFF_FFFF

pub record IsGoodOn (latest : ℕ) (c : OnChannel) : Type 0 where
  pub numbers : AreGoodNumbers c
  pub lists : IsGoodData latest c.off
  pub buffer : IsGoodBuffer c.expected c.buffer
  pub queue : IsGoodQueue c.expected c.queue

-- ---- nothing is in the lists, and there are no numbers

pub record IsIdleData (d : OffData) : Type 0 where
  pub out : d.out.len ≡ 0
  pub acks : d.acks.len ≡ 0
  pub groups : d.groups.len ≡ 0
  pub bundles : d.bundles.len ≡ 0

pub record IsIdleOff (c : OffChannel) : Type 0 where
  pub address : c.address ≡ 0
  pub lists : IsIdleData c.off

pub record IsIdleNumbers (c : OnChannel) : Type 0 where
  pub address : c.address ≡ 0
  pub index : c.index ≡ 0
  pub version : c.version ≡ 0
  pub expected : c.expected ≡ 0
  pub source : c.source.next ≡ 0

pub record IsIdleOn (c : OnChannel) : Type 0 where
  pub numbers : IsIdleNumbers c
  pub lists : IsIdleData c.off
  pub buffer : c.buffer.len ≡ 0
  pub queue : c.queue.len ≡ 0
