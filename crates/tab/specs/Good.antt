-- What a well-formed table meets, part by part, as its test finds it.
use Rattle.std.specs.Prelude.{◌≡◌, true, List, map, ℕ, ◌≤◌, length, take, drop, All}
use Rattle.model.specs.Wellformed.{distinct, same_off, same_on}
use Rattle.chan.specs.declared.OffChannel.{OffChannel}
use Rattle.chan.specs.declared.OnChannel.{OnChannel}
use Rattle.chan.specs.Channels.{off_of, on_of}
use Rattle.chan.specs.Good.{IsGoodOff, IsGoodOn, IsIdleOff, IsIdleOn}
use Rattle.tab.specs.declared.Table.{Table}

pub record AreGoodCounts (t : Table) : Type 0 where
  pub forwarding : t.forwarding ≤ 1
  pub source : t.source.next ≤ 0x0FFF_FFFF
  pub offcount : t.offcount ≤ 4
  pub oncount : t.oncount ≤ 8

-- each channel is good at the latest time, and those past the first n have nothing in them
pub record AreGoodOffs (latest n : ℕ) (l : List OffChannel) : Type 0 where
  pub size : length l ≡ 4
  pub each : All (λ c. IsGoodOff latest c) l
  pub idle : All IsIdleOff (drop n l)

pub record AreGoodOns (latest n : ℕ) (l : List OnChannel) : Type 0 where
  pub size : length l ≡ 8
  pub each : All (λ c. IsGoodOn latest c) l
  pub idle : All IsIdleOn (drop n l)

pub record IsGoodTable (t : Table) : Type 0 where
  pub counts : AreGoodCounts t
  pub offs : AreGoodOffs t.latest t.offcount t.offs
  pub ons : AreGoodOns t.latest t.oncount t.ons
  pub apart_offs : distinct same_off (map off_of (take t.offcount t.offs)) ≡ true
  pub apart_ons : distinct same_on (map on_of (take t.oncount t.ons)) ≡ true
