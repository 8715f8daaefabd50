-- The state that a table stands for, and when it is in its form.
use Rattle.std.specs.Prelude.{◌≡◌, ◌≤◌, cond, map, ℕ, length, take, All}
use Rattle.list.specs.Pad.{pad}
use Rattle.list.specs.Lists.{IsList}
use Rattle.packet.specs.Data.{is_set}
use Rattle.model.specs.State as model
use Rattle.chan.specs.Channels.{off_of, IsOffChannel, repr_off, no_off_channel, on_of, IsOnChannel, repr_on, no_on_channel}
use Rattle.tab.specs.declared.Table.{Table}

-- the state that a table stands for
unfoldable pub state_of : Table → model.State
state_of t =
    record {
      latest = t.latest;
      protocol =
          record {
            offs = map off_of (take t.offcount t.offs);
            ons = map on_of (take t.oncount t.ons);
            source = t.source.next;
            prefix = t.prefix;
            offset = t.offset;
            forwarding = is_set t.forwarding;
          };
    }

-- at most 4 and 8 channels, each list of each in its form, a flag 0 or 1, and zeros in unused places
pub record IsTable (t : Table) : Type 0 where
  pub forwarding : t.forwarding ≤ 1
  pub offs : IsList 4 no_off_channel t.offcount t.offs
  pub each_off : All IsOffChannel (take t.offcount t.offs)
  pub ons : IsList 8 no_on_channel t.oncount t.ons
  pub each_on : All IsOnChannel (take t.oncount t.ons)

-- the one table that stands for a state
unfoldable pub repr : model.State → Table
repr s =
    record {
      latest = s.latest;
      forwarding = cond s.protocol.forwarding 1 0;
      prefix = s.protocol.prefix;
      offset = s.protocol.offset;
      source = record { next = s.protocol.source };
      offcount = length s.protocol.offs;
      oncount = length s.protocol.ons;
      offs = pad 4 no_off_channel (map repr_off s.protocol.offs);
      ons = pad 8 no_on_channel (map repr_on s.protocol.ons);
    }
