-- The channel of the model that a struct stands for, and when the struct is in its form.
use Rattle.model.specs.State as model
use Rattle.queues.specs.Out as out
use Rattle.queues.specs.Acks as acks
use Rattle.queues.specs.Places as groups
use Rattle.queues.specs.Made as bundles
use Rattle.queues.specs.Packets as packets
use Rattle.chan.specs.declared.OffData.{OffData}
use Rattle.chan.specs.declared.OffChannel.{OffChannel}
use Rattle.chan.specs.declared.OnChannel.{OnChannel}

-- ---- what both kinds have

abbrev pub data_of : OffData → model.OffData
data_of d = record { out = out.entries d.out; acks = acks.numbers d.acks; groups = groups.groups_of d.groups; bundles = bundles.bundles_of d.bundles }

-- each list is in its form
pub record IsOffData (d : OffData) : Type 0 where
  pub out : out.IsOutList d.out
  pub acks : acks.IsAckQueue d.acks
  pub groups : groups.IsGroups d.groups
  pub bundles : bundles.IsBundles d.bundles

-- the one value that stands for the lists
abbrev pub repr_data : model.OffData → OffData
repr_data d = record { out = out.repr d.out; acks = acks.repr d.acks; groups = groups.repr d.groups; bundles = bundles.repr d.bundles }

abbrev pub no_off_data : OffData
no_off_data = record { out = out.no_out_list; acks = acks.no_ack_queue; groups = groups.no_groups; bundles = bundles.no_bundles }

-- ---- off-channels

abbrev pub off_of : OffChannel → model.OffChannel
off_of c = record { address = c.address; off = data_of c.off }

pub record IsOffChannel (c : OffChannel) : Type 0 where
  pub off : IsOffData c.off

-- the one value that stands for the channel
abbrev pub repr_off : model.OffChannel → OffChannel
repr_off m = record { address = m.address; off = repr_data m.off }

-- an unused place
abbrev pub no_off_channel : OffChannel
no_off_channel = record { address = 0; off = no_off_data }

-- ---- on-channels

abbrev pub on_of : OnChannel → model.OnChannel
on_of c =
    record {
      address = c.address;
      index = c.index;
      version = c.version;
      off = data_of c.off;
      expected = c.expected;
      source = c.source.next;
      buffer = packets.packets_of c.buffer;
      queue = packets.packets_of c.queue;
    }

pub record IsOnChannel (c : OnChannel) : Type 0 where
  pub off : IsOffData c.off
  pub buffer : packets.IsWaiting c.buffer
  pub queue : packets.IsWaiting c.queue

-- the one value that stands for the channel
abbrev pub repr_on : model.OnChannel → OnChannel
repr_on m =
    record {
      address = m.address;
      index = m.index;
      version = m.version;
      expected = m.expected;
      source = record { next = m.source };
      off = repr_data m.off;
      buffer = packets.repr m.buffer;
      queue = packets.repr m.queue;
    }

-- an unused place
abbrev pub no_on_channel : OnChannel
no_on_channel =
    record {
      address = 0;
      index = 0;
      version = 0;
      expected = 0;
      source = record { next = 0 };
      off = no_off_data;
      buffer = packets.no_waiting;
      queue = packets.no_waiting;
    }
