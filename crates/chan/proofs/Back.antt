-- The value that stands for a channel within its limits: it is in its form, and stands for that channel.
use Rattle.std.proofs.Common.{◌≡◌, true}
use Rattle.model.specs.State as model
use Rattle.model.specs.Room.{fits_data, fits_off, fits_on}
use Rattle.model.proofs.Room.{fits_data_facts, fits-on_facts, fits_data_test}
use Rattle.queues.proofs.Back as q
use Rattle.chan.specs.Channels.{data_of, IsOffData, repr_data, off_of, IsOffChannel, repr_off, on_of, IsOnChannel, repr_on}

pub data-back : (m : model.OffData) → fits_data m ≡ true → data_of (repr_data m) ≡ m
data-back m h =
    let f = fits_data_facts m h in
    λ i. record {
      out = q.out-back m.out f.out i;
      acks = q.acks-back m.acks f.acks i;
      groups = q.groups-back m.groups f.groups f.places i;
      bundles = q.bundles-back m.bundles f.bundles f.handles i;
    }

pub data-form : (m : model.OffData) → fits_data m ≡ true → IsOffData (repr_data m)
data-form m h =
    let f = fits_data_facts m h in
    record {
      out = q.out-form m.out f.out;
      acks = q.acks-form m.acks f.acks;
      groups = q.groups-form m.groups f.groups f.places;
      bundles = q.bundles-form m.bundles f.bundles f.handles;
    }

pub off-back : (m : model.OffChannel) → fits_off m ≡ true → off_of (repr_off m) ≡ m
off-back m h = let e = data-back m.off h in λ i. record { address = m.address; off = e i }

pub off-form : (m : model.OffChannel) → fits_off m ≡ true → IsOffChannel (repr_off m)
off-form m h = record { off = data-form m.off h }

pub on-back : (m : model.OnChannel) → fits_on m ≡ true → on_of (repr_on m) ≡ m
on-back m h =
    let f = fits-on_facts m h in
    let e = data-back m.off (fits_data_test m.off f.common) in
    λ i. record {
      address = m.address;
      index = m.index;
      version = m.version;
      off = e i;
      expected = m.expected;
      source = m.source;
      buffer = q.packets-back m.buffer f.buffer i;
      queue = q.packets-back m.queue f.queue i;
    }

pub on-form : (m : model.OnChannel) → fits_on m ≡ true → IsOnChannel (repr_on m)
on-form m h =
    let f = fits-on_facts m h in
    record {
      off = data-form m.off (fits_data_test m.off f.common);
      buffer = q.packets-form m.buffer f.buffer;
      queue = q.packets-form m.queue f.queue;
    }
