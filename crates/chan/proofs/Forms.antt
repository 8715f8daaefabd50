-- Each channel in its form is the one value that stands for what it holds.
use Rattle.std.proofs.Common.{◌≡◌}
use Rattle.queues.proofs.Forms.{out_form, acks_form, waiting_form, bundles_form, groups_form}
use Rattle.chan.specs.declared.OffData.{OffData}
use Rattle.chan.specs.declared.OffChannel.{OffChannel}
use Rattle.chan.specs.declared.OnChannel.{OnChannel}
use Rattle.chan.specs.Channels.{data_of, IsOffData, repr_data, off_of, IsOffChannel, repr_off, on_of, IsOnChannel, repr_on}

pub data_form : (d : OffData) → IsOffData d → d ≡ repr_data (data_of d)
data_form d h =
    let o = out_form d.out h.out in
    let a = acks_form d.acks h.acks in
    let g = groups_form d.groups h.groups in
    let b = bundles_form d.bundles h.bundles in
    λ i. record { out = o i; acks = a i; groups = g i; bundles = b i }

pub off_form : (c : OffChannel) → IsOffChannel c → c ≡ repr_off (off_of c)
off_form c h = let d = data_form c.off h.off in λ i. record { address = c.address; off = d i }

pub on_form : (c : OnChannel) → IsOnChannel c → c ≡ repr_on (on_of c)
on_form c h =
    let d = data_form c.off h.off in
    let b = waiting_form c.buffer h.buffer in
    let q = waiting_form c.queue h.queue in
    λ i. record { address = c.address; index = c.index; version = c.version; expected = c.expected; source = c.source; off = d i; buffer = b i; queue = q i }
