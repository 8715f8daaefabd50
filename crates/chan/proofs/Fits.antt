-- A channel in its form is within its limits.
use Rattle.std.proofs.Common.{◌≡◌, ◌≤◌, ℕ, zero, suc, true, false, List, [], ◌∷◌, length, take, map, arith, ap, sym, subst, ◌∙◌, le-leb, leb, ◌&&◌, inl, inr}
use Rattle.std.proofs.lemmas.List.{length-map, length-take}
use Rattle.list.specs.Pad.{all_b}
use Rattle.list.specs.Find.{joined}
use Rattle.list.proofs.Pad.{length-pad, and_left, and_right, never}
use Rattle.list.proofs.Tests.{all_b-all, and_both, and_6, either_way}
use Rattle.list.proofs.Maps.{all_b-map}
use Rattle.list.proofs.Edits.{length_items}
use Rattle.packet.specs.Data.{no_packet}
use Rattle.model.specs.State as model
use Rattle.model.specs.Reorder.{Reliable}
use Rattle.model.specs.Record.{reliable_of, with_reliable}
use Rattle.model.specs.Room.{fits_group, fits_data, fits_on, fits_off}
use Rattle.queues.specs.Out.{entries}
use Rattle.queues.specs.Acks.{numbers}
use Rattle.queues.specs.Packets.{packets_of}
use Rattle.queues.specs.Made.{bundles_of}
use Rattle.queues.specs.Places.{places, group_of, IsGroup, IsGroups, groups_of, no_fragments, mark_of}
use Rattle.queues.specs.declared.groups.Fragments.{Fragments}
use Rattle.queues.specs.declared.groups.Groups.{Groups}
use Rattle.queues.proofs.Cuts.{len_is, total_is}
use Rattle.chan.specs.declared.OffData.{OffData}
use Rattle.chan.specs.declared.OffChannel.{OffChannel}
use Rattle.chan.specs.declared.OnChannel.{OnChannel}
use Rattle.chan.specs.Channels.{data_of, off_of, on_of, IsOffData, IsOffChannel, IsOnChannel}
use Rattle.chan.specs.Adding.{IsReady}
use Rattle.chan.specs.Arriving.{reliable, IsSide, with_side, within}

few_places : (n : ℕ) (ms hs : List ℕ) → length (places n ms hs) ≤ length ms
unfolding places
few_places zero ms hs = omega arith
few_places (suc n) [] hs = omega arith
few_places (suc n) (m ∷ ms) [] = omega arith
few_places (suc n) (m ∷ ms) (h ∷ hs) = omega (arith, few_places n ms hs)

group_fits : (g : Fragments) → IsGroup g → fits_group (group_of g) ≡ true
group_fits g h =
    let size : length g.marks ≡ 32 = ap (λ (x : Fragments). length x.marks) h ∙ length-pad 32 0 (map mark_of (places g.len g.marks g.handles)) in
    le-leb _ _ (omega (arith, few_places g.len g.marks g.handles))

pub groups_fit : (gs : Groups) → IsGroups gs → all_b fits_group (groups_of gs) ≡ true
groups_fit gs h =
    all_b-map fits_group group_of (take gs.len gs.groups) ∙ all_b-all (λ g. fits_group (group_of g)) no_fragments (take gs.len gs.groups) (λ i lt. group_fits _ (h.each i no_fragments lt))

-- the first of a list are at most all of it
few : {A : Type 0} → (n m : ℕ) (l : List A) → length l ≡ m → length (take n l) ≤ m
few n m l e = omega (arith, length-take n l)

-- what both kinds of channel have: of the out list and the ack queue it is enough that there are no more items than places
pub ready_fits : (d : OffData) → IsReady d → fits_data (data_of d) ≡ true
unfolding fits_data
ready_fits d h =
    let g = h.groups.groups in
    let out = le-leb (length (entries d.out)) 32 h.out in
    let acks = le-leb (length (numbers d.acks)) 64 h.acks in
    let groups = le-leb (length (groups_of d.groups)) 4 (omega (arith, length-map (take d.groups.len d.groups.groups) group_of, few d.groups.len 4 d.groups.groups g.size)) in
    let bundles = le-leb (length (bundles_of d.bundles)) 16 (omega (arith, len_is d.bundles h.bundles, h.bundles.lengths.fits)) in
    let handles = le-leb (length (joined (bundles_of d.bundles))) 64 (omega (arith, total_is d.bundles h.bundles, h.bundles.handles.fits)) in
    and_both (and_both (and_both (and_both (and_both out acks) groups) (groups_fit d.groups h.groups)) bundles) handles

pub data_ready : (d : OffData) → IsOffData d → IsReady d
data_ready d h = record { out = few d.out.len 32 d.out.entries h.out.size; acks = few d.acks.len 64 d.acks.numbers h.acks.size; groups = h.groups; bundles = h.bundles }

pub data_fits : (d : OffData) → IsOffData d → fits_data (data_of d) ≡ true
data_fits d h = ready_fits d (data_ready d h)

pub off_fits : (c : OffChannel) → IsOffChannel c → fits_off (off_of c) ≡ true
off_fits c h = data_fits c.off h.off

pub on_fits : (c : OnChannel) → IsOnChannel c → fits_on (on_of c) ≡ true
on_fits c h =
    and_both
    (and_both (data_fits c.off h.off) (le-leb (length (packets_of c.buffer)) 32 (omega (arith, length_items 32 c.buffer.len no_packet c.buffer.packets h.buffer, h.buffer.fits))))
    (le-leb (length (packets_of c.queue)) 32 (omega (arith, length_items 32 c.queue.len no_packet c.queue.packets h.queue, h.queue.fits)))

-- a channel that stands for a state shows that the state is within them
pub data_fits_as : (d : OffData) (m : model.OffData) → IsOffData d → data_of d ≡ m → fits_data m ≡ true
data_fits_as d m h e = ap fits_data (sym e) ∙ data_fits d h

pub off_fits_as : (c : OffChannel) (m : model.OffChannel) → IsOffChannel c → off_of c ≡ m → fits_off m ≡ true
off_fits_as c m h e = ap (λ (x : model.OffChannel). fits_off x) (sym e) ∙ off_fits c h

pub on_fits_as : (c : OnChannel) (m : model.OnChannel) → IsOnChannel c → on_of c ≡ m → fits_on m ≡ true
on_fits_as c m h e = ap (λ (x : model.OnChannel). fits_on x) (sym e) ∙ on_fits c h

-- a channel in its form with another reliable side in its form
pub side_kept : (c d : OnChannel) → d ≡ with_side d c → IsSide d → IsOnChannel c → IsOnChannel d
side_kept c d e s w =
    subst IsOnChannel (sym e) (record { off = record { out = w.off.out; acks = w.off.acks; groups = w.off.groups; bundles = s.bundles }; buffer = s.buffer; queue = s.queue })

-- a reliable side in its form is within its limits
pub side_within : (c : OnChannel) → IsSide c → within (reliable c) ≡ true
side_within c h =
    let buffer = le-leb (length (packets_of c.buffer)) 32 (few c.buffer.len 32 c.buffer.packets h.buffer.size) in
    let queue = le-leb (length (packets_of c.queue)) 32 (few c.queue.len 32 c.queue.packets h.queue.size) in
    let bundles = le-leb (length (bundles_of c.off.bundles)) 16 (omega (arith, len_is c.off.bundles h.bundles, h.bundles.lengths.fits)) in
    let handles = le-leb (length (joined (bundles_of c.off.bundles))) 64 (omega (arith, total_is c.off.bundles h.bundles, h.bundles.handles.fits)) in
    and_both buffer (and_both queue (and_both bundles handles))

pub side_within_as : (c : OnChannel) (m : Reliable) (x : model.OnChannel) → IsSide c → on_of c ≡ with_reliable m x → within m ≡ true
side_within_as c m x h e = ap (λ (y : model.OnChannel). within (reliable_of y)) (sym e) ∙ side_within c h

-- ---- a reliable side beyond its limits is a channel beyond them

module _ (m : Reliable) (c : model.OnChannel) where
  abbrev x : model.OnChannel
  x = with_reliable m c

  within_of : fits_on x ≡ true → within m ≡ true
  unfolding fits_data
  within_of h =
      let l = and_left (fits_data x.off && leb (length x.buffer) 32) (leb (length x.queue) 32) h in
      let queue = and_right (fits_data x.off && leb (length x.buffer) 32) (leb (length x.queue) 32) h in
      let buffer = and_right (fits_data x.off) (leb (length x.buffer) 32) l in
      let t = and_6 (leb (length x.off.out) 32) (leb (length x.off.acks) 64) (leb (length x.off.groups) 4) (all_b fits_group x.off.groups) (leb (length x.off.bundles) 16) (leb (length (joined x.off.bundles)) 64) (and_left (fits_data x.off) (leb (length x.buffer) 32) l) in
      and_both buffer (and_both queue (and_both t.4 t.5))

  pub beyond_on : within m ≡ false → fits_on x ≡ false
  beyond_on h = elim (either_way (fits_on x)) [
    | inl p ↦ never (sym h ∙ within_of p)
    | inr p ↦ p
  ]
