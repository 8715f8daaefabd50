-- The tests of a channel: each is true exactly where its record of Good holds; which says that the channel is in its form and that the
-- model's test is true of what it stands for. Assumes nothing.
use Rattle.std.proofs.Common.{◌≡◌, ◌↔◌, ℕ, ◌-◌, true, ◌&&◌, List, length, drop, replicate, refl, sym, ap, arith, ◌∙◌}
use borrow.Author.Tests.{leb-true, le-leb, eqb-true, eq-eqb}
use lib.Dec.{eqb}
use Rattle.std.proofs.lemmas.List.Elements.{All-nil}
use Rattle.list.specs.Pad.{all_b}
use Rattle.list.specs.Find.{sum}
use Rattle.list.specs.Lists.{IsList}
use Rattle.list.proofs.Pad.{and_left, and_right}
use Rattle.list.proofs.Tests.{and_3, and_4, and_8}
use Rattle.seq.specs.Num.{legal}
use Rattle.packet.specs.Data.{no_entry, no_packet}
use Rattle.model.specs.Wellformed.{packet_good, data_good, rising, consecutive, distinct, key_good, on_good, off_good}
use Rattle.model.proofs.Wellformed.{data_facts, data_test}
use Rattle.queues.specs.Packets.{packets_of}
use Rattle.queues.specs.Places.{no_fragments}
use Rattle.queues.specs.Tests.{out_good, acks_good, groups_good, bundles_good, buffer_good, queue_good}
use Rattle.queues.proofs.TestForms.{out_is, is_out, acks_is, is_acks, groups_is, is_groups, bundles_is, is_bundles, buffer_is, is_buffer, queue_is, is_queue, sum_zero}
use Rattle.queues.proofs.TestMeaning.{out_entries, out_from, acks_legal, acks_from, groups_form, groups_model, groups_from, bundles_form, bundles_from, buffer_packets, buffer_rises, buffer_from, queue_packets, queue_follows, queue_from}
use Rattle.chan.specs.declared.OffData.{OffData}
use Rattle.chan.specs.declared.OffChannel.{OffChannel}
use Rattle.chan.specs.declared.OnChannel.{OnChannel}
use Rattle.chan.specs.Channels.{data_of, IsOffData, no_off_data, off_of, IsOffChannel, no_off_channel, on_of, IsOnChannel, no_on_channel}
use Rattle.chan.specs.Tests.{lists_good, off_test, numbers_good, on_test, idle_data, idle_off, idle_on}
use Rattle.chan.specs.Good.{IsGoodData, IsGoodOff, AreGoodNumbers, IsGoodOn, IsIdleData, IsIdleOff, IsIdleOn}

-- ---- what both kinds have

data_is : (latest : ℕ) (d : OffData) → lists_good latest d ≡ true → IsGoodData latest d
data_is latest d h =
    let l = and_4 (out_good latest d.out) (acks_good d.acks) (groups_good latest d.groups) (bundles_good d.bundles) h in
    record { out = out_is latest d.out l.0; acks = acks_is d.acks l.1; groups = groups_is latest d.groups l.2; bundles = bundles_is d.bundles l.3 }

is_data : (latest : ℕ) (d : OffData) → IsGoodData latest d → lists_good latest d ≡ true
is_data latest d g =
    let a = is_out latest d.out g.out in
    let b = is_acks d.acks g.acks in
    let c = is_groups latest d.groups g.groups in
    let e = is_bundles d.bundles g.bundles in
    λ i. a i && b i && c i && e i

pub data_form : (latest : ℕ) (d : OffData) → IsGoodData latest d → IsOffData d
data_form latest d g =
    record { out = g.out.list; acks = g.acks.list; groups = groups_form latest d.groups g.groups; bundles = bundles_form d.bundles g.bundles }

pub data_model : (latest : ℕ) (d : OffData) → IsGoodData latest d → data_good latest (data_of d) ≡ true
data_model latest d g =
    data_test latest (data_of d)
    record {
      out = out_entries latest d.out g.out;
      acks = acks_legal d.acks g.acks;
      groups = groups_model latest d.groups g.groups;
      apart = g.groups.apart;
    }

pub data_from : (latest : ℕ) (d : OffData) → IsOffData d → data_good latest (data_of d) ≡ true → IsGoodData latest d
data_from latest d w h =
    let m = data_facts latest (data_of d) h in
    record {
      out = out_from latest d.out w.out m.out;
      acks = acks_from d.acks w.acks m.acks;
      groups = groups_from latest d.groups w.groups m.groups m.apart;
      bundles = bundles_from d.bundles w.bundles;
    }

-- ---- off-channels

pub off_is : (latest : ℕ) (c : OffChannel) → off_test latest c ≡ true → IsGoodOff latest c
unfolding off_test
off_is latest c h = record { lists = data_is latest c.off h }

pub is_off_good : (latest : ℕ) (c : OffChannel) → IsGoodOff latest c → off_test latest c ≡ true
unfolding off_test
is_off_good latest c g = is_data latest c.off g.lists

pub off_form : (latest : ℕ) (c : OffChannel) → IsGoodOff latest c → IsOffChannel c
off_form latest c g = record { off = data_form latest c.off g.lists }

pub off_model : (latest : ℕ) (c : OffChannel) → IsGoodOff latest c → off_good latest (off_of c) ≡ true
off_model latest c g = data_model latest c.off g.lists

pub off_from : (latest : ℕ) (c : OffChannel) → IsOffChannel c → off_good latest (off_of c) ≡ true → IsGoodOff latest c
off_from latest c w h = record { lists = data_from latest c.off w.off h }

pub off_test-iff : (latest : ℕ) (c : OffChannel) → off_test latest c ≡ true ↔ (IsOffChannel c × (off_good latest (off_of c) ≡ true))
off_test-iff latest c =
    ((λ q. let g = off_is latest c q in (off_form latest c g, off_model latest c g)), λ p. is_off_good latest c (off_from latest c p.0 p.1))

-- ---- on-channels

numbers_is : (c : OnChannel) → numbers_good c ≡ true → AreGoodNumbers c
unfolding numbers_good
numbers_is c h =
    let l = and_3 (key_good (on_of c)) (legal c.expected) (legal c.source.next) h in
    record { key = l.0; expected = leb-true _ _ l.1; source = leb-true _ _ l.2 }

is_numbers : (c : OnChannel) → AreGoodNumbers c → numbers_good c ≡ true
unfolding numbers_good
is_numbers c g =
    let a = g.key in
    let b = le-leb c.expected 0x0FFF_FFFF g.expected in
    let d = le-leb c.source.next 0x0FFF_FFFF g.source in
    λ i. a i && b i && d i

pub on_is : (latest : ℕ) (c : OnChannel) → on_test latest c ≡ true → IsGoodOn latest c
unfolding on_test
on_is latest c h =
    let l = and_4 (numbers_good c) (lists_good latest c.off) (buffer_good c.buffer c.expected) (queue_good c.queue c.expected) h in
    record { numbers = numbers_is c l.0; lists = data_is latest c.off l.1; buffer = buffer_is c.buffer c.expected l.2; queue = queue_is c.queue c.expected l.3 }

pub is_on_good : (latest : ℕ) (c : OnChannel) → IsGoodOn latest c → on_test latest c ≡ true
unfolding on_test
is_on_good latest c g =
    let a = is_numbers c g.numbers in
    let b = is_data latest c.off g.lists in
    let d = is_buffer c.buffer c.expected g.buffer in
    let e = is_queue c.queue c.expected g.queue in
    λ i. a i && b i && d i && e i

pub on_form : (latest : ℕ) (c : OnChannel) → IsGoodOn latest c → IsOnChannel c
on_form latest c g = record { off = data_form latest c.off g.lists; buffer = g.buffer.list; queue = g.queue.list }

pub on_model : (latest : ℕ) (c : OnChannel) → IsGoodOn latest c → on_good latest (on_of c) ≡ true
unfolding on_good
on_model latest c g =
    let k = g.numbers.key in
    let d = data_model latest c.off g.lists in
    let e = le-leb c.expected 0x0FFF_FFFF g.numbers.expected in
    let s = le-leb c.source.next 0x0FFF_FFFF g.numbers.source in
    let b = buffer_packets c.expected c.buffer g.buffer in
    let q = queue_packets c.expected c.queue g.queue in
    let r = buffer_rises c.expected c.buffer g.buffer in
    let f = queue_follows c.expected c.queue g.queue in
    λ i. k i && d i && e i && s i && b i && q i && r i && f i

pub on_from : (latest : ℕ) (c : OnChannel) → IsOnChannel c → on_good latest (on_of c) ≡ true → IsGoodOn latest c
unfolding on_good
on_from latest c w h =
    let l = and_8 (key_good (on_of c)) (data_good latest (data_of c.off)) (legal c.expected) (legal c.source.next) (all_b packet_good (packets_of c.buffer)) (all_b packet_good (packets_of c.queue)) (rising c.expected 0 (packets_of c.buffer)) (consecutive c.expected (packets_of c.queue)) h in
    record {
      numbers = record { key = l.0; expected = leb-true _ _ l.2; source = leb-true _ _ l.3 };
      lists = data_from latest c.off w.off l.1;
      buffer = buffer_from c.expected c.buffer w.buffer l.4 l.6;
      queue = queue_from c.expected c.queue w.queue l.5 l.7;
    }

pub on_test-iff : (latest : ℕ) (c : OnChannel) → on_test latest c ≡ true ↔ (IsOnChannel c × (on_good latest (on_of c) ≡ true))
on_test-iff latest c = ((λ q. let g = on_is latest c q in (on_form latest c g, on_model latest c g)), λ p. is_on_good latest c (on_from latest c p.0 p.1))

-- ---- nothing in it

idle_data_is : (d : OffData) → idle_data d ≡ true → IsIdleData d
idle_data_is d h =
    let l = and_4 (eqb d.out.len 0) (eqb d.acks.len 0) (eqb d.groups.len 0) (eqb d.bundles.len 0) h in
    record { out = eqb-true _ _ l.0; acks = eqb-true _ _ l.1; groups = eqb-true _ _ l.2; bundles = eqb-true _ _ l.3 }

is_idle_data : (d : OffData) → IsIdleData d → idle_data d ≡ true
is_idle_data d g =
    let a = eq-eqb d.out.len 0 g.out in
    let b = eq-eqb d.acks.len 0 g.acks in
    let c = eq-eqb d.groups.len 0 g.groups in
    let e = eq-eqb d.bundles.len 0 g.bundles in
    λ i. a i && b i && c i && e i

pub idle_off_is : (c : OffChannel) → idle_off c ≡ true → IsIdleOff c
unfolding idle_off
idle_off_is c h = record { address = eqb-true _ _ (and_left (eqb c.address 0) (idle_data c.off) h); lists = idle_data_is c.off (and_right (eqb c.address 0) (idle_data c.off) h) }

pub is_idle_off : (c : OffChannel) → IsIdleOff c → idle_off c ≡ true
unfolding idle_off
is_idle_off c g =
    let a = eq-eqb c.address 0 g.address in
    let b = is_idle_data c.off g.lists in
    λ i. a i && b i

pub idle_on_is : (c : OnChannel) → idle_on c ≡ true → IsIdleOn c
unfolding idle_on
idle_on_is c h =
    let a = eqb c.address 0 in
    let x = eqb c.index 0 in
    let v = eqb c.version 0 in
    let e = eqb c.expected 0 in
    let s = eqb c.source.next 0 in
    let l = and_8 a x v e s (idle_data c.off) (eqb c.buffer.len 0) (eqb c.queue.len 0) h in
    record {
      numbers = record { address = eqb-true _ _ l.0; index = eqb-true _ _ l.1; version = eqb-true _ _ l.2; expected = eqb-true _ _ l.3; source = eqb-true _ _ l.4 };
      lists = idle_data_is c.off l.5;
      buffer = eqb-true _ _ l.6;
      queue = eqb-true _ _ l.7;
    }

pub is_idle_on : (c : OnChannel) → IsIdleOn c → idle_on c ≡ true
unfolding idle_on
is_idle_on c g =
    let a = eq-eqb c.address 0 g.numbers.address in
    let x = eq-eqb c.index 0 g.numbers.index in
    let v = eq-eqb c.version 0 g.numbers.version in
    let e = eq-eqb c.expected 0 g.numbers.expected in
    let s = eq-eqb c.source.next 0 g.numbers.source in
    let d = is_idle_data c.off g.lists in
    let b = eq-eqb c.buffer.len 0 g.buffer in
    let q = eq-eqb c.queue.len 0 g.queue in
    λ i. a i && x i && v i && e i && s i && d i && b i && q i

-- ---- a good channel with nothing in it is an unused place

all_blank : {X : Type 0} (N n : ℕ) (blank : X) (xs : List X) → IsList N blank n xs → n ≡ 0 → xs ≡ replicate N blank
all_blank N n blank xs l e = sym (λ i. drop (e i) xs) ∙ l.spare ∙ (λ i. replicate (N - e i) blank) ∙ ap (λ k. replicate k blank) (omega arith)

data_none : (latest : ℕ) (d : OffData) → IsGoodData latest d → IsIdleData d → d ≡ no_off_data
data_none latest d g z =
    let o = all_blank 32 d.out.len no_entry d.out.entries g.out.list z.out in
    let a = all_blank 64 d.acks.len 0 d.acks.numbers g.acks.list z.acks in
    let s = all_blank 4 d.groups.len no_fragments d.groups.groups g.groups.groups z.groups in
    let l = all_blank 16 d.bundles.len 0 d.bundles.lengths g.bundles.lengths z.bundles in
    let t : d.bundles.total ≡ 0 = sym g.bundles.whole ∙ ap sum l ∙ sum_zero 16 in
    let h = all_blank 64 d.bundles.total 0 d.bundles.handles g.bundles.handles t in
    λ i. record {
      out = record { len = z.out i; entries = o i };
      acks = record { len = z.acks i; numbers = a i };
      groups = record { len = z.groups i; groups = s i };
      bundles = record { len = z.bundles i; total = t i; lengths = l i; handles = h i };
    }

pub off_none : (latest : ℕ) (c : OffChannel) → IsGoodOff latest c → IsIdleOff c → c ≡ no_off_channel
off_none latest c g z = let d = data_none latest c.off g.lists z.lists in λ i. record { address = z.address i; off = d i }

pub on_none : (latest : ℕ) (c : OnChannel) → IsGoodOn latest c → IsIdleOn c → c ≡ no_on_channel
on_none latest c g z =
    let d = data_none latest c.off g.lists z.lists in
    let b = all_blank 32 c.buffer.len no_packet c.buffer.packets g.buffer.list z.buffer in
    let q = all_blank 32 c.queue.len no_packet c.queue.packets g.queue.list z.queue in
    λ i. record {
      address = z.numbers.address i;
      index = z.numbers.index i;
      version = z.numbers.version i;
      expected = z.numbers.expected i;
      source = record { next = z.numbers.source i };
      off = d i;
      buffer = record { len = z.buffer i; packets = b i };
      queue = record { len = z.queue i; packets = q i };
    }

-- ---- and an unused place is good, and has nothing in it

blank_list : {X : Type 0} (N : ℕ) (blank : X) → length (replicate N blank) ≡ N → IsList N blank 0 (replicate N blank)
blank_list N blank e = record { size = e; fits = omega arith; spare = ap (λ k. replicate k blank) (omega arith) }

none_data : (latest : ℕ) → IsGoodData latest no_off_data
unfolding distinct
none_data latest =
    record {
      out = record { list = blank_list 32 no_entry refl; each = All-nil _ };
      acks = record { list = blank_list 64 0 refl; each = All-nil _ };
      groups = record { groups = blank_list 4 no_fragments refl; each = All-nil _; apart = refl };
      bundles = record { lengths = blank_list 16 0 refl; handles = blank_list 64 0 refl; whole = sum_zero 16 };
    }

no_lists : IsIdleData no_off_data
no_lists = record { out = refl; acks = refl; groups = refl; bundles = refl }

pub none_off : (latest : ℕ) → IsGoodOff latest no_off_channel
none_off latest = record { lists = none_data latest }

pub idle_none_off : IsIdleOff no_off_channel
idle_none_off = record { address = refl; lists = no_lists }

pub none_on : (latest : ℕ) → IsGoodOn latest no_on_channel
unfolding all_b rising consecutive
none_on latest =
    record {
      numbers = record { key = refl; expected = omega arith; source = omega arith };
      lists = none_data latest;
      buffer = record { list = blank_list 32 no_packet refl; rises = refl };
      queue = record { list = blank_list 32 no_packet refl; follows = refl };
    }

pub idle_none_on : IsIdleOn no_on_channel
idle_none_on =
    record {
      numbers = record { address = refl; index = refl; version = refl; expected = refl; source = refl };
      lists = no_lists;
      buffer = refl;
      queue = refl;
    }
