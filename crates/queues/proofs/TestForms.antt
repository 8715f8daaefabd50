-- Each test of Tests is true exactly where the record of Good holds. Assumes nothing.
use Rattle.std.proofs.Common.{◌≡◌, ℕ, zero, suc, ◌-◌, ◌≤◌, Bool, true, false, ◌&&◌, ◌||◌, List, [], ◌∷◌, length, take, drop, replicate, All, ◌⊎◌, inl, inr, refl, sym, ap, arith, ◌∙◌, length-drop}
use borrow.Author.Tests.{leb-true, le-leb, eqb-true, eq-eqb}
use lib.Dec.{leb, eqb}
use Rattle.std.proofs.lemmas.List.Elements.{All-nil, All-cons, All-head, All-tail}
use Rattle.list.specs.Pad.{all_b}
use Rattle.list.specs.Find.{sum}
use Rattle.list.specs.Lists.{IsList}
use Rattle.list.proofs.Pad.{never, and_left, and_right}
use Rattle.list.proofs.Tests.{and_both, and_3, and_4, and_5, and_6, all_b_head, all_b_tail, all_b-none, all_b-cons}
use Rattle.list.proofs.Edits.{blanks_by}
use Rattle.seq.specs.Num.{legal}
use Rattle.packet.specs.declared.OutEntry.{OutEntry}
use Rattle.packet.specs.declared.Packet.{Packet}
use Rattle.packet.specs.Data.{no_entry, no_packet, is_set, is_flag}
use Rattle.model.specs.Wellformed.{entry_good, packet_good, rising, consecutive, distinct, same_first}
use Rattle.queues.specs.declared.out_list.OutList.{OutList}
use Rattle.queues.specs.declared.ack_queue.AckQueue.{AckQueue}
use Rattle.queues.specs.declared.waiting.Waiting.{Waiting}
use Rattle.queues.specs.declared.bundles.Bundles.{Bundles}
use Rattle.queues.specs.declared.groups.Fragments.{Fragments}
use Rattle.queues.specs.declared.groups.Groups.{Groups}
use Rattle.queues.specs.Out.{entries}
use Rattle.queues.specs.Acks.{numbers}
use Rattle.queues.specs.Packets.{packets_of, IsWaiting}
use Rattle.queues.specs.Places.{groups_of, no_fragments}
use Rattle.queues.specs.Tests.{is_zero, no_entry_b, out_good, acks_good, place_good, places_good, fragments_good, used_good, spare_good, groups_good, bundles_good, no_packet_b, kept, buffer_good, queue_good}
use Rattle.queues.specs.Good.{IsGoodEntry, IsGoodOut, IsGoodAcks, IsGoodGroup, IsGoodGroups, IsGoodBundles, IsGoodBuffer, IsGoodQueue}

-- ---- a test of each, and what it says of each

module _ {X : Type 0} where
  pub all_so : (f : X → Bool) (P : X → Type 0) → ((x : X) → f x ≡ true → P x) → (xs : List X) → all_b f xs ≡ true → All P xs
  all_so f P w [] h = All-nil P
  all_so f P w (x ∷ xs) h = All-cons P x xs (w x (all_b_head f x xs h)) (all_so f P w xs (all_b_tail f x xs h))

  pub all_b_so : (f : X → Bool) (P : X → Type 0) → ((x : X) → P x → f x ≡ true) → (xs : List X) → All P xs → all_b f xs ≡ true
  all_b_so f P w [] a = all_b-none f
  all_b_so f P w (x ∷ xs) a = all_b-cons f x xs (w x (All-head P x xs a)) (all_b_so f P w xs (All-tail P x xs a))

  all_same : (f : X → Bool) (blank : X) → f blank ≡ true → (n : ℕ) → all_b f (replicate n blank) ≡ true
  all_same f blank h zero = all_b-none f
  all_same f blank h (suc n) = all_b-cons f blank (replicate n blank) h (all_same f blank h n)

  -- of unused places, where the test is true of the blank alone
  pub list_of : (f : X → Bool) (blank : X) → ((x : X) → f x ≡ true → x ≡ blank) → (N n : ℕ) (xs : List X) → length xs ≡ N → n ≤ N → all_b f (drop n xs) ≡ true → IsList N blank n xs
  list_of f blank w N n xs e le h =
      let long : length (drop n xs) ≡ N - n = length-drop n xs ∙ ap (λ (k : ℕ). k - n) e in
      record {
        size = e;
        fits = le;
        spare = blanks_by (drop n xs) blank (all_so f (λ x. x ≡ blank) w (drop n xs) h) ∙ ap (λ (k : ℕ). replicate k blank) long;
      }

  pub spare_of : (f : X → Bool) (blank : X) → f blank ≡ true → (N n : ℕ) (xs : List X) → IsList N blank n xs → all_b f (drop n xs) ≡ true
  spare_of f blank h N n xs l = ap (λ (r : List X). all_b f r) l.spare ∙ all_same f blank h (N - n)

either : (a b : Bool) → a || b ≡ true → (a ≡ true) ⊎ (b ≡ true)
either true b h = inl refl
either false b h = inr h

-- where the first is true
or_first : (a b : Bool) → a ≡ true → a || b ≡ true
or_first true b h = refl
or_first false b h = never h

or_second : (a b : Bool) → b ≡ true → a || b ≡ true
or_second true b h = refl
or_second false b h = h

pub zero_is : (n : ℕ) → is_zero n ≡ true → n ≡ 0
zero_is n h = eqb-true n 0 h

-- ---- the out list

no_entry_is : (e : OutEntry) → no_entry_b e ≡ true → e ≡ no_entry
no_entry_is e h =
    let l = and_5 (eqb e.time 0) (eqb e.sent 0) (eqb e.number 0) (eqb e.held 0) (eqb e.handle 0) h in
    λ i. record { time = eqb-true _ _ l.0 i; sent = eqb-true _ _ l.1 i; number = eqb-true _ _ l.2 i; held = eqb-true _ _ l.3 i; handle = eqb-true _ _ l.4 i }

pub entry_is : (latest : ℕ) (e : OutEntry) → entry_good latest e ≡ true → IsGoodEntry latest e
entry_is latest e h =
    let l = and_5 (legal e.number) (is_flag e.held) (is_set e.held || eqb e.handle 0) (leb e.time e.sent) (leb e.sent latest) h in
    record {
      number = leb-true _ _ l.0;
      held = leb-true _ _ l.1;
      handle = elim (either (is_set e.held) (eqb e.handle 0) l.2) [ inl p ↦ inl (eqb-true _ _ p) | inr p ↦ inr (eqb-true _ _ p) ];
      time = leb-true _ _ l.3;
      sent = leb-true _ _ l.4;
    }

pub is_entry : (latest : ℕ) (e : OutEntry) → IsGoodEntry latest e → entry_good latest e ≡ true
is_entry latest e g =
    let a = le-leb e.number 0x0FFF_FFFF g.number in
    let b = le-leb e.held 1 g.held in
    let c : is_set e.held || eqb e.handle 0 ≡ true =
    elim g.handle [ inl p ↦ or_first (is_set e.held) (eqb e.handle 0) (eq-eqb e.held 1 p) | inr p ↦ or_second (is_set e.held) (eqb e.handle 0) (eq-eqb e.handle 0 p) ] in
    let d = le-leb e.time e.sent g.time in
    let f = le-leb e.sent latest g.sent in
    λ i. a i && b i && c i && d i && f i

pub out_is : (latest : ℕ) (o : OutList) → out_good latest o ≡ true → IsGoodOut latest o
unfolding out_good
out_is latest o h =
    let l = and_4 (eqb (length o.entries) 32) (leb o.len 32) (all_b no_entry_b (drop o.len o.entries)) (all_b (entry_good latest) (entries o)) h in
    record {
      list = list_of no_entry_b no_entry no_entry_is 32 o.len o.entries (eqb-true _ _ l.0) (leb-true _ _ l.1) l.2;
      each = all_so (entry_good latest) (IsGoodEntry latest) (entry_is latest) (entries o) l.3;
    }

pub is_out : (latest : ℕ) (o : OutList) → IsGoodOut latest o → out_good latest o ≡ true
unfolding out_good
is_out latest o g =
    let a = eq-eqb (length o.entries) 32 g.list.size in
    let b = le-leb o.len 32 g.list.fits in
    let c = spare_of no_entry_b no_entry refl 32 o.len o.entries g.list in
    let d = all_b_so (entry_good latest) (IsGoodEntry latest) (is_entry latest) (entries o) g.each in
    λ i. a i && b i && c i && d i

-- ---- the ack queue

pub acks_is : (q : AckQueue) → acks_good q ≡ true → IsGoodAcks q
unfolding acks_good
acks_is q h =
    let l = and_4 (eqb (length q.numbers) 64) (leb q.len 64) (all_b is_zero (drop q.len q.numbers)) (all_b legal (numbers q)) h in
    record {
      list = list_of is_zero 0 zero_is 64 q.len q.numbers (eqb-true _ _ l.0) (leb-true _ _ l.1) l.2;
      each = all_so legal (λ n. n ≤ 0x0FFF_FFFF) (λ n p. leb-true n 0x0FFF_FFFF p) (numbers q) l.3;
    }

pub is_acks : (q : AckQueue) → IsGoodAcks q → acks_good q ≡ true
unfolding acks_good
is_acks q g =
    let a = eq-eqb (length q.numbers) 64 g.list.size in
    let b = le-leb q.len 64 g.list.fits in
    let c = spare_of is_zero 0 refl 64 q.len q.numbers g.list in
    let d = all_b_so legal (λ n. n ≤ 0x0FFF_FFFF) (λ n p. le-leb n 0x0FFF_FFFF p) (numbers q) g.each in
    λ i. a i && b i && c i && d i

-- ---- groups

-- one group, but for its first number and its time
pub record Parts (g : Fragments) : Type 0 where
  pub marks : IsList 32 0 g.len g.marks
  pub handles : length g.handles ≡ 32
  pub places : places_good g.marks g.handles ≡ true
  pub filled : sum g.marks ≡ g.count

parts_is : (g : Fragments) → fragments_good g ≡ true → Parts g
unfolding fragments_good
parts_is g h =
    let a = eqb (length g.marks) 32 in
    let b = eqb (length g.handles) 32 in
    let z = all_b is_zero (drop g.len g.marks) in
    let p = places_good g.marks g.handles in
    let l = and_4 (a && b) (leb g.len 32) (z && p) (eqb (sum g.marks) g.count) h in
    record {
      marks = list_of is_zero 0 zero_is 32 g.len g.marks (eqb-true _ _ (and_left a b l.0)) (leb-true _ _ l.1) (and_left z p l.2);
      handles = eqb-true _ _ (and_right a b l.0);
      places = and_right z p l.2;
      filled = eqb-true _ _ l.3;
    }

is_parts : (g : Fragments) → Parts g → fragments_good g ≡ true
unfolding fragments_good
is_parts g w =
    let a = eq-eqb (length g.marks) 32 w.marks.size in
    let b = eq-eqb (length g.handles) 32 w.handles in
    let c = le-leb g.len 32 w.marks.fits in
    let d = spare_of is_zero 0 refl 32 g.len g.marks w.marks in
    let p = w.places in
    let f = eq-eqb (sum g.marks) g.count w.filled in
    λ i. a i && b i && c i && (d i && p i) && f i

pub group_is : (latest : ℕ) (g : Fragments) → used_good latest g ≡ true → IsGoodGroup latest g
group_is latest g h =
    let w = parts_is g (and_left (fragments_good g) (legal g.first && leb g.updated latest) h) in
    let r = and_right (fragments_good g) (legal g.first && leb g.updated latest) h in
    record {
      marks = w.marks;
      handles = w.handles;
      updated = leb-true _ _ (and_right (legal g.first) (leb g.updated latest) r);
      first = leb-true _ _ (and_left (legal g.first) (leb g.updated latest) r);
      places = w.places;
      filled = w.filled;
    }

pub is_group : (latest : ℕ) (g : Fragments) → IsGoodGroup latest g → used_good latest g ≡ true
is_group latest g w =
    let a = is_parts g (record { marks = w.marks; handles = w.handles; places = w.places; filled = w.filled }) in
    let b = le-leb g.first 0x0FFF_FFFF w.first in
    let c = le-leb g.updated latest w.updated in
    λ i. a i && (b i && c i)

-- where all marks are zero, so are the handles
pub handles_zero : (ms hs : List ℕ) → length ms ≡ length hs → All (λ m. m ≡ 0) ms → places_good ms hs ≡ true → All (λ h. h ≡ 0) hs
unfolding places_good
handles_zero [] [] e z p = All-nil _
handles_zero [] (h ∷ hs) e z p = absurd (omega arith)
handles_zero (m ∷ ms) [] e z p = absurd (omega arith)
handles_zero (m ∷ ms) (h ∷ hs) e z p =
    let a : m ≡ 0 = All-head (λ m. m ≡ 0) m ms z in
    let q : place_good m h ≡ true = and_left (place_good m h) (places_good ms hs) p in
    let u : eqb h 0 ≡ true = sym (ap (λ (k : ℕ). place_good k h) a) ∙ q in
    All-cons (λ h. h ≡ 0) h hs (eqb-true h 0 u) (handles_zero ms hs (omega arith) (All-tail (λ m. m ≡ 0) m ms z) (and_right (place_good m h) (places_good ms hs) p))

pub sum_zero : (n : ℕ) → sum (replicate n 0) ≡ 0
unfolding sum
sum_zero zero = refl
sum_zero (suc n) = omega (arith, sum_zero n)

none_is : (g : Fragments) → spare_good g ≡ true → g ≡ no_fragments
none_is g h =
    let r = and_3 (eqb g.first 0) (eqb g.updated 0) (eqb g.len 0) (and_right (fragments_good g) (eqb g.first 0 && eqb g.updated 0 && eqb g.len 0) h) in
    let w = parts_is g (and_left (fragments_good g) (eqb g.first 0 && eqb g.updated 0 && eqb g.len 0) h) in
    let f = eqb-true g.first 0 r.0 in
    let u = eqb-true g.updated 0 r.1 in
    let l : g.len ≡ 0 = eqb-true g.len 0 r.2 in
    let m : g.marks ≡ replicate 32 0 = sym (λ i. drop (l i) g.marks) ∙ w.marks.spare ∙ (λ i. replicate (32 - l i) 0) in
    let z : All (λ m. m ≡ 0) g.marks = all_so is_zero (λ m. m ≡ 0) zero_is g.marks (ap (λ (r : List ℕ). all_b is_zero r) m ∙ all_same is_zero 0 refl 32) in
    let hs : g.handles ≡ replicate 32 0 =
    blanks_by g.handles 0 (handles_zero g.marks g.handles (w.marks.size ∙ sym w.handles) z w.places) ∙ ap (λ (k : ℕ). replicate k 0) w.handles in
    let c : g.count ≡ 0 = sym w.filled ∙ ap sum m ∙ sum_zero 32 in
    λ i. record { updated = u i; first = f i; len = l i; count = c i; marks = m i; handles = hs i }

is_none : spare_good no_fragments ≡ true
unfolding fragments_good all_b places_good sum
is_none = refl

pub groups_is : (latest : ℕ) (gs : Groups) → groups_good latest gs ≡ true → IsGoodGroups latest gs
unfolding groups_good
groups_is latest gs h =
    let u = all_b (used_good latest) (take gs.len gs.groups) in
    let z = all_b spare_good (drop gs.len gs.groups) in
    let l = and_4 (eqb (length gs.groups) 4) (leb gs.len 4) (u && z) (distinct same_first (groups_of gs)) h in
    record {
      groups = list_of spare_good no_fragments none_is 4 gs.len gs.groups (eqb-true _ _ l.0) (leb-true _ _ l.1) (and_right u z l.2);
      each = all_so (used_good latest) (IsGoodGroup latest) (group_is latest) (take gs.len gs.groups) (and_left u z l.2);
      apart = l.3;
    }

pub is_groups : (latest : ℕ) (gs : Groups) → IsGoodGroups latest gs → groups_good latest gs ≡ true
unfolding groups_good
is_groups latest gs g =
    let a = eq-eqb (length gs.groups) 4 g.groups.size in
    let b = le-leb gs.len 4 g.groups.fits in
    let c = all_b_so (used_good latest) (IsGoodGroup latest) (is_group latest) (take gs.len gs.groups) g.each in
    let d = spare_of spare_good no_fragments is_none 4 gs.len gs.groups g.groups in
    let e = g.apart in
    λ i. a i && b i && (c i && d i) && e i

-- ---- bundles

pub bundles_is : (b : Bundles) → bundles_good b ≡ true → IsGoodBundles b
unfolding bundles_good
bundles_is b h =
    let x = eqb (length b.lengths) 16 in
    let y = eqb (length b.handles) 64 in
    let l = and_6 (x && y) (leb b.len 16) (leb b.total 64) (all_b is_zero (drop b.len b.lengths)) (eqb (sum b.lengths) b.total) (all_b is_zero (drop b.total b.handles)) h in
    record {
      lengths = list_of is_zero 0 zero_is 16 b.len b.lengths (eqb-true _ _ (and_left x y l.0)) (leb-true _ _ l.1) l.3;
      handles = list_of is_zero 0 zero_is 64 b.total b.handles (eqb-true _ _ (and_right x y l.0)) (leb-true _ _ l.2) l.5;
      whole = eqb-true _ _ l.4;
    }

pub is_bundles : (b : Bundles) → IsGoodBundles b → bundles_good b ≡ true
unfolding bundles_good
is_bundles b g =
    let x = eq-eqb (length b.lengths) 16 g.lengths.size in
    let y = eq-eqb (length b.handles) 64 g.handles.size in
    let c = le-leb b.len 16 g.lengths.fits in
    let d = le-leb b.total 64 g.handles.fits in
    let e = spare_of is_zero 0 refl 16 b.len b.lengths g.lengths in
    let f = eq-eqb (sum b.lengths) b.total g.whole in
    let k = spare_of is_zero 0 refl 64 b.total b.handles g.handles in
    λ i. (x i && y i) && c i && d i && e i && f i && k i

-- ---- packets that wait

no_packet_is : (p : Packet) → no_packet_b p ≡ true → p ≡ no_packet
no_packet_is p h =
    let l = and_5 (eqb p.number 0) (eqb p.handle 0) (eqb p.ranged 0) (eqb p.first 0) (eqb p.last 0) h in
    λ i. record { number = eqb-true _ _ l.0 i; handle = eqb-true _ _ l.1 i; ranged = eqb-true _ _ l.2 i; first = eqb-true _ _ l.3 i; last = eqb-true _ _ l.4 i }

kept_is : (w : Waiting) → kept w ≡ true → IsWaiting w
unfolding kept
kept_is w h =
    let l = and_3 (eqb (length w.packets) 32) (leb w.len 32) (all_b no_packet_b (drop w.len w.packets)) h in
    list_of no_packet_b no_packet no_packet_is 32 w.len w.packets (eqb-true _ _ l.0) (leb-true _ _ l.1) l.2

is_kept : (w : Waiting) → IsWaiting w → kept w ≡ true
unfolding kept
is_kept w g =
    let a = eq-eqb (length w.packets) 32 g.size in
    let b = le-leb w.len 32 g.fits in
    let c = spare_of no_packet_b no_packet refl 32 w.len w.packets g in
    λ i. a i && b i && c i

pub buffer_is : (w : Waiting) (e : ℕ) → buffer_good w e ≡ true → IsGoodBuffer e w
unfolding buffer_good
buffer_is w e h =
    let r = all_b packet_good (packets_of w) && rising e 0 (packets_of w) in
    record { list = kept_is w (and_left (kept w) r h); rises = and_right (kept w) r h }

pub is_buffer : (w : Waiting) (e : ℕ) → IsGoodBuffer e w → buffer_good w e ≡ true
unfolding buffer_good
is_buffer w e g = and_both (is_kept w g.list) g.rises

pub queue_is : (w : Waiting) (e : ℕ) → queue_good w e ≡ true → IsGoodQueue e w
unfolding queue_good
queue_is w e h =
    let r = all_b packet_good (packets_of w) && consecutive e (packets_of w) in
    record { list = kept_is w (and_left (kept w) r h); follows = and_right (kept w) r h }

pub is_queue : (w : Waiting) (e : ℕ) → IsGoodQueue e w → queue_good w e ≡ true
unfolding queue_good
is_queue w e g = and_both (is_kept w g.list) g.follows
