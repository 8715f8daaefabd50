-- What the tests of the lists say: a list that passes is in its form and the model's test is true of what it stands for, and the other way
-- round. Assumes nothing.
use Rattle.std.proofs.Common.{◌≡◌, ℕ, zero, suc, ◌+◌, ◌-◌, ◌≤◌, Bool, true, false, cond, ◌&&◌, ◌||◌, List, [], ◌∷◌, map, length, take, drop, refl, sym, ap, arith, ◌∙◌}
use Rattle.std.specs.declared.option.Option.{Option}
use Rattle.std.specs.declared.option.Option.TheVariants.{None, Some}
use borrow.Author.Tests.{leb-true, le-leb, eqb-true}
use lib.Dec.{leb, eqb}
use lib.ListN.{length-map}
use Rattle.list.specs.Pad.{pad, all_b}
use Rattle.list.specs.Find.{sum}
use Rattle.list.specs.Lists.{IsList}
use Rattle.list.proofs.Pad.{and_left, and_right, length-pad, pad_of_tail, tail_of_pad}
use Rattle.list.proofs.Tests.{and_both}
use Rattle.list.proofs.Maps.{all_b-map}
use Rattle.list.proofs.Sums.{sum-pad}
use Rattle.seq.specs.Num.{legal}
use Rattle.model.specs.Group.{filled}
use Rattle.model.specs.Wellformed.{entry_good, packet_good, group_good, rising, consecutive, distinct, same_first}
use Rattle.queues.specs.declared.out_list.OutList.{OutList}
use Rattle.queues.specs.declared.ack_queue.AckQueue.{AckQueue}
use Rattle.queues.specs.declared.waiting.Waiting.{Waiting}
use Rattle.queues.specs.declared.bundles.Bundles.{Bundles}
use Rattle.queues.specs.declared.groups.Fragments.{Fragments}
use Rattle.queues.specs.declared.groups.Groups.{Groups}
use Rattle.queues.specs.Out.{entries, IsOutList}
use Rattle.queues.specs.Acks.{numbers, IsAckQueue}
use Rattle.queues.specs.Packets.{packets_of, IsWaiting}
use Rattle.queues.specs.Made.{IsBundles}
use Rattle.queues.specs.Places.{mark_of, handle_of, place_of, places, group_of, IsGroup, groups_of, IsGroups}
use Rattle.queues.specs.Tests.{is_zero, place_good, places_good}
use Rattle.queues.specs.Good.{IsGoodEntry, IsGoodOut, IsGoodAcks, IsGoodGroup, IsGoodGroups, IsGoodBundles, IsGoodBuffer, IsGoodQueue}
use Rattle.queues.proofs.OneGroup.{length-places_le, length-places}
use Rattle.queues.proofs.TestForms.{all_so, all_b_so, list_of, spare_of, zero_is, sum_zero, entry_is, is_entry, handles_zero}

-- ---- the out list and the ack queue

pub out_entries : (latest : ℕ) (o : OutList) → IsGoodOut latest o → all_b (entry_good latest) (entries o) ≡ true
out_entries latest o g = all_b_so (entry_good latest) (IsGoodEntry latest) (is_entry latest) (entries o) g.each

pub out_from : (latest : ℕ) (o : OutList) → IsOutList o → all_b (entry_good latest) (entries o) ≡ true → IsGoodOut latest o
out_from latest o w h = record { list = w; each = all_so (entry_good latest) (IsGoodEntry latest) (entry_is latest) (entries o) h }

pub acks_legal : (q : AckQueue) → IsGoodAcks q → all_b legal (numbers q) ≡ true
acks_legal q g = all_b_so legal (λ n. n ≤ 0x0FFF_FFFF) (λ n p. le-leb n 0x0FFF_FFFF p) (numbers q) g.each

pub acks_from : (q : AckQueue) → IsAckQueue q → all_b legal (numbers q) ≡ true → IsGoodAcks q
acks_from q w h = record { list = w; each = all_so legal (λ n. n ≤ 0x0FFF_FFFF) (λ n p. leb-true n 0x0FFF_FFFF p) (numbers q) h }

-- ---- one group

mark_is : (m h : ℕ) → place_good m h ≡ true → m ≡ mark_of (place_of m h)
mark_is m h p = at (eqb m 1) refl
  where
    at : (t : Bool) → eqb m 1 ≡ t → m ≡ mark_of (cond t (Some h) None)
    at true q = eqb-true m 1 q
    at false q =
        let e : eqb m 0 && eqb h 0 ≡ true = sym (ap (λ (x : Bool). x || eqb m 0 && eqb h 0) q) ∙ p in
        eqb-true m 0 (and_left (eqb m 0) (eqb h 0) e)

handle_is : (m h : ℕ) → place_good m h ≡ true → h ≡ handle_of (place_of m h)
handle_is m h p = at (eqb m 1) refl
  where
    at : (t : Bool) → eqb m 1 ≡ t → h ≡ handle_of (cond t (Some h) None)
    at true q = refl
    at false q =
        let e : eqb m 0 && eqb h 0 ≡ true = sym (ap (λ (x : Bool). x || eqb m 0 && eqb h 0) q) ∙ p in
        eqb-true h 0 (and_right (eqb m 0) (eqb h 0) e)

marks_are : (n : ℕ) (ms hs : List ℕ) → length ms ≡ length hs → all_b is_zero (drop n ms) ≡ true → places_good ms hs ≡ true → ms ≡ pad (length ms) 0 (map mark_of (places n ms hs))
unfolding places pad places_good
marks_are zero ms hs e z p = pad_of_tail is_zero 0 zero_is ms 0 z
marks_are (suc n) [] hs e z p = refl
marks_are (suc n) (m ∷ ms) [] e z p = absurd (omega arith)
marks_are (suc n) (m ∷ ms) (h ∷ hs) e z p =
    let a = mark_is m h (and_left (place_good m h) (places_good ms hs) p) in
    let b = marks_are n ms hs (omega arith) z (and_right (place_good m h) (places_good ms hs) p) in
    λ i. a i ∷ b i

handles_are : (n : ℕ) (ms hs : List ℕ) → length ms ≡ length hs → all_b is_zero (drop n ms) ≡ true → places_good ms hs ≡ true → hs ≡ pad (length hs) 0 (map handle_of (places n ms hs))
unfolding places pad places_good
handles_are zero ms hs e z p =
    let none = handles_zero ms hs e (all_so is_zero (λ m. m ≡ 0) zero_is ms z) p in
    pad_of_tail is_zero 0 zero_is hs 0 (all_b_so is_zero (λ h. h ≡ 0) (λ h q. ap is_zero q) hs none)
handles_are (suc n) [] [] e z p = refl
handles_are (suc n) [] (h ∷ hs) e z p = absurd (omega arith)
handles_are (suc n) (m ∷ ms) [] e z p = absurd (omega arith)
handles_are (suc n) (m ∷ ms) (h ∷ hs) e z p =
    let a = handle_is m h (and_left (place_good m h) (places_good ms hs) p) in
    let b = handles_are n ms hs (omega arith) z (and_right (place_good m h) (places_good ms hs) p) in
    λ i. a i ∷ b i

sum_marks : (ps : List (Option ℕ)) → sum (map mark_of ps) ≡ filled ps
unfolding sum filled
sum_marks [] = refl
sum_marks (None ∷ ps) = omega (arith, sum_marks ps)
sum_marks (Some x ∷ ps) = omega (arith, sum_marks ps)

pads_good : (N : ℕ) (ps : List (Option ℕ)) → places_good (pad N 0 (map mark_of ps)) (pad N 0 (map handle_of ps)) ≡ true
unfolding pad places_good
pads_good zero ps = refl
pads_good (suc N) [] = pads_good N []
pads_good (suc N) (None ∷ ps) = pads_good N ps
pads_good (suc N) (Some x ∷ ps) = pads_good N ps

pub group_form : (latest : ℕ) (g : Fragments) → IsGoodGroup latest g → IsGroup g
group_form latest g w =
    let a = w.marks.size in
    let b = w.handles in
    let l = w.marks.fits in
    let z = spare_of is_zero 0 refl 32 g.len g.marks w.marks in
    let ps = places g.len g.marks g.handles in
    let n : length ps ≡ g.len = length-places g.len g.marks g.handles (omega arith) (omega arith) in
    let m : g.marks ≡ pad 32 0 (map mark_of ps) = marks_are g.len g.marks g.handles (a ∙ sym b) z w.places ∙ ap (λ (k : ℕ). pad k 0 (map mark_of ps)) a in
    let h : g.handles ≡ pad 32 0 (map handle_of ps) = handles_are g.len g.marks g.handles (a ∙ sym b) z w.places ∙ ap (λ (k : ℕ). pad k 0 (map handle_of ps)) b in
    let c : filled ps ≡ g.count =
    sym (sum_marks ps) ∙ sym (sum-pad 32 (map mark_of ps) (omega (arith, length-map ps mark_of))) ∙ sym (ap sum m) ∙ w.filled in
    λ i. record { updated = g.updated; first = g.first; len = sym n i; count = sym c i; marks = m i; handles = h i }

pub group_from : (latest : ℕ) (g : Fragments) → IsGroup g → group_good latest (group_of g) ≡ true → IsGoodGroup latest g
group_from latest g w q =
    let ps = places g.len g.marks g.handles in
    let n : g.len ≡ length ps = ap (λ (p : Fragments). p.len) w in
    let m : g.marks ≡ pad 32 0 (map mark_of ps) = ap (λ (p : Fragments). p.marks) w in
    let h : g.handles ≡ pad 32 0 (map handle_of ps) = ap (λ (p : Fragments). p.handles) w in
    let c : g.count ≡ filled ps = ap (λ (p : Fragments). p.count) w in
    let a : length g.marks ≡ 32 = ap length m ∙ length-pad 32 0 (map mark_of ps) in
    let b : length g.handles ≡ 32 = ap length h ∙ length-pad 32 0 (map handle_of ps) in
    let k : g.len ≡ length (map mark_of ps) = n ∙ sym (length-map ps mark_of) in
    let few : length ps ≤ 32 = omega (arith, length-places_le g.len g.marks g.handles) in
    let z : all_b is_zero (drop g.len g.marks) ≡ true = (λ i. all_b is_zero (drop (k i) (m i))) ∙ tail_of_pad is_zero 0 refl 32 (map mark_of ps) in
    record {
      marks = list_of is_zero 0 zero_is 32 g.len g.marks a (omega arith) z;
      handles = b;
      updated = leb-true g.updated latest (and_right (legal g.first) (leb g.updated latest) q);
      first = leb-true g.first 0x0FFF_FFFF (and_left (legal g.first) (leb g.updated latest) q);
      places = (λ i. places_good (m i) (h i)) ∙ pads_good 32 ps;
      filled = ap sum m ∙ sum-pad 32 (map mark_of ps) (omega (arith, length-map ps mark_of)) ∙ sum_marks ps ∙ sym c;
    }

-- ---- all groups

abbrev good_at : ℕ → Fragments → Bool
good_at latest g = group_good latest (group_of g)

pub groups_form : (latest : ℕ) (gs : Groups) → IsGoodGroups latest gs → IsGroups gs
groups_form latest gs w = record { groups = w.groups; each = λ k d b. group_form latest _ (w.each k d b) }

pub groups_model : (latest : ℕ) (gs : Groups) → IsGoodGroups latest gs → all_b (group_good latest) (groups_of gs) ≡ true
groups_model latest gs w =
    all_b-map (group_good latest) group_of (take gs.len gs.groups)
    ∙ all_b_so (good_at latest) (IsGoodGroup latest) (λ g q. and_both (le-leb g.first 0x0FFF_FFFF q.first) (le-leb g.updated latest q.updated)) (take gs.len gs.groups) w.each

pub groups_from : (latest : ℕ) (gs : Groups) → IsGroups gs → all_b (group_good latest) (groups_of gs) ≡ true → distinct same_first (groups_of gs) ≡ true → IsGoodGroups latest gs
groups_from latest gs w h e =
    let each = all_so (good_at latest) (λ g. good_at latest g ≡ true) (λ g q. q) (take gs.len gs.groups) (sym (all_b-map (group_good latest) group_of (take gs.len gs.groups)) ∙ h) in
    record { groups = w.groups; each = λ k d b. group_from latest _ (w.each k d b) (each k d b); apart = e }

-- ---- bundles

sum_split : (n : ℕ) (xs : List ℕ) → sum xs ≡ sum (take n xs) + sum (drop n xs)
unfolding sum
sum_split zero xs = omega arith
sum_split (suc n) [] = refl
sum_split (suc n) (x ∷ xs) = omega (arith, sum_split n xs)

-- zeros past the front add nothing
sum_front : (N n : ℕ) (xs : List ℕ) → IsList N 0 n xs → sum xs ≡ sum (take n xs)
sum_front N n xs l = omega (arith, sum_split n xs, ap sum l.spare, sum_zero (N - n))

pub bundles_form : (b : Bundles) → IsGoodBundles b → IsBundles b
bundles_form b g = record { lengths = g.lengths; handles = g.handles; whole = sym (sum_front 16 b.len b.lengths g.lengths) ∙ g.whole }

pub bundles_from : (b : Bundles) → IsBundles b → IsGoodBundles b
bundles_from b w = record { lengths = w.lengths; handles = w.handles; whole = sum_front 16 b.len b.lengths w.lengths ∙ w.whole }

-- ---- packets that wait

pub buffer_packets : (e : ℕ) (w : Waiting) → IsGoodBuffer e w → all_b packet_good (packets_of w) ≡ true
buffer_packets e w g = and_left (all_b packet_good (packets_of w)) (rising e 0 (packets_of w)) g.rises

pub buffer_rises : (e : ℕ) (w : Waiting) → IsGoodBuffer e w → rising e 0 (packets_of w) ≡ true
buffer_rises e w g = and_right (all_b packet_good (packets_of w)) (rising e 0 (packets_of w)) g.rises

pub buffer_from : (e : ℕ) (w : Waiting) → IsWaiting w → all_b packet_good (packets_of w) ≡ true → rising e 0 (packets_of w) ≡ true → IsGoodBuffer e w
buffer_from e w l a b = record { list = l; rises = and_both a b }

pub queue_packets : (e : ℕ) (w : Waiting) → IsGoodQueue e w → all_b packet_good (packets_of w) ≡ true
queue_packets e w g = and_left (all_b packet_good (packets_of w)) (consecutive e (packets_of w)) g.follows

pub queue_follows : (e : ℕ) (w : Waiting) → IsGoodQueue e w → consecutive e (packets_of w) ≡ true
queue_follows e w g = and_right (all_b packet_good (packets_of w)) (consecutive e (packets_of w)) g.follows

pub queue_from : (e : ℕ) (w : Waiting) → IsWaiting w → all_b packet_good (packets_of w) ≡ true → consecutive e (packets_of w) ≡ true → IsGoodQueue e w
queue_from e w l a b = record { list = l; follows = and_both a b }
