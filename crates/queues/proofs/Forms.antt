-- Each list in its form is the one value that stands for what it holds.
use Rattle.std.proofs.Common.{◌≡◌, ℕ, zero, suc, ◌-◌, ◌≤◌, List, [], ◌∷◌, ◌++◌, map, length, take, drop, replicate, refl, arith, ap, sym, ◌∙◌, take-append-drop, length-take, length-drop}
use Rattle.std.specs.List.{All}
use Rattle.list.specs.Pad.{pad}
use Rattle.list.specs.Find.{joined, sum}
use Rattle.list.specs.Lists.{IsList}
use Rattle.list.proofs.Pad.{pad-nil}
use Rattle.list.proofs.Edits.{length_items}
use lib.Seq.{take_all}
use Rattle.queues.specs.declared.out_list.OutList.{OutList}
use Rattle.queues.specs.declared.ack_queue.AckQueue.{AckQueue}
use Rattle.queues.specs.declared.waiting.Waiting.{Waiting}
use Rattle.queues.specs.declared.bundles.Bundles.{Bundles}
use Rattle.queues.specs.declared.groups.Fragments.{Fragments}
use Rattle.queues.specs.declared.groups.Groups.{Groups}
use Rattle.queues.specs.Out as out
use Rattle.queues.specs.Acks as acks
use Rattle.queues.specs.Packets as packets
use Rattle.queues.specs.Made as made
use Rattle.queues.specs.Made.{split_by, bundles_of, IsBundles, size}
use Rattle.queues.specs.Places as groups
use Rattle.queues.specs.Places.{group_of, repr_group, IsGroup, IsGroups, groups_of, no_fragments}
use Rattle.queues.proofs.Cuts.{len_is, total_is, joined-split_by}
use Rattle.queues.proofs.AllGroups.{long}

-- ---- a count and places

module _ {A : Type 0} where
  -- a short list and what fills it up
  pub pad_of : (n : ℕ) (z : A) (xs : List A) → length xs ≤ n → pad n z xs ≡ xs ++ replicate (n - length xs) z
  unfolding pad
  pad_of zero z [] h = refl
  pad_of zero z (x ∷ xs) h = absurd (omega arith)
  pad_of (suc n) z [] h =
      let e : suc n - 0 ≡ suc n = omega arith in
      rw e (ap (λ (l : List A). z ∷ l) (sym (pad-nil n z)))
  pad_of (suc n) z (x ∷ xs) h =
      let e : suc n - suc (length xs) ≡ n - length xs = omega arith in
      rw e (ap (λ (l : List A). x ∷ l) (pad_of n z xs (omega arith)))

  pub count_form : (n len : ℕ) (z : A) (xs : List A) → IsList n z len xs → len ≡ length (take len xs)
  count_form n len z xs h = sym (length_items n len z xs h)

  pub places_form : (n len : ℕ) (z : A) (xs : List A) → IsList n z len xs → xs ≡ pad n z (take len xs)
  places_form n len z xs h =
      let e = length_items n len z xs h in
      let p = pad_of n z (take len xs) (rw e h.fits) in
      sym (p ∙ (rw e (ap (λ (l : List A). take len xs ++ l) (sym h.spare) ∙ take-append-drop len xs)))

-- ---- each list

pub out_form : (o : OutList) → out.IsOutList o → o ≡ out.repr (out.entries o)
out_form o h =
    let n = count_form 32 o.len _ o.entries h in
    let l = places_form 32 o.len _ o.entries h in
    λ i. record { len = n i; entries = l i }

pub acks_form : (q : AckQueue) → acks.IsAckQueue q → q ≡ acks.repr (acks.numbers q)
acks_form q h =
    let n = count_form 64 q.len _ q.numbers h in
    let l = places_form 64 q.len _ q.numbers h in
    λ i. record { len = n i; numbers = l i }

pub waiting_form : (w : Waiting) → packets.IsWaiting w → w ≡ packets.repr (packets.packets_of w)
waiting_form w h =
    let n = count_form 32 w.len _ w.packets h in
    let l = places_form 32 w.len _ w.packets h in
    λ i. record { len = n i; packets = l i }

-- ---- bundles

-- each bundle is as long as its length says
sizes : (ns hs : List ℕ) → sum ns ≤ length hs → map size (split_by ns hs) ≡ ns
unfolding split_by sum
sizes [] hs h = refl
sizes (n ∷ ns) hs h =
    let a : length (take n hs) ≡ n = omega (arith, length-take n hs) in
    let b : map size (split_by ns (drop n hs)) ≡ ns = sizes ns (drop n hs) (omega (arith, length-drop n hs)) in
    λ i. a i ∷ b i

pub bundles_form : (b : Bundles) → IsBundles b → b ≡ made.repr (bundles_of b)
bundles_form b h =
    let hs = take b.total b.handles in
    let many : sum (take b.len b.lengths) ≡ length hs = omega (arith, h.whole, length_items 64 b.total 0 b.handles h.handles) in
    let s : map size (bundles_of b) ≡ take b.len b.lengths = sizes (take b.len b.lengths) hs (omega arith) in
    let j : joined (bundles_of b) ≡ hs = joined-split_by (take b.len b.lengths) hs ∙ take_all (sum (take b.len b.lengths)) hs (omega arith) in
    let n = sym (len_is b h) in
    let t = sym (total_is b h) in
    let l = places_form 16 b.len 0 b.lengths h.lengths ∙ ap (pad 16 0) (sym s) in
    let k = places_form 64 b.total 0 b.handles h.handles ∙ ap (pad 64 0) (sym j) in
    λ i. record { len = n i; total = t i; lengths = l i; handles = k i }

-- ---- groups

each_form : (gs : List Fragments) → All IsGroup gs → map repr_group (map group_of gs) ≡ gs
each_form [] all = refl
each_form (g ∷ gs) all =
    let a : repr_group (group_of g) ≡ g = sym (all 0 g (omega arith)) in
    let b = each_form gs (λ k d h. all (suc k) d (omega arith)) in
    λ i. a i ∷ b i

pub groups_form : (gs : Groups) → IsGroups gs → gs ≡ groups.repr (groups_of gs)
groups_form gs h =
    let n = sym (long gs h) in
    let l = places_form 4 gs.len no_fragments gs.groups h.groups ∙ ap (pad 4 no_fragments) (sym (each_form (take gs.len gs.groups) h.each)) in
    λ i. record { len = n i; groups = l i }
