-- The value that stands for a list within its limit: it is in its form, and stands for that list.
use Rattle.std.proofs.Common.{◌≡◌, ℕ, zero, suc, ◌-◌, ◌≤◌, List, [], ◌∷◌, ◌++◌, length, take, drop, map, replicate, refl, ap, sym, arith, rules, ◌∙◌, true}
use native.Mathlib.Nat.{le_of_suc-le-suc, not-suc-le-zero}
use borrow.Author.Tests.{leb-true}
use lib.ListN.{length-map}
use mathlib.Core.List.{append_assoc}
use lib.Seq.{take-append_seam, drop-append_seam}
use Rattle.std.specs.List.{All}
use Rattle.std.specs.declared.option.Option.{Option}
use Rattle.std.specs.declared.option.Option.TheVariants.{None, Some}
use Rattle.list.specs.Pad.{pad, all_b}
use Rattle.list.specs.Find.{joined, sum}
use Rattle.list.specs.Lists.{IsList}
use Rattle.list.proofs.Pad.{length-pad, pad-nil, take-pad, and_left, and_right}
use Rattle.list.proofs.Sums.{sum_lengths}
use Rattle.packet.specs.declared.OutEntry.{OutEntry}
use Rattle.packet.specs.declared.Packet.{Packet}
use Rattle.packet.specs.Data.{no_entry, no_packet}
use Rattle.model.specs.State.{Group}
use Rattle.model.specs.Room.{fits_group}
use Rattle.queues.specs.declared.groups.Fragments.{Fragments}
use Rattle.queues.specs.Out as out
use Rattle.queues.specs.Acks as acks
use Rattle.queues.specs.Packets as packets
use Rattle.queues.specs.Made.{split_by, bundles_of, IsBundles, size}
use Rattle.queues.specs.Made as bundles
use Rattle.queues.specs.Places.{mark_of, handle_of, places, group_of, repr_group, IsGroup, no_fragments, groups_of, IsGroups}
use Rattle.queues.specs.Places as groups

-- ---- any list, padded

module _ {X : Type 0} where
  spare-pad : (n : ℕ) (z : X) (xs : List X) → length xs ≤ n → drop (length xs) (pad n z xs) ≡ replicate (n - length xs) z
  unfolding pad
  spare-pad zero z [] h = sym (pad-nil zero z)
  spare-pad (suc n) z [] h = let e : suc n ≡ suc n - 0 = omega arith in sym (pad-nil (suc n) z) ∙ ap (λ (k : ℕ). replicate k z) e
  spare-pad zero z (x ∷ xs) h = absurd (not-suc-le-zero h)
  spare-pad (suc n) z (x ∷ xs) h =
      let e : n - length xs ≡ suc n - suc (length xs) = omega arith in
      spare-pad n z xs (le_of_suc-le-suc h) ∙ ap (λ (k : ℕ). replicate k z) e

  pub padded : (n : ℕ) (z : X) (xs : List X) → length xs ≤ n → IsList n z (length xs) (pad n z xs)
  padded n z xs h = record { size = length-pad n z xs; fits = h; spare = spare-pad n z xs h }

-- ---- entries, numbers, packets

pub out-form : (es : List OutEntry) → length es ≤ 32 → out.IsOutList (out.repr es)
out-form es h = padded 32 no_entry es h

pub out-back : (es : List OutEntry) → length es ≤ 32 → out.entries (out.repr es) ≡ es
out-back es h = take-pad 32 no_entry es h

pub acks-form : (ns : List ℕ) → length ns ≤ 64 → acks.IsAckQueue (acks.repr ns)
acks-form ns h = padded 64 0 ns h

pub acks-back : (ns : List ℕ) → length ns ≤ 64 → acks.numbers (acks.repr ns) ≡ ns
acks-back ns h = take-pad 64 0 ns h

pub packets-form : (ps : List Packet) → length ps ≤ 32 → packets.IsWaiting (packets.repr ps)
packets-form ps h = padded 32 no_packet ps h

pub packets-back : (ps : List Packet) → length ps ≤ 32 → packets.packets_of (packets.repr ps) ≡ ps
packets-back ps h = take-pad 32 no_packet ps h

-- ---- bundles

split_by-joined : (bs : List (List ℕ)) (r : List ℕ) → split_by (map size bs) (joined bs ++ r) ≡ bs
unfolding split_by joined
split_by-joined [] r = refl
split_by-joined (b ∷ bs) r =
    let e : b ++ joined bs ++ r ≡ b ++ (joined bs ++ r) = append_assoc b (joined bs) r in
    let t : take (length b) (b ++ joined bs ++ r) ≡ b = ap (λ (l : List ℕ). take (length b) l) e ∙ take-append_seam b (joined bs ++ r) in
    let d : drop (length b) (b ++ joined bs ++ r) ≡ joined bs ++ r = ap (λ (l : List ℕ). drop (length b) l) e ∙ drop-append_seam b (joined bs ++ r) in
    let s : split_by (map size bs) (drop (length b) (b ++ joined bs ++ r)) ≡ bs = ap (λ (l : List ℕ). split_by (map size bs) l) d ∙ split_by-joined bs r in
    λ i. t i ∷ s i

module _ (bs : List (List ℕ)) (few : length bs ≤ 16) (fits : length (joined bs) ≤ 64) where
  sizes : length (map size bs) ≡ length bs
  sizes = length-map bs size

  cut : take (length bs) (pad 16 0 (map size bs)) ≡ map size bs
  cut = ap (λ (m : ℕ). take m (pad 16 0 (map size bs))) (sym sizes) ∙ take-pad 16 0 (map size bs) (omega (arith, sizes))

  pub bundles-form : IsBundles (bundles.repr bs)
  bundles-form =
      let l : IsList 16 0 (length (map size bs)) (pad 16 0 (map size bs)) = padded 16 0 (map size bs) (omega (arith, sizes)) in
      record {
        lengths = rw (← sizes) l;
        handles = padded 64 0 (joined bs) fits;
        whole = ap sum cut ∙ sum_lengths bs;
      }

  pub bundles-back : bundles_of (bundles.repr bs) ≡ bs
  bundles-back =
      ap (λ (ns : List ℕ). split_by ns (take (length (joined bs)) (pad 64 0 (joined bs)))) cut
      ∙ ap (λ (hs : List ℕ). split_by (map size bs) hs) (take-pad 64 0 (joined bs) fits ∙ nothing)
      ∙ split_by-joined bs []
    where
      nothing : joined bs ≡ joined bs ++ []
      nothing = search rules

-- ---- groups

places-pad : (n : ℕ) (ps : List (Option ℕ)) → length ps ≤ n → places (length ps) (pad n 0 (map mark_of ps)) (pad n 0 (map handle_of ps)) ≡ ps
unfolding places pad
places-pad n [] h = refl
places-pad zero (p ∷ ps) h = absurd (not-suc-le-zero h)
places-pad (suc n) (None ∷ ps) h = ap (λ (r : List (Option ℕ)). None ∷ r) (places-pad n ps (le_of_suc-le-suc h))
places-pad (suc n) (Some x ∷ ps) h = ap (λ (r : List (Option ℕ)). Some x ∷ r) (places-pad n ps (le_of_suc-le-suc h))

pub group-back : (g : Group) → length g.places ≤ 32 → group_of (repr_group g) ≡ g
group-back g h = let p = places-pad 32 g.places h in λ i. record { first = g.first; updated = g.updated; places = p i }

pub group-form : (g : Group) → length g.places ≤ 32 → IsGroup (repr_group g)
group-form g h = ap repr_group (sym (group-back g h))

all-back : (gs : List Group) → all_b fits_group gs ≡ true → map group_of (map repr_group gs) ≡ gs
unfolding all_b
all-back [] p = refl
all-back (g ∷ gs) p =
    let a = group-back g (leb-true (length g.places) 32 (and_left (fits_group g) (all_b fits_group gs) p)) in
    let b = all-back gs (and_right (fits_group g) (all_b fits_group gs) p) in
    λ i. a i ∷ b i

all-form : (gs : List Group) → all_b fits_group gs ≡ true → All IsGroup (map repr_group gs)
unfolding all_b
all-form [] p k d lt = absurd (not-suc-le-zero lt)
all-form (g ∷ gs) p zero d lt = group-form g (leb-true (length g.places) 32 (and_left (fits_group g) (all_b fits_group gs) p))
all-form (g ∷ gs) p (suc k) d lt = all-form gs (and_right (fits_group g) (all_b fits_group gs) p) k d (le_of_suc-le-suc lt)

module _ (gs : List Group) (few : length gs ≤ 4) (fit : all_b fits_group gs ≡ true) where
  number : length (map repr_group gs) ≡ length gs
  number = length-map gs repr_group

  front : take (length gs) (pad 4 no_fragments (map repr_group gs)) ≡ map repr_group gs
  front = ap (λ (m : ℕ). take m (pad 4 no_fragments (map repr_group gs))) (sym number) ∙ take-pad 4 no_fragments (map repr_group gs) (omega (arith, number))

  pub groups-form : IsGroups (groups.repr gs)
  groups-form =
      let l : IsList 4 no_fragments (length (map repr_group gs)) (pad 4 no_fragments (map repr_group gs)) = padded 4 no_fragments (map repr_group gs) (omega (arith, number)) in
      record { groups = rw (← number) l; each = rw front (all-form gs fit) }

  pub groups-back : groups_of (groups.repr gs) ≡ gs
  groups-back = ap (λ (r : List Fragments). map group_of r) front ∙ all-back gs fit
