-- One group: what a group in its form has, and what its functions owe.
use mathlib.Core.Path.{◌≡◌, refl, sym, ap, ◌∙◌}
use mathlib.Core.Bool.{Bool, true, false, cond, ◌&&◌, ◌||◌}
use mathlib.Core.List.{List, [], ◌∷◌, map}
use Rattle.std.specs.declared.option.Option.{Option}
use Rattle.std.specs.declared.option.Option.TheVariants.{None, Some}
use Prim.Native.Nat.{ℕ, zero, suc, ◌+◌, ◌-◌, ◌≤◌, ◌<◌, zero-le, suc-le-suc}
use native.Mathlib.Nat.{le_of_suc-le-suc, not-suc-le-zero}
use native.Mathlib.Omega.{arith}
use borrow.Author.Tests.{eqb-true, eq-eqb}
use lib.Dec.{eqb}
use lib.ListN.{length, take, drop, get_or, set, replicate, length-set, length-map, length-replicate, get_or-map, drop_of_length-le}
use Rattle.list.proofs.Positions.{drop_here}
use Rattle.list.specs.Pad.{pad}
use Rattle.list.specs.Find.{has}
use Rattle.list.proofs.Pad.{length-pad, get_or-pad, take-pad}
use Rattle.list.proofs.Maps.{map-set, pad-same}
use Rattle.list.proofs.Copies.{pad-set}
use Rattle.model.specs.State.{Group}
use Rattle.model.specs.Group.{filled, full, in_places, store, new_group}
use Rattle.model.specs.Rust.{holds_place}
use Rattle.queues.specs.declared.groups.Fragments.{Fragments}
use Rattle.queues.specs.Places.{mark_of, handle_of, place_of, places, group_of, repr_group, IsGroup}

-- ---- places

pub length-places_le : (n : ℕ) (ms hs : List ℕ) → length (places n ms hs) ≤ length ms
unfolding places
length-places_le zero ms hs = zero-le
length-places_le (suc n) [] hs = zero-le
length-places_le (suc n) (m ∷ ms) [] = zero-le
length-places_le (suc n) (m ∷ ms) (h ∷ hs) = suc-le-suc (length-places_le n ms hs)

pub length-places : (n : ℕ) (ms hs : List ℕ) → n ≤ length ms → n ≤ length hs → length (places n ms hs) ≡ n
unfolding places
length-places zero ms hs a b = refl
length-places (suc n) [] hs a b = absurd (not-suc-le-zero a)
length-places (suc n) (m ∷ ms) [] a b = absurd (not-suc-le-zero b)
length-places (suc n) (m ∷ ms) (h ∷ hs) a b = ap suc (length-places n ms hs (le_of_suc-le-suc a) (le_of_suc-le-suc b))

-- what the arrays of a list of places say is the list
pub places-pad : (N : ℕ) (ps : List (Option ℕ)) → length ps ≤ N → places (length ps) (pad N 0 (map mark_of ps)) (pad N 0 (map handle_of ps)) ≡ ps
unfolding places pad
places-pad N [] h = refl
places-pad zero (p ∷ ps) h = absurd (not-suc-le-zero h)
places-pad (suc N) (None ∷ ps) h = ap (λ (r : List (Option ℕ)). None ∷ r) (places-pad N ps (le_of_suc-le-suc h))
places-pad (suc N) (Some x ∷ ps) h = ap (λ (r : List (Option ℕ)). Some x ∷ r) (places-pad N ps (le_of_suc-le-suc h))

pub get_or-places : (N : ℕ) (ms hs : List ℕ) (i : ℕ) → i < N → i < length ms → i < length hs → get_or (places N ms hs) i None ≡ place_of (get_or ms i 0) (get_or hs i 0)
unfolding places
get_or-places zero ms hs i h a b = absurd (not-suc-le-zero h)
get_or-places (suc N) [] hs i h a b = absurd (not-suc-le-zero a)
get_or-places (suc N) (m ∷ ms) [] i h a b = absurd (not-suc-le-zero b)
get_or-places (suc N) (m ∷ ms) (x ∷ hs) zero h a b = refl
get_or-places (suc N) (m ∷ ms) (x ∷ hs) (suc i) h a b = get_or-places N ms hs i (le_of_suc-le-suc h) (le_of_suc-le-suc a) (le_of_suc-le-suc b)

pub places_taken : (n : ℕ) (ms hs : List ℕ) → places n (take n ms) (take n hs) ≡ places n ms hs
unfolding places
places_taken zero ms hs = refl
places_taken (suc n) [] hs = refl
places_taken (suc n) (m ∷ ms) [] = refl
places_taken (suc n) (m ∷ ms) (h ∷ hs) = ap (λ (r : List (Option ℕ)). place_of m h ∷ r) (places_taken n ms hs)

-- ---- the count

pub filled_le : (ps : List (Option ℕ)) → filled ps ≤ length ps
unfolding filled
filled_le [] = zero-le
filled_le (None ∷ ps) = omega (arith, filled_le ps)
filled_le (Some x ∷ ps) = suc-le-suc (filled_le ps)

pub filled-set : (ps : List (Option ℕ)) (i x : ℕ) → i < length ps → filled (set ps i (Some x)) + mark_of (get_or ps i None) ≡ suc (filled ps)
unfolding filled
filled-set [] i x h = absurd (not-suc-le-zero h)
filled-set (None ∷ ps) zero x h = omega arith
filled-set (Some y ∷ ps) zero x h = omega arith
filled-set (None ∷ ps) (suc i) x h = filled-set ps i x (le_of_suc-le-suc h)
filled-set (Some y ∷ ps) (suc i) x h = omega (arith, filled-set ps i x (le_of_suc-le-suc h))

pub filled_none : (n : ℕ) → filled (replicate n None) ≡ 0
unfolding filled
filled_none zero = refl
filled_none (suc n) = filled_none n

pub length-in_places : (ps : List (Option ℕ)) → length (in_places ps) ≡ filled ps
unfolding filled in_places
length-in_places [] = refl
length-in_places (None ∷ ps) = length-in_places ps
length-in_places (Some x ∷ ps) = ap suc (length-in_places ps)

pub full-in_places : (ps : List (Option ℕ)) → filled ps ≡ length ps → in_places ps ≡ map handle_of ps
unfolding filled in_places
full-in_places [] p = refl
full-in_places (None ∷ ps) p = absurd (omega (arith, filled_le ps))
full-in_places (Some x ∷ ps) p = ap (λ (r : List ℕ). x ∷ r) (full-in_places ps (omega arith))

mark-one : (p : Option ℕ) → (mark_of p ≡ 0 → ⊥) → mark_of p ≡ 1
mark-one None h = absurd (h refl)
mark-one (Some x) h = refl

-- ---- a well-formed group

module _ (g : Fragments) (w : IsGroup g) where
  pub g_len : g.len ≡ length (group_of g).places
  g_len = ap (λ (p : Fragments). p.len) w

  pub g_count : g.count ≡ filled (group_of g).places
  g_count = ap (λ (p : Fragments). p.count) w

  pub g_marks : g.marks ≡ pad 32 0 (map mark_of (group_of g).places)
  g_marks = ap (λ (p : Fragments). p.marks) w

  pub g_handles : g.handles ≡ pad 32 0 (map handle_of (group_of g).places)
  g_handles = ap (λ (p : Fragments). p.handles) w

  pub g_32 : length g.marks ≡ 32
  g_32 = ap length g_marks ∙ length-pad 32 0 (map mark_of (group_of g).places)

  pub g_32h : length g.handles ≡ 32
  g_32h = ap length g_handles ∙ length-pad 32 0 (map handle_of (group_of g).places)

  pub g_few : length (group_of g).places ≤ 32
  g_few = omega (arith, length-places_le g.len g.marks g.handles, g_32)

  pub g_len_le : g.len ≤ 32
  g_len_le = omega (arith, g_len, g_few)

  pub g_mark : (i : ℕ) → i < g.len → get_or g.marks i 0 ≡ mark_of (get_or (group_of g).places i None)
  g_mark i h =
      ap (λ (l : List ℕ). get_or l i 0) g_marks ∙ get_or-pad 32 0 (map mark_of (group_of g).places) i (omega (arith, g_len_le)) ∙ get_or-map mark_of (group_of g).places i None

pub of-repr : (g : Group) → length g.places ≤ 32 → group_of (repr_group g) ≡ g
of-repr g h = let p = places-pad 32 g.places h in λ i. record { first = g.first; updated = g.updated; places = p i }

pub is-repr : (g : Group) → length g.places ≤ 32 → IsGroup (repr_group g)
is-repr g h = ap repr_group (sym (of-repr g h))

-- ---- Fragments::new

pub new-group : (first len time : ℕ) → ◌≡◌ {A = Fragments} (record { updated = time; first = first; len = len; count = 0; marks = replicate 32 0; handles = replicate 32 0 }) (repr_group (new_group first len time))
new-group first len time =
    let n = sym (length-replicate {A = Option ℕ} len None) in
    let c = sym (filled_none len) in
    let m = pad-same 32 0 mark_of None len refl in
    let h = pad-same 32 0 handle_of None len refl in
    λ i. record { updated = time; first = first; len = n i; count = c i; marks = m i; handles = h i }

-- a value that stands for a group is in its form, and is that group
pub good_by : (r : Fragments) (m : Group) → r ≡ repr_group m → length m.places ≤ 32 → IsGroup r
good_by r m e h = e ∙ ap repr_group (sym (ap group_of e ∙ of-repr m h))

pub seen_by : (r : Fragments) (m : Group) → r ≡ repr_group m → length m.places ≤ 32 → group_of r ≡ m
seen_by r m e h = ap group_of e ∙ of-repr m h

pub few_new : (n : ℕ) → n ≤ 32 → length (replicate {A = Option ℕ} n None) ≤ 32
few_new n h = omega (arith, length-replicate {A = Option ℕ} n None)

-- ---- a fragment at a place

mark_few : (p : Option ℕ) → mark_of p ≤ 1
mark_few None = omega arith
mark_few (Some x) = omega arith

module _ (g : Fragments) (k : ℕ) (w : IsGroup g) (l : k < g.len) where
  pub place-index : k < 32
  place-index = omega (arith, g_len_le g w)

  pub inside : k < length (group_of g).places
  inside = omega (arith, g_len g w)

  pub mark_le : get_or g.marks k 0 ≤ 1
  mark_le = omega (arith, g_mark g w k l, mark_few (get_or (group_of g).places k None))

  pub count_few : g.count ≤ 32
  count_few = omega (arith, g_count g w, filled_le (group_of g).places, g_few g w)

  pub count_is : (x : ℕ) → g.count + (1 - get_or g.marks k 0) ≡ filled (set (group_of g).places k (Some x))
  count_is x =
      omega (arith, g_count g w, filled-set (group_of g).places k x inside, g_mark g w k l, mark_few (get_or (group_of g).places k None))

  len_kept : (x : ℕ) → g.len ≡ length (set (group_of g).places k (Some x))
  len_kept x = g_len g w ∙ sym (length-set (group_of g).places k (Some x))

  marks_set : (x : ℕ) → set g.marks k 1 ≡ pad 32 0 (map mark_of (set (group_of g).places k (Some x)))
  marks_set x =
      let ps = (group_of g).places in
      ap (λ (r : List ℕ). set r k 1) (g_marks g w) ∙ pad-set 32 0 (map mark_of ps) k 1 (omega (arith, length-map ps mark_of, inside)) ∙ ap (λ (r : List ℕ). pad 32 0 r) (sym (map-set mark_of ps k (Some x)))

  handles-set : (x : ℕ) → set g.handles k x ≡ pad 32 0 (map handle_of (set (group_of g).places k (Some x)))
  handles-set x =
      let ps = (group_of g).places in
      ap (λ (r : List ℕ). set r k x) (g_handles g w) ∙ pad-set 32 0 (map handle_of ps) k x (omega (arith, length-map ps handle_of, inside)) ∙ ap (λ (r : List ℕ). pad 32 0 r) (sym (map-set handle_of ps k (Some x)))

  abbrev pub after : ℕ → ℕ → Fragments
  after x t = record { updated = t; first = g.first; len = g.len; count = g.count + (1 - get_or g.marks k 0); marks = set g.marks k 1; handles = set g.handles k x }

  stored : (x t : ℕ) → after x t ≡ repr_group (store k x t (group_of g))
  stored x t =
      let n = len_kept x in
      let c = count_is x in
      let a = marks_set x in
      let b = handles-set x in
      λ i. record { updated = t; first = g.first; len = n i; count = c i; marks = a i; handles = b i }

  few : (x : ℕ) → length (set (group_of g).places k (Some x)) ≤ 32
  few x = omega (arith, len_kept x, g_len_le g w)

  pub store_good : (x t : ℕ) → IsGroup (after x t)
  store_good x t = good_by (after x t) (store k x t (group_of g)) (stored x t) (few x)

  pub store_is : (x t : ℕ) → group_of (after x t) ≡ store k x t (group_of g)
  store_is x t = seen_by (after x t) (store k x t (group_of g)) (stored x t) (few x)

  pub fills : (x t : ℕ) → eqb (g.count + (1 - get_or g.marks k 0)) g.len ≡ full (store k x t (group_of g))
  fills x t = let c = count_is x in let n = len_kept x in λ i. eqb (c i) (n i)

-- ---- a full group's handles

pub full_handles : (g : Fragments) → IsGroup g → full (group_of g) ≡ true → take g.len g.handles ≡ in_places (group_of g).places
full_handles g w f =
    let ps = (group_of g).places in
    let e : filled ps ≡ length ps = eqb-true (filled ps) (length ps) f in
    let n : g.len ≡ length (map handle_of ps) = g_len g w ∙ sym (length-map ps handle_of) in
    let c : take (length (map handle_of ps)) (pad 32 0 (map handle_of ps)) ≡ map handle_of ps = take-pad 32 0 (map handle_of ps) (omega (arith, g_few g w, length-map ps handle_of)) in
    let h = g_handles g w in
    (λ i. take (n i) (h i)) ∙ c ∙ sym (full-in_places ps e)

-- ---- whether a handle is in a place

holds-place : (x m h : ℕ) → holds_place x (place_of m h) ≡ (eqb m 1 && eqb h x)
holds-place x m h = at (eqb m 1)
  where
    at : (t : Bool) → holds_place x (cond t (Some h) None) ≡ (t && eqb h x)
    at true = refl
    at false = refl

-- place by place, as a loop looks at them
pub holds_step : (x : ℕ) (ms hs : List ℕ) (i : ℕ) → length ms ≡ length hs → i < length ms
    → has (holds_place x) (drop i (places (length ms) ms hs)) ≡ (eqb (get_or ms i 0) 1 && eqb (get_or hs i 0) x || has (holds_place x) (drop (i + 1) (places (length ms) ms hs)))
unfolding has
holds_step x ms hs i e h =
    let ps = places (length ms) ms hs in
    let n : length ps ≡ length ms = length-places (length ms) ms hs (omega arith) (omega arith) in
    let p : get_or ps i None ≡ place_of (get_or ms i 0) (get_or hs i 0) = get_or-places (length ms) ms hs i h h (omega arith) in
    rw (drop_here ps i None (omega arith), p, holds-place) refl

pub holds_end : (x : ℕ) (ms hs : List ℕ) (i : ℕ) → length ms ≡ length hs → length ms ≤ i → has (holds_place x) (drop i (places (length ms) ms hs)) ≡ false
unfolding has
holds_end x ms hs i e h =
    let n : length (places (length ms) ms hs) ≡ length ms = length-places (length ms) ms hs (omega arith) (omega arith) in
    rw (drop_of_length-le (places (length ms) ms hs) {i = i} (omega arith)) refl

pub holds_here : (x : ℕ) (ms hs : List ℕ) (i : ℕ) → length ms ≡ length hs → i < length ms → get_or ms i 0 ≡ 1 → get_or hs i 0 ≡ x
    → has (holds_place x) (drop i (places (length ms) ms hs)) ≡ has (holds_place x) (places (length ms) ms hs) → true ≡ has (holds_place x) (places (length ms) ms hs)
holds_here x ms hs i e h p q inv =
    let s = holds_step x ms hs i e h in
    let a = eq-eqb (get_or ms i 0) 1 p in
    let b = eq-eqb (get_or hs i 0) x q in
    sym (sym inv ∙ s ∙ rw (a, b) refl)

pub holds_on : (x : ℕ) (ms hs : List ℕ) (i : ℕ) → length ms ≡ length hs → i < length ms → (get_or ms i 0 ≡ 1 → get_or hs i 0 ≡ x → ⊥)
    → has (holds_place x) (drop i (places (length ms) ms hs)) ≡ has (holds_place x) (places (length ms) ms hs)
    → has (holds_place x) (drop (i + 1) (places (length ms) ms hs)) ≡ has (holds_place x) (places (length ms) ms hs)
holds_on x ms hs i e h p inv = sym (ap (λ b. b || has (holds_place x) (drop (i + 1) (places (length ms) ms hs))) (at (eqb (get_or ms i 0) 1) (eqb (get_or hs i 0) x) refl refl)) ∙ sym (holds_step x ms hs i e h) ∙ inv
  where
    at : (a b : Bool) → eqb (get_or ms i 0) 1 ≡ a → eqb (get_or hs i 0) x ≡ b → (a && b) ≡ false
    at true true q r = absurd (p (eqb-true (get_or ms i 0) 1 q) (eqb-true (get_or hs i 0) x r))
    at true false q r = refl
    at false b q r = refl

-- of the places in use
pub places_used : (n : ℕ) (ms hs : List ℕ) → places (length (take n ms)) (take n ms) (take n hs) ≡ places n ms hs
unfolding places
places_used zero ms hs = refl
places_used (suc n) [] hs = refl
places_used (suc n) (m ∷ ms) [] = refl
places_used (suc n) (m ∷ ms) (h ∷ hs) = ap (λ (r : List (Option ℕ)). place_of m h ∷ r) (places_used n ms hs)

pub holds_first : (g : Fragments) (x : ℕ) → has (holds_place x) (places (length (take g.len g.marks)) (take g.len g.marks) (take g.len g.handles)) ≡ has (holds_place x) (group_of g).places
holds_first g x = rw (places_used g.len g.marks g.handles) refl
