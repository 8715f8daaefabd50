-- Bundles as lists cut from one list of handles.
use Rattle.std.proofs.Common.{◌≡◌, ltb, Bool, true, false, leb, ◌-◌, ℕ, suc, ◌+◌, ◌≤◌, ◌<◌, List, [], ◌∷◌, ◌++◌, length, take, drop, refl, arith, ap, sym, ◌∙◌, length-append, length-drop, length-take}
use lib.Seq.{take-append-le, drop-append-le, take-add, take_all}
use Rattle.list.specs.Find.{joined, sum}
use Rattle.std.proofs.lemmas.List.{length-map}
use Rattle.list.specs.Lists.{IsList}
use Rattle.list.proofs.Edits.{length_items}
use Rattle.packet.specs.declared.Packet.{Packet}
use Rattle.model.specs.Group.{handles}
use Rattle.std.proofs.lemmas.Bool.{leb-true, leb-false, le-leb, lt-leb, le-ltb, and_parts}
use Rattle.queues.specs.Made.{split_by, bundles_of, IsBundles, room}
use Rattle.queues.specs.declared.bundles.Bundles.{Bundles}

pub sum_more : (ns : List ℕ) (n : ℕ) → sum (ns ++ n ∷ []) ≡ sum ns + n
unfolding sum
sum_more [] n = omega arith
sum_more (m ∷ ns) n = omega (arith, sum_more ns n)

pub length-split_by : (ns hs : List ℕ) → length (split_by ns hs) ≡ length ns
unfolding split_by
length-split_by [] hs = refl
length-split_by (n ∷ ns) hs = ap suc (length-split_by ns (drop n hs))

pub joined-split_by : (ns hs : List ℕ) → joined (split_by ns hs) ≡ take (sum ns) hs
unfolding split_by joined sum
joined-split_by [] hs = refl
joined-split_by (n ∷ ns) hs = ap (λ (r : List ℕ). take n hs ++ r) (joined-split_by ns (drop n hs)) ∙ sym (take-add n (sum ns) hs)

pub split_more : (ns hs xs : List ℕ) (n : ℕ) → sum ns ≡ length hs → n ≡ length xs → split_by (ns ++ n ∷ []) (hs ++ xs) ≡ split_by ns hs ++ xs ∷ []
unfolding split_by sum
split_more [] [] xs n p q = ap (λ (k : ℕ). take k xs ∷ []) q ∙ ap (λ (l : List ℕ). l ∷ []) (take_all (length xs) xs (omega arith))
split_more [] (h ∷ hs) xs n p q = absurd (omega arith)
split_more (m ∷ ns) hs xs n p q =
    let le : m ≤ length hs = omega arith in
    rw (take-append-le m hs xs le, drop-append-le m hs xs le, split_more ns (drop m hs) xs n (omega (arith, length-drop m hs)) q) refl

module _ (b : Bundles) (w : IsBundles b) where
  pub len_is : length (bundles_of b) ≡ b.len
  len_is = length-split_by _ _ ∙ omega (arith, length-take b.len b.lengths, w.lengths.size, w.lengths.fits)

  pub total_is : length (joined (bundles_of b)) ≡ b.total
  total_is = ap length (joined-split_by (take b.len b.lengths) (take b.total b.handles)) ∙ omega (arith, w.whole, length-take (sum (take b.len b.lengths)) (take b.total b.handles), length-take b.total b.handles, w.handles.size, w.handles.fits)

  -- room for one more bundle
  pub room_then : (n : ℕ) → b.len < 16 → leb n (64 - b.total) ≡ room (bundles_of b) n
  room_then n h = rw (len_is, total_is, le-leb (suc b.len) 16 h) (at (leb (b.total + n) 64) refl)
    where
      at : (r : Bool) → leb (b.total + n) 64 ≡ r → leb n (64 - b.total) ≡ r
      at true q = le-leb _ _ (omega (arith, leb-true _ _ q, w.handles.fits))
      at false q = lt-leb _ _ (omega (arith, leb-false _ _ q, w.handles.fits))

  pub room_else : (n : ℕ) → 16 ≤ b.len → ltb b.len 16 ≡ room (bundles_of b) n
  room_else n h = rw (len_is, le-ltb b.len 16 h) refl

  pub room_has : (n : ℕ) → room (bundles_of b) n ≡ true → (b.len < 16) × (b.total + n ≤ 64)
  room_has n h =
      let p = and_parts (leb (suc (length (bundles_of b))) 16) (leb (length (joined (bundles_of b)) + n) 64) h in
      (omega (arith, leb-true _ _ p.0, len_is), omega (arith, leb-true _ _ p.1, total_is))

module _ (b : Bundles) (n m t : ℕ) (ls hs xs : List ℕ) (w : IsBundles b) (l : IsList 16 0 n ls) (h : IsList 64 0 t hs)
    (p : take n ls ≡ take b.len b.lengths ++ m ∷ []) (q : take t hs ≡ take b.total b.handles ++ xs) (k : m ≡ length xs) where
  total_more : t ≡ b.total + m
  total_more =
      omega (arith, ap length q, length-append (take b.total b.handles) xs, length-take t hs, length-take b.total b.handles, h.size, h.fits, w.handles.size, w.handles.fits)

  pub pushed : IsBundles (record { len = n; total = t; lengths = ls; handles = hs })
  pushed = record {
    lengths = l;
    handles = h;
    whole = ap sum p ∙ sum_more (take b.len b.lengths) m ∙ omega (arith, w.whole, total_more);
  }

  pub pushed_items : split_by (take n ls) (take t hs) ≡ bundles_of b ++ xs ∷ []
  pushed_items =
      let e : sum (take b.len b.lengths) ≡ length (take b.total b.handles) = omega (arith, w.whole, length-take b.total b.handles, w.handles.size, w.handles.fits) in
      rw (p, q) (split_more (take b.len b.lengths) (take b.total b.handles) xs m e k)

-- ---- handles added one by one

many : (ps : List Packet) → length (handles ps) ≡ length ps
many ps = length-map ps (λ p. p.handle)

pub too_many : (n len first i : ℕ) (xs ys : List ℕ) (ps : List Packet) → IsList n 0 len xs → IsList n 0 first ys
    → take len xs ++ handles (drop i ps) ≡ take first ys ++ handles ps → n ≤ len → i < length ps → n < first + length ps
too_many n len first i xs ys ps h g e full lt =
    omega (arith, ap length e, length-append (take len xs) (handles (drop i ps)), length-append (take first ys) (handles ps), many (drop i ps), many ps, length-drop i ps, length_items n len 0 xs h, length_items n first 0 ys g)

pub as_many : (n len first : ℕ) (xs ys : List ℕ) (ps : List Packet) → IsList n 0 len xs → IsList n 0 first ys
    → take len xs ≡ take first ys ++ handles ps → len ≡ first + length ps
as_many n len first xs ys ps h g e =
    omega (arith, ap length e, length-append (take first ys) (handles ps), many ps, length_items n len 0 xs h, length_items n first 0 ys g)

pub handles_many : (ps : List Packet) → length ps ≡ length (handles ps)
handles_many ps = sym (many ps)
