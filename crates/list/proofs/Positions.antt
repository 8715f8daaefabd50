-- Laws on where the first element stands that passes a test. Any element type. Assumes nothing.
use mathlib.Core.Path.{◌≡◌, refl, sym, ap, ◌∙◌}
use mathlib.Core.List.{List, [], ◌∷◌, ◌++◌}
use Prim.Native.Nat.{ℕ, suc, ◌+◌, ◌≤◌, ◌<◌, zero-le, suc-le-suc}
use mathlib.Core.Bool.{Bool, true, false, cond, ◌||◌}
use native.Mathlib.Nat.{not-suc-le-zero, zero-add}
use native.Mathlib.Omega.{arith}
use native.Mathlib.Numerals.{add-one}
use lib.ListN.{length, get_or, set, take, drop, drop_of_length-le, length-take}
use lib.Seq.{drop-cons, take-suc, get_or-take}
use Rattle.list.proofs.Pad.{never}
use Rattle.list.specs.Pad.{remove_at}
use Rattle.std.specs.declared.option.Option.{Option}
use Rattle.std.specs.declared.option.Option.TheVariants.{None, Some}
use Rattle.list.specs.Find.{later, position, has, find_by, put_by, remove_first, slot_of}

-- a position in the part of a list from i on, as one in the list
abbrev pub shifted : ℕ → Option ℕ → Option ℕ
shifted i None = None
shifted i (Some k) = Some (i + k)

pub shifted_later : (i : ℕ) (o : Option ℕ) → shifted i (later o) ≡ shifted (i + 1) o
shifted_later i None = refl
shifted_later i (Some k) = let e : i + suc k ≡ i + 1 + k = omega arith in ap (λ (n : ℕ). Some n) e

now_some : (o : Option ℕ) (i : ℕ) → later o ≡ Some i → (k : ℕ) × (o ≡ Some k) × (suc k ≡ i)
now_some None i p = never (cc)
now_some (Some k) i p = (k, refl, cc)

module _ {A : Type 0} where
  -- ---- the places of an array, and its first n, element by element

  pub drop_here : (l : List A) (i : ℕ) (z : A) → i < length l → drop i l ≡ get_or l i z ∷ drop (i + 1) l
  drop_here l i z h = drop-cons l i z h ∙ ap (λ (k : ℕ). get_or l i z ∷ drop k l) (sym (add-one i))

  pub drop_more : (n : ℕ) (l : List A) (i : ℕ) (z : A) → i < n → n ≤ length l → drop i (take n l) ≡ get_or l i z ∷ drop (i + 1) (take n l)
  drop_more n l i z h k =
      drop-cons (take n l) i z (omega (arith, length-take n l)) ∙ rw (get_or-take n l i z h, add-one)

  pub take_more : (n : ℕ) (l : List A) (i : ℕ) (z : A) → i < n → n ≤ length l → take (i + 1) (take n l) ≡ take i (take n l) ++ get_or l i z ∷ []
  take_more n l i z h k =
      ap (λ (m : ℕ). take m (take n l)) (add-one i) ∙ take-suc (take n l) i z (omega (arith, length-take n l)) ∙ rw (get_or-take n l i z h)

  pub take_none : (n : ℕ) (l : List A) → n ≡ 0 → take n l ≡ []
  take_none n l e = rw e

  -- ---- where one stands, it is found, and put and removed there

  pub record Stands (f : A → Bool) (xs : List A) (i : ℕ) : Type 0 where
    pub inside : i < length xs
    pub there : has f xs ≡ true
    pub passes : (z : A) → f (get_or xs i z) ≡ true
    pub is_found : (y z : A) → find_by f y xs ≡ get_or xs i z
    pub is_put : (e : A) → put_by f e xs ≡ set xs i e
    pub is_removed : remove_first f xs ≡ remove_at i xs

  pub stands : (f : A → Bool) (xs : List A) (i : ℕ) → position f xs ≡ Some i → Stands f xs i
  unfolding position has find_by put_by remove_first remove_at
  stands f [] i p = never (cc)
  stands f (x ∷ xs) i p = at (f x) refl p (λ k q. stands f xs k q)
    where
      on : (k : ℕ) → f x ≡ false → Stands f xs k → Stands f (x ∷ xs) (suc k)
      on k q s =
          record {
            inside = suc-le-suc s.inside;
            there = rw q s.there;
            passes = λ z. s.passes z;
            is_found = λ y z. rw q (s.is_found y z);
            is_put = λ e. rw q (ap (λ (r : List A). x ∷ r) (s.is_put e));
            is_removed = rw q (ap (λ (r : List A). x ∷ r) s.is_removed);
          }

      at : (t : Bool) → f x ≡ t → cond t (Some 0) (later (position f xs)) ≡ Some i → ((k : ℕ) → position f xs ≡ Some k → Stands f xs k) → Stands f (x ∷ xs) i
      at true q r ih =
          let e : 0 ≡ i = cc in
          rw (← e) (record { inside = suc-le-suc zero-le; there = rw q; passes = λ z. q; is_found = λ y z. rw q; is_put = λ e. rw q; is_removed = rw q })
      at false q r ih =
          let m = now_some (position f xs) i r in
          rw (← m.2) (on m.0 q (ih m.0 m.1))

  pub none_stands : (f : A → Bool) (xs : List A) → position f xs ≡ None → has f xs ≡ false
  unfolding position has
  none_stands f [] p = refl
  none_stands f (x ∷ xs) p = at (f x) p (λ q. none_stands f xs q)
    where
      off : (o : Option ℕ) → later o ≡ None → o ≡ None
      off None q = refl
      off (Some k) q = never (cc)

      at : (t : Bool) → cond t (Some 0) (later (position f xs)) ≡ None → (position f xs ≡ None → has f xs ≡ false) → (t || has f xs) ≡ false
      at true q ih = never (cc)
      at false q ih = ih (off (position f xs) q)

  -- ---- a search from the front, at place i: hit, and one place on

  -- a search from the front, at place i: hit, and one place on
  pub position_hit : (f : A → Bool) (z : A) (xs : List A) (i : ℕ) → i < length xs → f (get_or xs i z) ≡ true → shifted i (position f (drop i xs)) ≡ Some i
  unfolding position
  position_hit f z xs i h q = let e : i + 0 ≡ i = omega arith in rw (drop-cons xs i z h, q) (ap (λ (n : ℕ). Some n) e)

  pub position_miss : (f : A → Bool) (z : A) (xs : List A) (i : ℕ) → i < length xs → f (get_or xs i z) ≡ false → shifted i (position f (drop i xs)) ≡ shifted (i + 1) (position f (drop (i + 1) xs))
  unfolding position
  position_miss f z xs i h q = rw (drop_here xs i z h, q) (shifted_later i (position f (drop (i + 1) xs)))

  pub position_end : (f : A → Bool) (xs : List A) (i : ℕ) → length xs ≤ i → shifted i (position f (drop i xs)) ≡ None
  unfolding position
  position_end f xs i h = rw (drop_of_length-le xs {i = i} h)

  pub position-start : (f : A → Bool) (xs : List A) → shifted 0 (position f xs) ≡ position f xs
  position-start f xs = at (position f xs)
    where
      at : (o : Option ℕ) → shifted 0 o ≡ o
      at None = refl
      at (Some k) = ap (λ (n : ℕ). Some n) (zero-add k)

  -- ---- the place by `slot_of`

  pub slot_cons : (f : A → Bool) (x : A) (xs : List A) → slot_of f (x ∷ xs) ≡ cond (f x) 0 (suc (slot_of f xs))
  unfolding slot_of
  slot_cons f x xs = refl

  pub slot_nil : (f : A → Bool) → slot_of f [] ≡ 0
  unfolding slot_of
  slot_nil f = refl

  -- the element there goes, and none where there is none
  pub remove_slot : (f : A → Bool) (xs : List A) → remove_at (slot_of f xs) xs ≡ remove_first f xs
  unfolding remove_at remove_first
  remove_slot f [] = refl
  remove_slot f (x ∷ xs) = rw (slot_cons f x xs) (at (f x) (remove_slot f xs))
    where
      at : (b : Bool) → remove_at (slot_of f xs) xs ≡ remove_first f xs → remove_at (cond b 0 (suc (slot_of f xs))) (x ∷ xs) ≡ cond b xs (x ∷ remove_first f xs)
      at true h = refl
      at false h = ap (λ (r : List A). x ∷ r) h

  pub position_slot : (f : A → Bool) (xs : List A) → slot_of f xs < length xs → position f xs ≡ Some (slot_of f xs)
  unfolding position
  position_slot f [] h = absurd (not-suc-le-zero h)
  position_slot f (x ∷ xs) h = at (f x) (slot_cons f x xs) (position_slot f xs)
    where
      at : (b : Bool) → slot_of f (x ∷ xs) ≡ cond b 0 (suc (slot_of f xs)) → (slot_of f xs < length xs → position f xs ≡ Some (slot_of f xs)) → cond b (Some 0) (later (position f xs)) ≡ Some (slot_of f (x ∷ xs))
      at true q r = rw q
      at false q r = rw (q, r (omega arith))

  pub position-none : (f : A → Bool) (xs : List A) → length xs ≤ slot_of f xs → position f xs ≡ None
  unfolding position
  position-none f [] h = refl
  position-none f (x ∷ xs) h = at (f x) (slot_cons f x xs) (position-none f xs)
    where
      at : (b : Bool) → slot_of f (x ∷ xs) ≡ cond b 0 (suc (slot_of f xs)) → (length xs ≤ slot_of f xs → position f xs ≡ None) → cond b (Some 0) (later (position f xs)) ≡ None
      at true q r = absurd (omega arith)
      at false q r = rw (r (omega arith))
