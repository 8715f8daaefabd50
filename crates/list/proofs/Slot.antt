-- Laws on the place of an element that is found by a test, or of a new one after the last: what `find_by` and `put_by` do to an array.
-- Assumes nothing.
use mathlib.Core.Path.{◌≡◌, refl, sym, ap, ◌∙◌}
use mathlib.Core.List.{List, [], ◌∷◌, map}
use Prim.Native.Nat.{ℕ, zero, suc, ◌≤◌, ◌<◌}
use mathlib.Core.Bool.{Bool, true, false, cond, not, ◌||◌}
use native.Mathlib.Omega.{arith}
use lib.ListN.{length, get_or, set, take}
use Rattle.list.specs.Pad.{pad}
use Rattle.list.specs.Find.{has, find_by, put_by, slot_of}
use borrow.Author.Tests.{ltb-true, ltb-false, lt-ltb, le-leb, lt-leb, eq-eqb, ne_eqb}
use lib.Dec.{ltb, leb, eqb}
use Rattle.list.proofs.Pad.{never}

module _ {A : Type 0} where
  -- there is one exactly where its place is below the length
  pub slot_has : (f : A → Bool) (xs : List A) → has f xs ≡ true → slot_of f xs < length xs
  unfolding slot_of has
  slot_has f [] h = never (cc)
  slot_has f (x ∷ xs) h = at (f x) h (λ q. slot_has f xs q)
    where
      at : (t : Bool) → (t || has f xs) ≡ true → (has f xs ≡ true → slot_of f xs < length xs) → cond t 0 (suc (slot_of f xs)) < suc (length xs)
      at true q ih = omega arith
      at false q ih = let i : slot_of f xs < length xs = ih q in omega arith

  pub slot_absent : (f : A → Bool) (xs : List A) → has f xs ≡ false → slot_of f xs ≡ length xs
  unfolding slot_of has
  slot_absent f [] h = refl
  slot_absent f (x ∷ xs) h = at (f x) h (λ q. slot_absent f xs q)
    where
      at : (t : Bool) → (t || has f xs) ≡ false → (has f xs ≡ false → slot_of f xs ≡ length xs) → cond t 0 (suc (slot_of f xs)) ≡ suc (length xs)
      at true q ih = never (cc)
      at false q ih = ap suc (ih q)

  pub has_of_slot : (f : A → Bool) (xs : List A) → slot_of f xs < length xs → has f xs ≡ true
  has_of_slot f xs h = at (has f xs) refl
    where
      at : (t : Bool) → has f xs ≡ t → t ≡ true
      at true q = refl
      at false q = absurd (omega (arith, slot_absent f xs q))

  pub absent_of_slot : (f : A → Bool) (xs : List A) → length xs ≤ slot_of f xs → has f xs ≡ false
  absent_of_slot f xs h = at (has f xs) refl
    where
      at : (t : Bool) → has f xs ≡ t → t ≡ false
      at true q = absurd (omega (arith, slot_has f xs q))
      at false q = refl

  -- what is found stands at that place
  pub find_slot : (f : A → Bool) (z : A) (xs : List A) → find_by f z xs ≡ get_or xs (slot_of f xs) z
  unfolding slot_of find_by
  find_slot f z [] = refl
  find_slot f z (x ∷ xs) = at (f x) (find_slot f z xs)
    where
      at : (t : Bool) → find_by f z xs ≡ get_or xs (slot_of f xs) z → cond t x (find_by f z xs) ≡ get_or (x ∷ xs) (cond t 0 (suc (slot_of f xs))) z
      at true ih = refl
      at false ih = ih

  -- one more after the last where it is new
  pub length_put : (f : A → Bool) (e : A) (xs : List A) → length xs ≤ slot_of f xs → length (put_by f e xs) ≡ suc (length xs)
  unfolding slot_of put_by
  length_put f e [] h = refl
  length_put f e (x ∷ xs) h = at (f x) h (λ q. length_put f e xs q)
    where
      at : (t : Bool) → suc (length xs) ≤ cond t 0 (suc (slot_of f xs)) → (length xs ≤ slot_of f xs → length (put_by f e xs) ≡ suc (length xs)) → length (cond t (e ∷ xs) (x ∷ put_by f e xs)) ≡ suc (suc (length xs))
      at true q ih = absurd (omega arith)
      at false q ih = ap suc (ih (omega arith))

  pub length_put_old : (f : A → Bool) (e : A) (xs : List A) → slot_of f xs < length xs → length (put_by f e xs) ≡ length xs
  unfolding slot_of put_by
  length_put_old f e [] h = absurd (omega arith)
  length_put_old f e (x ∷ xs) h = at (f x) h (λ q. length_put_old f e xs q)
    where
      at : (t : Bool) → cond t 0 (suc (slot_of f xs)) < suc (length xs) → (slot_of f xs < length xs → length (put_by f e xs) ≡ length xs) → length (cond t (e ∷ xs) (x ∷ put_by f e xs)) ≡ suc (length xs)
      at true q ih = refl
      at false q ih = ap suc (ih (omega arith))

  -- it is there, or there is a place for one more: its place is within the room
  pub slot_room : (f : A → Bool) (xs : List A) (n m : ℕ) → suc m ≡ n → length xs ≤ n → has f xs || leb (length xs) m ≡ ltb (slot_of f xs) n
  slot_room f xs n m e l = at (has f xs) refl
    where
      more : (t : Bool) → has f xs ≡ false → ltb (slot_of f xs) n ≡ t → leb (length xs) m ≡ t
      more true q p = le-leb (length xs) m (omega (arith, slot_absent f xs q, ltb-true (slot_of f xs) n p))
      more false q p = lt-leb (length xs) m (omega (arith, slot_absent f xs q, ltb-false (slot_of f xs) n p))

      at : (t : Bool) → has f xs ≡ t → t || leb (length xs) m ≡ ltb (slot_of f xs) n
      at true q = sym (lt-ltb (slot_of f xs) n (omega (arith, slot_has f xs q)))
      at false q = more (ltb (slot_of f xs) n) q refl

  pub room_of : (f : A → Bool) (xs : List A) (m : ℕ) → slot_of f xs ≤ m → (has f xs || leb (length xs) m) ≡ true
  room_of f xs m h = at (has f xs) refl
    where
      at : (t : Bool) → has f xs ≡ t → (t || leb (length xs) m) ≡ true
      at true q = refl
      at false q = le-leb (length xs) m (omega (arith, slot_absent f xs q))

  -- the place after the last is the answer exactly where there is none
  pub own_place : (f : A → Bool) (xs : List A) (at : ℕ) → at ≡ slot_of f xs → eqb at (length xs) ≡ not (has f xs)
  own_place f xs at e = go (has f xs) refl
    where
      go : (t : Bool) → has f xs ≡ t → eqb at (length xs) ≡ not t
      go true q = ne_eqb at (length xs) (λ k. omega (arith, slot_has f xs q))
      go false q = eq-eqb at (length xs) (e ∙ slot_absent f xs q)

module _ {A B : Type 0} where
  -- the array of a list of A, each in its form g: reading at a place, and storing at the place of an element or after the last
  pub read_slot : (g : A → B) (n : ℕ) (z : B) (xs : List A) (i : ℕ) (d : B) (w : A) → i < length xs → length xs ≤ n → get_or (pad n z (map g xs)) i d ≡ g (get_or xs i w)
  unfolding pad
  read_slot g n z [] i d w h k = absurd (omega arith)
  read_slot g zero z (x ∷ xs) i d w h k = absurd (omega arith)
  read_slot g (suc n) z (x ∷ xs) zero d w h k = refl
  read_slot g (suc n) z (x ∷ xs) (suc i) d w h k = read_slot g n z xs i d w (omega arith) (omega arith)

  pub set_slot : (g : A → B) (n : ℕ) (z : B) (f : A → Bool) (e : A) (xs : List A) → slot_of f xs < n → length xs ≤ n → set (pad n z (map g xs)) (slot_of f xs) (g e) ≡ pad n z (map g (put_by f e xs))
  unfolding pad slot_of put_by
  set_slot g zero z f e xs h k = absurd (omega arith)
  set_slot g (suc n) z f e [] h k = refl
  set_slot g (suc n) z f e (x ∷ xs) h k = at (f x) h (λ q. set_slot g n z f e xs q (omega arith))
    where
      at : (t : Bool) → cond t 0 (suc (slot_of f xs)) < suc n → (slot_of f xs < n → set (pad n z (map g xs)) (slot_of f xs) (g e) ≡ pad n z (map g (put_by f e xs)))
          → set (g x ∷ pad n z (map g xs)) (cond t 0 (suc (slot_of f xs))) (g e) ≡ pad (suc n) z (map g (cond t (e ∷ xs) (x ∷ put_by f e xs)))
      at true q ih = refl
      at false q ih = ap (λ (l : List B). g x ∷ l) (ih (omega arith))

  -- looking in a list of forms is looking in the list
  pub slot_map : (g : A → B) (f : B → Bool) (h : A → Bool) (xs : List A) → ((x : A) → f (g x) ≡ h x) → slot_of f (map g xs) ≡ slot_of h xs
  unfolding slot_of
  slot_map g f h [] e = refl
  slot_map g f h (x ∷ xs) e = rw (e x, slot_map g f h xs e)

  -- past the list stands the filler
  pub read-spare : (g : A → B) (n : ℕ) (z : B) (xs : List A) (i : ℕ) (d : B) → length xs ≤ i → i < n → get_or (pad n z (map g xs)) i d ≡ z
  unfolding pad
  read-spare g zero z xs i d h k = absurd (omega arith)
  read-spare g (suc n) z [] zero d h k = refl
  read-spare g (suc n) z [] (suc i) d h k = read-spare g n z [] i d (omega arith) (omega arith)
  read-spare g (suc n) z (x ∷ xs) zero d h k = absurd (omega arith)
  read-spare g (suc n) z (x ∷ xs) (suc i) d h k = read-spare g n z xs i d (omega arith) (omega arith)

  pub take-pad-map : (g : A → B) (n : ℕ) (z : B) (xs : List A) → length xs ≤ n → take (length xs) (pad n z (map g xs)) ≡ map g xs
  unfolding pad
  take-pad-map g zero z [] k = refl
  take-pad-map g (suc n) z [] k = refl
  take-pad-map g zero z (x ∷ xs) k = absurd (omega arith)
  take-pad-map g (suc n) z (x ∷ xs) k = ap (λ (l : List B). g x ∷ l) (take-pad-map g n z xs (omega arith))
