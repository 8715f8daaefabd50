-- Laws on looking for an element by a test, putting one in its place and taking some out, for any element type.
-- Assumes nothing.
use mathlib.Core.Path.{◌≡◌, refl, ap}
use mathlib.Core.List.{List, [], ◌∷◌, ◌++◌, map}
use Prim.Native.Nat.{ℕ, zero, suc, ◌≤◌, zero-le, suc-le-suc}
use mathlib.Core.Bool.{Bool, true, false, ◌&&◌, cond, ◌||◌, and-true}
use native.Mathlib.Omega.{arith}
use borrow.Author.Tests.{leb-true, le-leb}
use lib.Dec.{leb}
use lib.ListN.{length, length-append}
use Rattle.list.specs.Pad.{remove_at, all_b}
use Rattle.list.specs.Find.{has, find_by, put_by, remove_first, keep_by}
use Rattle.list.proofs.Pad.{never, and_left, and_right}

module _ {A : Type 0} where
  -- what was put is found
  pub find_put : (f : A → Bool) (z e : A) (xs : List A) → f e ≡ true → find_by f z (put_by f e xs) ≡ e
  unfolding find_by put_by
  find_put f z e [] h = rw h
  find_put f z e (x ∷ xs) h = at (f x) refl (find_put f z e xs h)
    where
      at : (t : Bool) → f x ≡ t → find_by f z (put_by f e xs) ≡ e → find_by f z (cond t (e ∷ xs) (x ∷ put_by f e xs)) ≡ e
      at true p ih = rw h
      at false p ih = rw (p, ih)

  -- and nothing else has changed: a test that is false wherever f is true
  pub find_put_other : (f g : A → Bool) (z e : A) (xs : List A) → g e ≡ false → ((x : A) → f x ≡ true → g x ≡ false) → find_by g z (put_by f e xs) ≡ find_by g z xs
  unfolding find_by put_by
  find_put_other f g z e [] h k = rw h
  find_put_other f g z e (x ∷ xs) h k = at (f x) refl (find_put_other f g z e xs h k)
    where
      at : (t : Bool) → f x ≡ t → find_by g z (put_by f e xs) ≡ find_by g z xs → find_by g z (cond t (e ∷ xs) (x ∷ put_by f e xs)) ≡ find_by g z (x ∷ xs)
      at true p ih = rw (h, k x p)
      at false p ih = rw ih

  -- an element that is found passes the test
  pub find-passes : (f : A → Bool) (z : A) (xs : List A) → has f xs ≡ true → f (find_by f z xs) ≡ true
  unfolding find_by has
  find-passes f z [] h = never (cc)
  find-passes f z (x ∷ xs) h = at (f x) refl h (λ q. find-passes f z xs q)
    where
      at : (t : Bool) → f x ≡ t → (t || has f xs) ≡ true → (has f xs ≡ true → f (find_by f z xs) ≡ true) → f (cond t x (find_by f z xs)) ≡ true
      at true p q ih = p
      at false p q ih = ih q

  pub find_absent : (f : A → Bool) (z : A) (xs : List A) → has f xs ≡ false → find_by f z xs ≡ z
  unfolding find_by has
  find_absent f z [] h = refl
  find_absent f z (x ∷ xs) h = at (f x) h (λ q. find_absent f z xs q)
    where
      at : (t : Bool) → (t || has f xs) ≡ false → (has f xs ≡ false → find_by f z xs ≡ z) → cond t x (find_by f z xs) ≡ z
      at true q ih = never (cc)
      at false q ih = ih q

  -- the element found, put back, changes nothing
  pub put_found : (f : A → Bool) (z : A) (xs : List A) → has f xs ≡ true → put_by f (find_by f z xs) xs ≡ xs
  unfolding find_by has put_by
  put_found f z [] h = never (cc)
  put_found f z (x ∷ xs) h = at (f x) h (λ q. put_found f z xs q)
    where
      at : (t : Bool) → (t || has f xs) ≡ true → (has f xs ≡ true → put_by f (find_by f z xs) xs ≡ xs) → cond t (cond t x (find_by f z xs) ∷ xs) (x ∷ put_by f (cond t x (find_by f z xs)) xs) ≡ x ∷ xs
      at true q ih = refl
      at false q ih = rw (ih q)

  -- put twice, the second stays
  pub put_put : (f : A → Bool) (d e : A) (xs : List A) → f d ≡ true → put_by f e (put_by f d xs) ≡ put_by f e xs
  unfolding put_by
  put_put f d e [] h = rw h
  put_put f d e (x ∷ xs) h = at (f x) refl (put_put f d e xs h)
    where
      at : (t : Bool) → f x ≡ t → put_by f e (put_by f d xs) ≡ put_by f e xs → put_by f e (cond t (d ∷ xs) (x ∷ put_by f d xs)) ≡ cond t (e ∷ xs) (x ∷ put_by f e xs)
      at true p ih = rw h
      at false p ih = rw (p, ih)

  pub length_put_here : (f : A → Bool) (e : A) (xs : List A) → has f xs ≡ true → length (put_by f e xs) ≡ length xs
  unfolding has put_by
  length_put_here f e [] h = never (cc)
  length_put_here f e (x ∷ xs) h = at (f x) h (λ q. length_put_here f e xs q)
    where
      at : (t : Bool) → (t || has f xs) ≡ true → (has f xs ≡ true → length (put_by f e xs) ≡ length xs) → length (cond t (e ∷ xs) (x ∷ put_by f e xs)) ≡ suc (length xs)
      at true q ih = refl
      at false q ih = ap suc (ih q)

  pub put_new : (f : A → Bool) (e : A) (xs : List A) → has f xs ≡ false → put_by f e xs ≡ xs ++ (e ∷ [])
  unfolding has put_by
  put_new f e [] h = refl
  put_new f e (x ∷ xs) h = at (f x) h (λ q. put_new f e xs q)
    where
      at : (t : Bool) → (t || has f xs) ≡ false → (has f xs ≡ false → put_by f e xs ≡ xs ++ (e ∷ [])) → cond t (e ∷ xs) (x ∷ put_by f e xs) ≡ x ∷ (xs ++ (e ∷ []))
      at true q ih = never (cc)
      at false q ih = ap (λ (l : List A). x ∷ l) (ih q)

  -- where all pass a test, all do after one that passes it was put
  pub all_b_put : (g f : A → Bool) (e : A) (xs : List A) → all_b g xs ≡ true → all_b g (put_by f e xs) ≡ g e
  unfolding all_b put_by
  all_b_put g f e [] h = and-true (g e)
  all_b_put g f e (x ∷ xs) h = at (f x) (g x) refl h (λ q. all_b_put g f e xs q)
    where
      one : (t : Bool) → all_b g xs ≡ true → (t && all_b g xs) ≡ t
      one true q = q
      one false q = refl

      at : (t u : Bool) → g x ≡ u → (u && all_b g xs) ≡ true → (all_b g xs ≡ true → all_b g (put_by f e xs) ≡ g e) → all_b g (cond t (e ∷ xs) (x ∷ put_by f e xs)) ≡ g e
      at t false p q ih = never (cc)
      at true true p q ih = one (g e) q
      at false true p q ih = rw (p, ih q)

  -- two elements for none that look the same through g
  pub find_as : (B : Type 0) (g : A → B) (f : A → Bool) (z w : A) (xs : List A) → g z ≡ g w → g (find_by f z xs) ≡ g (find_by f w xs)
  unfolding find_by
  find_as B g f z w [] h = h
  find_as B g f z w (x ∷ xs) h = at (f x) (find_as B g f z w xs h)
    where
      at : (t : Bool) → g (find_by f z xs) ≡ g (find_by f w xs) → g (cond t x (find_by f z xs)) ≡ g (cond t x (find_by f w xs))
      at true ih = refl
      at false ih = ih

  -- in a mapped list, where neither the test nor g sees the map
  pub find-map : (B : Type 0) (g : A → B) (f : A → Bool) (m : A → A) (z : A) (xs : List A) → ((x : A) → f (m x) ≡ f x) → ((x : A) → g (m x) ≡ g x) → g (find_by f z (map m xs)) ≡ g (find_by f z xs)
  unfolding find_by
  find-map B g f m z [] h k = refl
  find-map B g f m z (x ∷ xs) h k = rw (h x) (at (f x) (find-map B g f m z xs h k))
    where
      at : (t : Bool) → g (find_by f z (map m xs)) ≡ g (find_by f z xs) → g (cond t (m x) (find_by f z (map m xs))) ≡ g (cond t x (find_by f z xs))
      at true ih = k x
      at false ih = ih

  -- the element found passes the test, as the one for none does
  pub find_key : (f : A → Bool) (z : A) (xs : List A) → f z ≡ true → f (find_by f z xs) ≡ true
  unfolding find_by
  find_key f z [] h = h
  find_key f z (x ∷ xs) h = at (f x) refl (find_key f z xs h)
    where
      at : (t : Bool) → f x ≡ t → f (find_by f z xs) ≡ true → f (cond t x (find_by f z xs)) ≡ true
      at true p ih = p
      at false p ih = ih

  -- ---- those that pass

  pub keep_append : (f : A → Bool) (xs ys : List A) → keep_by f (xs ++ ys) ≡ keep_by f xs ++ keep_by f ys
  unfolding keep_by
  keep_append f [] ys = refl
  keep_append f (x ∷ xs) ys = at (f x) (keep_append f xs ys)
    where
      at : (t : Bool) → keep_by f (xs ++ ys) ≡ keep_by f xs ++ keep_by f ys → cond t (x ∷ keep_by f (xs ++ ys)) (keep_by f (xs ++ ys)) ≡ cond t (x ∷ keep_by f xs) (keep_by f xs) ++ keep_by f ys
      at true ih = ap (λ (l : List A). x ∷ l) ih
      at false ih = ih

  pub keep-keep : (f g h : A → Bool) → ((x : A) → h x ≡ g x && f x) → (xs : List A) → keep_by f (keep_by g xs) ≡ keep_by h xs
  unfolding keep_by
  keep-keep f g h e [] = refl
  keep-keep f g h e (x ∷ xs) = rw e (at (g x) (keep-keep f g h e xs))
    where
      at : (b : Bool) → keep_by f (keep_by g xs) ≡ keep_by h xs → keep_by f (cond b (x ∷ keep_by g xs) (keep_by g xs)) ≡ cond (b && f x) (x ∷ keep_by h xs) (keep_by h xs)
      at true p = rw p
      at false p = p

  -- all that a test tells to stay do
  pub keep_all : (f : A → Bool) (xs : List A) → all_b f xs ≡ true → keep_by f xs ≡ xs
  unfolding keep_by all_b
  keep_all f [] q = refl
  keep_all f (x ∷ xs) q = rw (and_left (f x) (all_b f xs) q) (ap (λ (r : List A). x ∷ r) (keep_all f xs (and_right (f x) (all_b f xs) q)))

  -- none stays where another test passes all and shuts it out
  pub keep-none : (f g : A → Bool) → ((x : A) → g x ≡ true → f x ≡ false) → (xs : List A) → all_b g xs ≡ true → keep_by f xs ≡ []
  unfolding keep_by all_b
  keep-none f g k [] q = refl
  keep-none f g k (x ∷ xs) q = rw (k x (and_left (g x) (all_b g xs) q)) (keep-none f g k xs (and_right (g x) (all_b g xs) q))

  -- ---- no list gets longer, or by one at most

  pub length_remove : (g : A → Bool) (xs : List A) → length (remove_first g xs) ≤ length xs
  unfolding remove_first
  length_remove g [] = omega arith
  length_remove g (x ∷ xs) = at (g x) (length_remove g xs)
    where
      at : (t : Bool) → length (remove_first g xs) ≤ length xs → length (cond t xs (x ∷ remove_first g xs)) ≤ suc (length xs)
      at true ih = omega arith
      at false ih = omega arith

  -- one less where one is there
  pub length_remove_here : (g : A → Bool) (xs : List A) → has g xs ≡ true → suc (length (remove_first g xs)) ≡ length xs
  unfolding has remove_first
  length_remove_here g [] h = never (cc)
  length_remove_here g (x ∷ xs) h = at (g x) h (λ q. length_remove_here g xs q)
    where
      at : (t : Bool) → (t || has g xs) ≡ true → (has g xs ≡ true → suc (length (remove_first g xs)) ≡ length xs) → suc (length (cond t xs (x ∷ remove_first g xs))) ≡ suc (length xs)
      at true q ih = refl
      at false q ih = ap suc (ih q)

  pub length-keep : (g : A → Bool) (xs : List A) → length (keep_by g xs) ≤ length xs
  unfolding keep_by
  length-keep g [] = omega arith
  length-keep g (x ∷ xs) = at (g x) (length-keep g xs)
    where
      at : (t : Bool) → length (keep_by g xs) ≤ length xs → length (cond t (x ∷ keep_by g xs) (keep_by g xs)) ≤ suc (length xs)
      at true ih = omega arith
      at false ih = omega arith

  -- one more at most, and none where one is replaced
  pub length_put_le : (f : A → Bool) (e : A) (xs : List A) (n : ℕ) → length xs ≤ suc n → (has f xs ≡ false → length xs ≤ n) → length (put_by f e xs) ≤ suc n
  length_put_le f e xs n h k = at (has f xs) refl
    where
      at : (t : Bool) → has f xs ≡ t → length (put_by f e xs) ≤ suc n
      at true p = omega (arith, length_put_here f e xs p)
      at false p = omega (arith, ap length (put_new f e xs p), length-append xs (e ∷ []), k p)

  pub put_room : (f : A → Bool) (e : A) (xs : List A) (n m : ℕ) → suc m ≡ n → leb (length xs) n ≡ true → (has f xs || leb (length xs) m) ≡ true → leb (length (put_by f e xs)) n ≡ true
  put_room f e xs n m z h p = at (has f xs) refl p
    where
      at : (t : Bool) → has f xs ≡ t → (t || leb (length xs) m) ≡ true → leb (length (put_by f e xs)) n ≡ true
      at true q r = rw (length_put_here f e xs q) h
      at false q r =
          let l : length xs ≤ m = leb-true (length xs) m r in
          let k : length (put_by f e xs) ≤ n = omega (arith, ap length (put_new f e xs q), length-append xs (e ∷ [])) in
          le-leb _ _ k

  pub length-remove_at_le : (i : ℕ) (xs : List A) → length (remove_at i xs) ≤ length xs
  unfolding remove_at
  length-remove_at_le i [] = zero-le
  length-remove_at_le zero (x ∷ xs) = omega arith
  length-remove_at_le (suc i) (x ∷ xs) = suc-le-suc (length-remove_at_le i xs)
