-- Truth values, and what all or some elements of a list pass. Any element type. Assumes nothing.
use mathlib.Core.Path.{◌≡◌, refl, sym, ap, ◌∙◌}
use mathlib.Core.List.{List, [], ◌∷◌, ◌++◌}
use Prim.Native.Nat.{ℕ, zero, suc, ◌-◌, ◌≤◌, ◌<◌, zero-le, suc-le-suc}
use mathlib.Core.Bool.{Bool, true, false, ◌&&◌, not, cond, ◌||◌, and-true, or-false, or_assoc}
use native.Mathlib.Omega.{arith}
use lib.ListN.{length, get_or, set, take, drop}
use Rattle.list.specs.Pad.{remove_at, all_b}
use Rattle.std.specs.declared.option.Option.{Option}
use Rattle.std.specs.declared.option.Option.TheVariants.{None, Some}
use Rattle.list.specs.Find.{position, has, find_by, put_by, remove_first, keep_by, swap_remove, swap_at, swap_remove_first}
use mathlib.Core.Logic.{◌⊎◌, inl, inr}
use borrow.Author.Tests.{leb-true, leb-false, eqb-true, eqb-false, eq-eqb, ne_eqb}
use lib.Dec.{leb, eqb}
use Rattle.list.proofs.Pad.{never, and_left, and_right}

-- ---- truth values

pub and_both : {a b : Bool} → a ≡ true → b ≡ true → a && b ≡ true
and_both {a} {b} p q = rw (p, q)

-- the parts of a test of several
pub and_3 : (a b c : Bool) → a && b && c ≡ true → (a ≡ true) × (b ≡ true) × (c ≡ true)
and_3 a b c h = let l = and_left (a && b) c h in (and_left a b l, and_right a b l, and_right (a && b) c h)

pub and_4 : (a b c d : Bool) → a && b && c && d ≡ true → (a ≡ true) × (b ≡ true) × (c ≡ true) × (d ≡ true)
and_4 a b c d h = let l = and_3 a b c (and_left (a && b && c) d h) in (l.0, l.1, l.2, and_right (a && b && c) d h)

pub and_5 : (a b c d e : Bool) → a && b && c && d && e ≡ true → (a ≡ true) × (b ≡ true) × (c ≡ true) × (d ≡ true) × (e ≡ true)
and_5 a b c d e h = let l = and_4 a b c d (and_left (a && b && c && d) e h) in (l.0, l.1, l.2, l.3, and_right (a && b && c && d) e h)

pub and_6 : (a b c d e f : Bool) → a && b && c && d && e && f ≡ true → (a ≡ true) × (b ≡ true) × (c ≡ true) × (d ≡ true) × (e ≡ true) × (f ≡ true)
and_6 a b c d e f h = let l = and_5 a b c d e (and_left (a && b && c && d && e) f h) in (l.0, l.1, l.2, l.3, l.4, and_right (a && b && c && d && e) f h)

pub and_7 : (a b c d e f g : Bool) → a && b && c && d && e && f && g ≡ true → (a ≡ true) × (b ≡ true) × (c ≡ true) × (d ≡ true) × (e ≡ true) × (f ≡ true) × (g ≡ true)
and_7 a b c d e f g h = let l = and_6 a b c d e f (and_left (a && b && c && d && e && f) g h) in (l.0, l.1, l.2, l.3, l.4, l.5, and_right (a && b && c && d && e && f) g h)

pub and_8 : (a b c d e f g i : Bool) → a && b && c && d && e && f && g && i ≡ true → (a ≡ true) × (b ≡ true) × (c ≡ true) × (d ≡ true) × (e ≡ true) × (f ≡ true) × (g ≡ true) × (i ≡ true)
and_8 a b c d e f g i h = let l = and_7 a b c d e f g (and_left (a && b && c && d && e && f && g) i h) in (l.0, l.1, l.2, l.3, l.4, l.5, l.6, and_right (a && b && c && d && e && f && g) i h)

pub or_left : {a : Bool} (b : Bool) → a ≡ true → a || b ≡ true
or_left b p = rw p

-- two tests that hold together
pub leb_same : (a b c d : ℕ) → (a ≤ b → c ≤ d) → (c ≤ d → a ≤ b) → leb a b ≡ leb c d
leb_same a b c d f g = at (leb a b) (leb c d) refl refl
  where
    at : (t u : Bool) → leb a b ≡ t → leb c d ≡ u → leb a b ≡ leb c d
    at true true p q = p ∙ sym q
    at true false p q = let h = f (leb-true a b p) in let k = leb-false c d q in absurd (omega arith)
    at false true p q = let h = g (leb-true c d q) in let k = leb-false a b p in absurd (omega arith)
    at false false p q = p ∙ sym q

-- two numbers, either way round
pub eqb_turn : (a b : ℕ) → eqb a b ≡ eqb b a
eqb_turn a b = at (eqb a b) refl
  where
    at : (t : Bool) → eqb a b ≡ t → eqb a b ≡ eqb b a
    at true p = p ∙ sym (eq-eqb b a (sym (eqb-true a b p)))
    at false p = p ∙ sym (ne_eqb b a (λ q. eqb-false a b p (sym q)))

-- a truth value by its two cases
pub either_way : (b : Bool) → (b ≡ true) ⊎ (b ≡ false)
either_way true = inl refl
either_way false = inr refl

-- one of two tests, without a branch
pub pick_is : (u a b : Bool) → (u && a || not u && b) ≡ cond u a b
pick_is true a b = or-false a
pick_is false a b = refl

module _ {A : Type 0} where
  -- ---- all elements pass

  pub all_b_head : (f : A → Bool) (x : A) (xs : List A) → all_b f (x ∷ xs) ≡ true → f x ≡ true
  unfolding all_b
  all_b_head f x xs h = and_left (f x) (all_b f xs) h

  pub all_b_tail : (f : A → Bool) (x : A) (xs : List A) → all_b f (x ∷ xs) ≡ true → all_b f xs ≡ true
  unfolding all_b
  all_b_tail f x xs h = and_right (f x) (all_b f xs) h

  pub all_b-none : (f : A → Bool) → all_b f [] ≡ true
  unfolding all_b
  all_b-none f = refl

  pub all_b-cons : (f : A → Bool) (x : A) (xs : List A) → f x ≡ true → all_b f xs ≡ true → all_b f (x ∷ xs) ≡ true
  unfolding all_b
  all_b-cons f x xs p q = and_both p q

  -- where the one test implies the other
  pub all_b_weaken : (f g : A → Bool) → ((x : A) → f x ≡ true → g x ≡ true) → (xs : List A) → all_b f xs ≡ true → all_b g xs ≡ true
  all_b_weaken f g w [] h = all_b-none g
  all_b_weaken f g w (x ∷ xs) h = all_b-cons g x xs (w x (all_b_head f x xs h)) (all_b_weaken f g w xs (all_b_tail f x xs h))

  pub all_b_so_two : (f g h : A → Bool) → ((x : A) → f x ≡ true → g x ≡ true → h x ≡ true) → (l : List A) → all_b f l ≡ true → all_b g l ≡ true → all_b h l ≡ true
  unfolding all_b
  all_b_so_two f g h w [] p q = refl
  all_b_so_two f g h w (x ∷ l) p q =
      let a = w x (and_left (f x) (all_b f l) p) (and_left (g x) (all_b g l) q) in
      let b = all_b_so_two f g h w l (and_right (f x) (all_b f l) p) (and_right (g x) (all_b g l) q) in
      λ i. a i && b i

  -- a test of two parts
  pub all_b_both : (f g h : A → Bool) → ((x : A) → h x ≡ f x && g x) → (l : List A) → all_b h l ≡ all_b f l && all_b g l
  unfolding all_b
  all_b_both f g h e [] = refl
  all_b_both f g h e (x ∷ l) = rw (e, all_b_both f g h e l) (swap (f x) (g x) (all_b f l) (all_b g l))
    where
      swap : (a b c d : Bool) → a && b && (c && d) ≡ a && c && (b && d)
      swap false b c d = refl
      swap true false true d = refl
      swap true false false d = refl
      swap true true c d = refl

  pub all_b-append : (f : A → Bool) (xs ys : List A) → all_b f (xs ++ ys) ≡ (all_b f xs && all_b f ys)
  unfolding all_b
  all_b-append f [] ys = refl
  all_b-append f (x ∷ xs) ys = at (f x) (all_b-append f xs ys)
    where
      at : (t : Bool) → all_b f (xs ++ ys) ≡ (all_b f xs && all_b f ys) → (t && all_b f (xs ++ ys)) ≡ ((t && all_b f xs) && all_b f ys)
      at true ih = ih
      at false ih = refl

  pub all_b_joins : (f : A → Bool) (xs ys : List A) → all_b f xs ≡ true → all_b f ys ≡ true → all_b f (xs ++ ys) ≡ true
  all_b_joins f xs ys h k = all_b-append f xs ys ∙ and_both h k

  pub all_b_snoc : (f : A → Bool) (xs : List A) (x : A) → all_b f xs ≡ true → f x ≡ true → all_b f (xs ++ (x ∷ [])) ≡ true
  all_b_snoc f xs x h k = all_b_joins f xs (x ∷ []) h (all_b-cons f x [] k (all_b-none f))

  pub all_b-one : (f : A → Bool) (xs : List A) (x : A) → all_b f xs ≡ true → all_b f (xs ++ x ∷ []) ≡ f x
  unfolding all_b
  all_b-one f [] x p = and-true (f x)
  all_b-one f (y ∷ xs) x p = rw (and_left (f y) (all_b f xs) p, all_b-one f xs x (and_right (f y) (all_b f xs) p))

  -- of a list's end
  pub all_b-behind : (f : A → Bool) (xs ys : List A) → all_b f (xs ++ ys) ≡ true → all_b f ys ≡ true
  all_b-behind f [] ys h = h
  all_b-behind f (x ∷ xs) ys h = all_b-behind f xs ys (all_b_tail f x (xs ++ ys) h)

  pub all_b-take : (f : A → Bool) (n : ℕ) (xs : List A) → all_b f xs ≡ true → all_b f (take n xs) ≡ true
  all_b-take f zero xs h = all_b-none f
  all_b-take f (suc n) [] h = all_b-none f
  all_b-take f (suc n) (x ∷ xs) h = all_b-cons f x (take n xs) (all_b_head f x xs h) (all_b-take f n xs (all_b_tail f x xs h))

  pub all_b-drop : (f : A → Bool) (n : ℕ) (xs : List A) → all_b f xs ≡ true → all_b f (drop n xs) ≡ true
  all_b-drop f zero xs h = h
  all_b-drop f (suc n) [] h = h
  all_b-drop f (suc n) (x ∷ xs) h = all_b-drop f n xs (all_b_tail f x xs h)

  -- with one more in between
  pub all_b_parts : (f : A → Bool) (n : ℕ) (x : A) (xs : List A) → f x ≡ true → all_b f xs ≡ true → all_b f (take n xs ++ x ∷ drop n xs) ≡ true
  all_b_parts f n x xs p h = all_b_joins f (take n xs) (x ∷ drop n xs) (all_b-take f n xs h) (all_b-cons f x (drop n xs) p (all_b-drop f n xs h))

  pub all_b-get_or : (f : A → Bool) (z : A) (xs : List A) (i : ℕ) → i < length xs → all_b f xs ≡ true → f (get_or xs i z) ≡ true
  all_b-get_or f z [] i l h = absurd (omega arith)
  all_b-get_or f z (x ∷ xs) zero l h = all_b_head f x xs h
  all_b-get_or f z (x ∷ xs) (suc i) l h = all_b-get_or f z xs i (omega arith) (all_b_tail f x xs h)

  pub all_b-all : (f : A → Bool) (z : A) (xs : List A) → ((i : ℕ) → i < length xs → f (get_or xs i z) ≡ true) → all_b f xs ≡ true
  unfolding all_b
  all_b-all f z [] h = refl
  all_b-all f z (x ∷ xs) h = rw (h 0 (suc-le-suc zero-le), all_b-all f z xs (λ i m. h (suc i) (suc-le-suc m)))

  pub all_b-set : (f : A → Bool) (xs : List A) (i : ℕ) (e : A) → f e ≡ true → all_b f xs ≡ true → all_b f (set xs i e) ≡ true
  all_b-set f [] i e p h = h
  all_b-set f (x ∷ xs) zero e p h = all_b-cons f e xs p (all_b_tail f x xs h)
  all_b-set f (x ∷ xs) (suc i) e p h = all_b-cons f x (set xs i e) (all_b_head f x xs h) (all_b-set f xs i e p (all_b_tail f x xs h))

  pub all_b-remove_at : (f : A → Bool) (i : ℕ) (xs : List A) → all_b f xs ≡ true → all_b f (remove_at i xs) ≡ true
  unfolding all_b remove_at
  all_b-remove_at f i [] p = refl
  all_b-remove_at f zero (x ∷ xs) p = and_right (f x) (all_b f xs) p
  all_b-remove_at f (suc i) (x ∷ xs) p = rw (and_left (f x) (all_b f xs) p, all_b-remove_at f i xs (and_right (f x) (all_b f xs) p))

  pub all_b_remove : (f g : A → Bool) (xs : List A) → all_b f xs ≡ true → all_b f (remove_first g xs) ≡ true
  unfolding remove_first
  all_b_remove f g [] h = h
  all_b_remove f g (x ∷ xs) h = at (g x) (all_b_remove f g xs (all_b_tail f x xs h))
    where
      at : (t : Bool) → all_b f (remove_first g xs) ≡ true → all_b f (cond t xs (x ∷ remove_first g xs)) ≡ true
      at true ih = all_b_tail f x xs h
      at false ih = all_b-cons f x (remove_first g xs) (all_b_head f x xs h) ih

  pub all_b-keep : (f g : A → Bool) (xs : List A) → all_b f xs ≡ true → all_b f (keep_by g xs) ≡ true
  unfolding keep_by
  all_b-keep f g [] h = h
  all_b-keep f g (x ∷ xs) h = at (g x) (all_b-keep f g xs (all_b_tail f x xs h))
    where
      at : (t : Bool) → all_b f (keep_by g xs) ≡ true → all_b f (cond t (x ∷ keep_by g xs) (keep_by g xs)) ≡ true
      at true ih = all_b-cons f x (keep_by g xs) (all_b_head f x xs h) ih
      at false ih = ih

  -- the element found, or the one for none
  pub all_b-find : (f g : A → Bool) (z : A) (xs : List A) → f z ≡ true → all_b f xs ≡ true → f (find_by g z xs) ≡ true
  unfolding find_by
  all_b-find f g z [] p h = p
  all_b-find f g z (x ∷ xs) p h = at (g x) (all_b-find f g z xs p (all_b_tail f x xs h))
    where
      at : (t : Bool) → f (find_by g z xs) ≡ true → f (cond t x (find_by g z xs)) ≡ true
      at true ih = all_b_head f x xs h
      at false ih = ih

  pub all_b-found : (f g : A → Bool) (z : A) (xs : List A) → all_b f xs ≡ true → has g xs ≡ true → f (find_by g z xs) ≡ true
  unfolding has find_by
  all_b-found f g z [] h k = never k
  all_b-found f g z (x ∷ xs) h k = at (g x) k (λ q. all_b-found f g z xs (all_b_tail f x xs h) q)
    where
      at : (t : Bool) → t || has g xs ≡ true → (has g xs ≡ true → f (find_by g z xs) ≡ true) → f (cond t x (find_by g z xs)) ≡ true
      at true q ih = all_b_head f x xs h
      at false q ih = ih q

  pub all_b_swap_at : (f : A → Bool) (z : A) (i : ℕ) (xs : List A) → all_b f xs ≡ true → all_b f (swap_remove z i xs) ≡ true
  unfolding swap_remove
  all_b_swap_at f z i [] h = all_b-take f 0 [] h
  all_b_swap_at f z i (x ∷ xs) h =
      let l : length (x ∷ xs) - 1 < length (x ∷ xs) = omega arith in
      all_b-take f (length (x ∷ xs) - 1) (set (x ∷ xs) i (get_or (x ∷ xs) (length (x ∷ xs) - 1) z))
      (all_b-set f (x ∷ xs) i (get_or (x ∷ xs) (length (x ∷ xs) - 1) z) (all_b-get_or f z (x ∷ xs) (length (x ∷ xs) - 1) l h) h)

  pub all_b_swap : (f g : A → Bool) (z : A) (xs : List A) → all_b f xs ≡ true → all_b f (swap_remove_first z g xs) ≡ true
  all_b_swap f g z xs h = at (position g xs)
    where
      at : (o : Option ℕ) → all_b f (swap_at z o xs) ≡ true
      at None = h
      at (Some i) = all_b_swap_at f z i xs h

  -- ---- one of the elements passes

  pub has-append : (f : A → Bool) (xs ys : List A) → has f (xs ++ ys) ≡ (has f xs || has f ys)
  unfolding has
  has-append f [] ys = refl
  has-append f (x ∷ xs) ys = ap (λ (r : Bool). f x || r) (has-append f xs ys) ∙ sym (or_assoc (f x) (has f xs) (has f ys))

  -- tests that agree on every element
  pub has_same : (f g : A → Bool) → ((x : A) → f x ≡ g x) → (xs : List A) → has f xs ≡ has g xs
  unfolding has
  has_same f g w [] = refl
  has_same f g w (x ∷ xs) = rw (w x, has_same f g w xs)

  pub has_remove : (f g : A → Bool) (xs : List A) → has f xs ≡ false → has f (remove_first g xs) ≡ false
  unfolding has remove_first
  has_remove f g [] h = h
  has_remove f g (x ∷ xs) h = at (f x) refl (g x) h (λ q. has_remove f g xs q)
    where
      at : (t : Bool) → f x ≡ t → (u : Bool) → t || has f xs ≡ false → (has f xs ≡ false → has f (remove_first g xs) ≡ false) → has f (cond u xs (x ∷ remove_first g xs)) ≡ false
      at true p u q ih = never (sym q)
      at false p true q ih = q
      at false p false q ih = rw p (ih q)

  pub has-none_put : (f g : A → Bool) (e : A) (xs : List A) → has f xs ≡ false → f e ≡ false → has f (put_by g e xs) ≡ false
  unfolding has put_by
  has-none_put f g e [] h k = rw k
  has-none_put f g e (x ∷ xs) h k = at (f x) refl (g x) h (λ q. has-none_put f g e xs q k)
    where
      at : (t : Bool) → f x ≡ t → (u : Bool) → t || has f xs ≡ false → (has f xs ≡ false → has f (put_by g e xs) ≡ false) → has f (cond u (e ∷ xs) (x ∷ put_by g e xs)) ≡ false
      at true p u q ih = never (sym q)
      at false p true q ih = rw k q
      at false p false q ih = rw p (ih q)
