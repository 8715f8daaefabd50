-- Laws on lists joined one after the other. Any element type. Assumes nothing.
use mathlib.Core.Path.{◌≡◌, refl, sym, ap, ◌∙◌}
use mathlib.Core.List.{List, [], ◌∷◌, ◌++◌, map, append-nil, append_assoc, map-append}
use Prim.Native.Nat.{ℕ, zero, suc, ◌+◌, ◌≤◌, ◌<◌, zero-le}
use mathlib.Core.Bool.{Bool, true, ◌||◌}
use native.Mathlib.Nat.{le_of_suc-le-suc, not-suc-le-zero}
use native.Mathlib.Omega.{arith}
use lib.ListN.{length, get_or, take, drop, length-append}
use Rattle.list.specs.Pad.{pad, all_b}
use Rattle.list.specs.Find.{has, joined}
use Rattle.list.proofs.Pad.{and_left, and_right}
use Rattle.list.proofs.Tests.{has-append}
use Rattle.list.proofs.Positions.{take_more}

module _ {A : Type 0} where
  pub joined-one : (ls : List (List A)) (l : List A) → joined (ls ++ l ∷ []) ≡ joined ls ++ l
  unfolding joined
  joined-one [] l = append-nil l
  joined-one (k ∷ ls) l = ap (λ (r : List A). k ++ r) (joined-one ls l) ∙ sym (append_assoc k (joined ls) l)

  pub joined-append : (xs ys : List (List A)) → joined (xs ++ ys) ≡ joined xs ++ joined ys
  unfolding joined
  joined-append [] ys = refl
  joined-append (x ∷ xs) ys = ap (λ (r : List A). x ++ r) (joined-append xs ys) ∙ sym (append_assoc x (joined xs) (joined ys))

  pub length-joined_tail : (b : List A) (bs : List (List A)) → length (joined bs) ≤ length (joined (b ∷ bs))
  unfolding joined
  length-joined_tail b bs = omega (arith, length-append b (joined bs))

  pub length-joined_head : (b : List A) (bs : List (List A)) → length b ≤ length (joined (b ∷ bs))
  unfolding joined
  length-joined_head b bs = omega (arith, length-append b (joined bs))

  -- the first list, and the others, where there may be none
  pub length-joined-front : (bs : List (List A)) → length (get_or bs 0 []) ≤ length (joined bs)
  length-joined-front [] = zero-le
  length-joined-front (b ∷ bs) = length-joined_head b bs

  pub length-joined-rest : (bs : List (List A)) → length (joined (drop 1 bs)) ≤ length (joined bs)
  length-joined-rest [] = omega arith
  length-joined-rest (b ∷ bs) = length-joined_tail b bs

  -- what is in one of the lists is in all of them joined
  pub has-joined : (f : A → Bool) (ls : List (List A)) → has (λ (l : List A). has f l) ls ≡ has f (joined ls)
  unfolding has joined
  has-joined f [] = refl
  has-joined f (l ∷ ls) = ap (λ (r : Bool). has f l || r) (has-joined f ls) ∙ sym (has-append f l (joined ls))

module _ {A B : Type 0} (g : A → List B) where
  -- ---- what g makes of each element, joined: one element more, and a part of them

  pub joined_more : (n : ℕ) (l : List A) (i : ℕ) (z : A) → i < n → n ≤ length l → joined (map g (take (i + 1) (take n l))) ≡ joined (map g (take i (take n l))) ++ g (get_or l i z)
  joined_more n l i z h k =
      let xs = take i (take n l) in
      let x = get_or l i z in
      ap (λ (r : List A). joined (map g r)) (take_more n l i z h k)
      ∙ ap (λ (r : List (List B)). joined r) (map-append g xs (x ∷ []))
      ∙ joined-one (map g xs) (g x)

  pub joined-part : (i : ℕ) (xs : List A) → length (joined (map g (take i xs))) ≤ length (joined (map g xs))
  unfolding joined
  joined-part zero xs = omega arith
  joined-part (suc i) [] = omega arith
  joined-part (suc i) (x ∷ xs) =
      omega (arith, joined-part i xs, length-append (g x) (joined (map g (take i xs))), length-append (g x) (joined (map g xs)))

-- nothing to join: of no element, and of the spare places of an array
module _ {A : Type 0} where
  pub joined-none : {B : Type 0} (g : A → List B) (f : A → Bool) → ((x : A) → f x ≡ true → g x ≡ []) → (xs : List A) → all_b f xs ≡ true → joined (map g xs) ≡ []
  unfolding joined all_b
  joined-none g f k [] q = refl
  joined-none g f k (x ∷ xs) q =
      let a = k x (and_left (f x) (all_b f xs) q) in
      let b = joined-none g f k xs (and_right (f x) (all_b f xs) q) in
      λ j. a j ++ b j

  pub joined-spare : {B : Type 0} (g : A → List B) (z : A) → g z ≡ [] → (n : ℕ) (xs : List A) → length xs ≤ n → joined (map g (pad n z xs)) ≡ joined (map g xs)
  unfolding joined pad
  joined-spare g z e zero [] h = refl
  joined-spare g z e zero (x ∷ xs) h = absurd (not-suc-le-zero h)
  joined-spare g z e (suc n) [] h = let q = joined-spare g z e n [] (omega arith) in λ j. e j ++ q j
  joined-spare {B = B} g z e (suc n) (x ∷ xs) h = ap (λ (r : List B). g x ++ r) (joined-spare g z e n xs (le_of_suc-le-suc h))
