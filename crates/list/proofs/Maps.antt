-- Laws on what a function makes of a list, element by element. Any element types. Assumes nothing.
use mathlib.Core.Path.{◌≡◌, refl, sym, ap, ◌∙◌}
use mathlib.Core.List.{List, [], ◌∷◌, ◌++◌, map}
use Prim.Native.Nat.{ℕ, zero, suc, ◌<◌}
use mathlib.Core.Bool.{Bool, true, ◌&&◌, ◌||◌}
use native.Mathlib.Omega.{arith}
use lib.ListN.{length, get_or, set, take, replicate}
use Rattle.list.specs.Pad.{pad, remove_at, all_b}
use Rattle.list.specs.Find.{has}
use Rattle.list.proofs.Pad.{never, and_left, and_right}
use Rattle.list.proofs.Tests.{all_b_weaken}

module _ {A B : Type 0} where
  pub has-map : (f : B → Bool) (g : A → B) (xs : List A) → has f (map g xs) ≡ has (λ (x : A). f (g x)) xs
  unfolding has
  has-map f g [] = refl
  has-map f g (x ∷ xs) = ap (λ (r : Bool). f (g x) || r) (has-map f g xs)

  pub all_b-map : (f : B → Bool) (g : A → B) (xs : List A) → all_b f (map g xs) ≡ all_b (λ (x : A). f (g x)) xs
  unfolding all_b
  all_b-map f g [] = refl
  all_b-map f g (x ∷ xs) = ap (λ (r : Bool). f (g x) && r) (all_b-map f g xs)

  -- and a test of what h makes that follows from one of the elements
  pub all_b-map_so : (f : A → Bool) (g : B → Bool) (h : A → B) → ((x : A) → f x ≡ true → g (h x) ≡ true) → (xs : List A) → all_b f xs ≡ true → all_b g (map h xs) ≡ true
  all_b-map_so f g h w xs p = all_b-map g h xs ∙ all_b_weaken f (λ (x : A). g (h x)) w xs p

  -- two functions that agree on each of the places
  pub map_same : (f g : A → B) (z : A) (xs : List A) → ((i : ℕ) → i < length xs → f (get_or xs i z) ≡ g (get_or xs i z)) → map f xs ≡ map g xs
  map_same f g z [] e = refl
  map_same f g z (x ∷ xs) e =
      let p = e 0 (omega arith) in
      let q = map_same f g z xs (λ i h. e (suc i) (omega arith)) in
      λ j. p j ∷ q j

  pub map-set : (f : A → B) (xs : List A) (i : ℕ) (x : A) → map f (set xs i x) ≡ set (map f xs) i (f x)
  map-set f [] i x = refl
  map-set f (y ∷ xs) zero x = refl
  map-set f (y ∷ xs) (suc i) x = ap (λ (r : List B). f y ∷ r) (map-set f xs i x)

  pub map-remove_at : (f : A → B) (i : ℕ) (xs : List A) → map f (remove_at i xs) ≡ remove_at i (map f xs)
  unfolding remove_at
  map-remove_at f i [] = refl
  map-remove_at f zero (x ∷ xs) = refl
  map-remove_at f (suc i) (x ∷ xs) = ap (λ (r : List B). f x ∷ r) (map-remove_at f i xs)

  pub take-map : (f : A → B) (n : ℕ) (l : List A) → take n (map f l) ≡ map f (take n l)
  take-map f zero l = refl
  take-map f (suc n) [] = refl
  take-map f (suc n) (x ∷ l) = ap (λ (r : List B). f x ∷ r) (take-map f n l)

  -- an array of what f makes of an element that it takes to the filler is empty
  pub pad-same : (n : ℕ) (z : B) (f : A → B) (x : A) (k : ℕ) → f x ≡ z → replicate n z ≡ pad n z (map f (replicate k x))
  unfolding pad
  pad-same zero z f x k p = refl
  pad-same (suc n) z f x zero p = ap (λ (r : List B). z ∷ r) (pad-same n z f x zero p)
  pad-same (suc n) z f x (suc k) p = let q = sym p in let r = pad-same n z f x k p in λ i. q i ∷ r i

module _ {A : Type 0} where
  -- elements that a test tells to be h of themselves
  pub map-kept : (f : A → Bool) (h : A → A) (xs : List A) → ((x : A) → f x ≡ true → x ≡ h x) → all_b f xs ≡ true → xs ≡ map h xs
  unfolding all_b
  map-kept f h [] k p = refl
  map-kept f h (x ∷ xs) k p =
      let a = k x (and_left (f x) (all_b f xs) p) in
      let b = map-kept f h xs k (and_right (f x) (all_b f xs) p) in
      λ i. a i ∷ b i

  pub map_fixed : (h : A → A) (z : A) (xs : List A) → ((i : ℕ) → i < length xs → get_or xs i z ≡ h (get_or xs i z)) → xs ≡ map h xs
  map_fixed h z [] e = refl
  map_fixed h z (x ∷ xs) e =
      let p = e 0 (omega arith) in
      let q = map_fixed h z xs (λ i k. e (suc i) (omega arith)) in
      λ j. p j ∷ q j

-- the beginning of a mapped list, where the whole is another mapped list
pub front-map : (X Y Z : Type 0) (f : X → Z) (g : Y → Z) (xs : List X) (ys : List Z) (zs : List Y) → map f xs ++ ys ≡ map g zs → map f xs ≡ map g (take (length xs) zs)
front-map X Y Z f g [] ys zs e = refl
front-map X Y Z f g (x ∷ xs) ys [] e = never (cc)
front-map X Y Z f g (x ∷ xs) ys (z ∷ zs) e =
    let p : f x ≡ g z = cc in
    let q : map f xs ++ ys ≡ map g zs = cc in
    rw (p, front-map X Y Z f g xs ys zs q)
