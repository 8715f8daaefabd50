-- Laws of `pad`, `remove_at`, `insert_at`, and of an array that is rewritten place by place. Any element type. Assumes nothing.
use mathlib.Core.Path.{◌≡◌, refl, sym, ap, subst, ◌∙◌}
use mathlib.Core.List.{List, [], ◌∷◌, ◌++◌, map}
use Prim.Native.Nat.{ℕ, zero, suc, ◌+◌, ◌-◌, ◌≤◌, ◌<◌, zero-le, suc-le-suc}
use mathlib.Core.Bool.{Bool, true, false, ◌&&◌, false≢true}
use native.Mathlib.Nat.{le_of_suc-le-suc, not-suc-le-zero}
use native.Mathlib.Omega.{arith}
use native.Mathlib.Numerals.{add-one}
use lib.ListN.{length, get_or, set, take, drop, replicate, length-map, get_or-eq_default, drop_of_length-le}
use lib.Seq.{ext_get_or, drop-cons}
use Rattle.list.specs.Pad.{pad, remove_at, insert_at, all_b}

-- what owning an array of structs tells of its length, for `search`: the relation stands at `map f` of the list
pub length_of_map : (X Y : Type 0) (f : X → Y) (l : List X) (n : ℕ) → length (map f l) ≡ n → length l ≡ n
length_of_map X Y f l n p = sym (length-map l f) ∙ p

-- what cannot be
pub never : {P : Type 0} → false ≡ true → P
never e = absurd (false≢true e)

pub and_left : (a b : Bool) → a && b ≡ true → a ≡ true
and_left true b q = refl
and_left false b q = q

pub and_right : (a b : Bool) → a && b ≡ true → b ≡ true
and_right true b q = q
and_right false b q = never q

module _ {A : Type 0} where
  pub get_d_default : (l : List A) (i : ℕ) (d e : A) → i < length l → get_or l i d ≡ get_or l i e
  get_d_default [] i d e h = absurd (not-suc-le-zero h)
  get_d_default (x ∷ l) zero d e h = refl
  get_d_default (x ∷ l) (suc i) d e h = get_d_default l i d e (le_of_suc-le-suc h)

  -- ---- pad

  pub length-pad : (n : ℕ) (z : A) (xs : List A) → length (pad n z xs) ≡ n
  unfolding pad
  length-pad zero z xs = refl
  length-pad (suc n) z [] = ap suc (length-pad n z [])
  length-pad (suc n) z (x ∷ xs) = ap suc (length-pad n z xs)

  -- read with the filler as the default, the array is the list
  pub get_or-pad : (n : ℕ) (z : A) (xs : List A) (i : ℕ) → i < n → get_or (pad n z xs) i z ≡ get_or xs i z
  unfolding pad
  get_or-pad zero z xs i h = absurd (not-suc-le-zero h)
  get_or-pad (suc n) z [] zero h = refl
  get_or-pad (suc n) z [] (suc i) h = get_or-pad n z [] i (le_of_suc-le-suc h)
  get_or-pad (suc n) z (x ∷ xs) zero h = refl
  get_or-pad (suc n) z (x ∷ xs) (suc i) h = get_or-pad n z xs i (le_of_suc-le-suc h)

  -- what is read past the list that the array is filled from
  pub get_or-spare : (n i : ℕ) (o z : A) (l : List A) → length l ≤ i → i < n → get_or (pad n o l) i z ≡ o
  get_or-spare n i o z l h k = get_d_default (pad n o l) i z o (subst (λ (m : ℕ). i < m) (sym (length-pad n o l)) k) ∙ get_or-pad n o l i k ∙ get_or-eq_default l o h

  -- the same at every index, where the list fits
  pub get_or_padded : (n : ℕ) (z : A) (xs : List A) (i : ℕ) → length xs ≤ n → get_or (pad n z xs) i z ≡ get_or xs i z
  unfolding pad
  get_or_padded zero z [] i h = refl
  get_or_padded zero z (x ∷ xs) i h = absurd (not-suc-le-zero h)
  get_or_padded (suc n) z [] zero h = refl
  get_or_padded (suc n) z [] (suc i) h = get_or_padded n z [] i zero-le
  get_or_padded (suc n) z (x ∷ xs) zero h = refl
  get_or_padded (suc n) z (x ∷ xs) (suc i) h = get_or_padded n z xs i (le_of_suc-le-suc h)

  -- a new array
  pub pad-nil : (n : ℕ) (z : A) → replicate n z ≡ pad n z []
  unfolding pad
  pad-nil zero z = refl
  pad-nil (suc n) z = ap (λ (r : List A). z ∷ r) (pad-nil n z)

  pub take-pad : (n : ℕ) (z : A) (xs : List A) → length xs ≤ n → take (length xs) (pad n z xs) ≡ xs
  unfolding pad
  take-pad n z [] h = refl
  take-pad zero z (x ∷ xs) h = absurd (not-suc-le-zero h)
  take-pad (suc n) z (x ∷ xs) h = ap (λ (r : List A). x ∷ r) (take-pad n z xs (le_of_suc-le-suc h))

  -- where the list has n or more, the array is its first n, whatever stands after them
  -- with no spare place
  pub pad-full : (n : ℕ) (z : A) (l : List A) → length l ≡ n → l ≡ pad n z l
  unfolding pad
  pad-full zero z [] h = refl
  pad-full zero z (x ∷ l) h = absurd (omega arith)
  pad-full (suc n) z [] h = absurd (omega arith)
  pad-full (suc n) z (x ∷ l) h = ap (λ (r : List A). x ∷ r) (pad-full n z l (omega arith))

  pub pad-short : (n : ℕ) (z : A) (xs : List A) → n ≤ length xs → pad n z xs ≡ take n xs
  unfolding pad
  pad-short zero z xs h = refl
  pad-short (suc n) z [] h = absurd (not-suc-le-zero h)
  pad-short (suc n) z (x ∷ xs) h = ap (λ (r : List A). x ∷ r) (pad-short n z xs (le_of_suc-le-suc h))

  pub pad-front : (n : ℕ) (z : A) (xs ys : List A) → n ≤ length xs → pad n z xs ≡ pad n z (xs ++ ys)
  unfolding pad
  pad-front zero z xs ys h = refl
  pad-front (suc n) z [] ys h = absurd (not-suc-le-zero h)
  pad-front (suc n) z (x ∷ xs) ys h = ap (λ (r : List A). x ∷ r) (pad-front n z xs ys (le_of_suc-le-suc h))

  -- an array is full of the first n
  pub pad-take : (n : ℕ) (z : A) (xs : List A) → pad n z (take n xs) ≡ pad n z xs
  unfolding pad
  pad-take zero z xs = refl
  pad-take (suc n) z [] = refl
  pad-take (suc n) z (x ∷ xs) = ap (λ (r : List A). x ∷ r) (pad-take n z xs)

  -- a list that fits an array is the first of it
  pub pad_again : (n : ℕ) (z y : A) (xs : List A) → length xs ≤ n → pad (length xs) z (pad n y xs) ≡ xs
  unfolding pad
  pad_again n z y [] h = refl
  pad_again zero z y (x ∷ xs) h = absurd (not-suc-le-zero h)
  pad_again (suc n) z y (x ∷ xs) h = ap (λ (r : List A). x ∷ r) (pad_again n z y xs (le_of_suc-le-suc h))

  pub set-pad : (n : ℕ) (z : A) (xs : List A) (e : A) → length xs < n → set (pad n z xs) (length xs) e ≡ pad n z (xs ++ e ∷ [])
  unfolding pad
  set-pad zero z xs e h = absurd (not-suc-le-zero h)
  set-pad (suc n) z [] e h = refl
  set-pad (suc n) z (x ∷ xs) e h = ap (λ (r : List A). x ∷ r) (set-pad n z xs e (le_of_suc-le-suc h))

  -- ---- the test of the unused places: f holds of the filler alone

  pub pad_of_tail : (f : A → Bool) (z : A) → ((x : A) → f x ≡ true → x ≡ z) → (l : List A) (k : ℕ) → all_b f (drop k l) ≡ true → l ≡ pad (length l) z (take k l)
  unfolding pad all_b
  pad_of_tail f z h [] k q = refl
  pad_of_tail f z h (x ∷ l) zero q =
      let p : x ≡ z = h x (and_left (f x) (all_b f l) q) in
      let t : l ≡ pad (length l) z [] = pad_of_tail f z h l zero (and_right (f x) (all_b f l) q) in
      λ i. p i ∷ t i
  pad_of_tail f z h (x ∷ l) (suc k) q = ap (λ (r : List A). x ∷ r) (pad_of_tail f z h l k q)

  pub tail_of_pad : (f : A → Bool) (z : A) → f z ≡ true → (n : ℕ) (xs : List A) → all_b f (drop (length xs) (pad n z xs)) ≡ true
  unfolding pad all_b
  tail_of_pad f z h zero [] = refl
  tail_of_pad f z h zero (x ∷ xs) = refl
  tail_of_pad f z h (suc n) [] = rw (h, tail_of_pad f z h n [])
  tail_of_pad f z h (suc n) (x ∷ xs) = tail_of_pad f z h n xs

  -- one place after the other, as a loop tests them
  pub all_b_hit : (f : A → Bool) (z : A) (l : List A) (i : ℕ) → i < length l → f (get_or l i z) ≡ false → all_b f (drop i l) ≡ false
  unfolding all_b
  all_b_hit f z l i h q = rw (drop-cons l i z h, q)

  pub all_b-step : (f : A → Bool) (z : A) (l : List A) (i : ℕ) → i < length l → f (get_or l i z) ≡ true → all_b f (drop (i + 1) l) ≡ all_b f (drop i l)
  unfolding all_b
  all_b-step f z l i h q = rw (drop-cons l i z h, q, add-one)

  pub all_b_end : (f : A → Bool) (l : List A) (i : ℕ) → length l ≤ i → all_b f (drop i l) ≡ true
  unfolding all_b
  all_b_end f l i h = rw (drop_of_length-le l {i = i} h)

  -- ---- remove_at, insert_at

  pub length-remove_at : (i : ℕ) (xs : List A) → i < length xs → suc (length (remove_at i xs)) ≡ length xs
  unfolding remove_at
  length-remove_at i [] h = absurd (not-suc-le-zero h)
  length-remove_at zero (x ∷ xs) h = refl
  length-remove_at (suc i) (x ∷ xs) h = ap suc (length-remove_at i xs (le_of_suc-le-suc h))

  pub remove_at-out : (i : ℕ) (xs : List A) → length xs ≤ i → remove_at i xs ≡ xs
  unfolding remove_at
  remove_at-out i [] h = refl
  remove_at-out zero (x ∷ xs) h = absurd (not-suc-le-zero h)
  remove_at-out (suc i) (x ∷ xs) h = ap (λ (r : List A). x ∷ r) (remove_at-out i xs (le_of_suc-le-suc h))

  pub get_or-remove_at_lo : (i : ℕ) (xs : List A) (k : ℕ) (z : A) → k < i → get_or (remove_at i xs) k z ≡ get_or xs k z
  unfolding remove_at
  get_or-remove_at_lo i [] k z h = refl
  get_or-remove_at_lo zero (x ∷ xs) k z h = absurd (not-suc-le-zero h)
  get_or-remove_at_lo (suc i) (x ∷ xs) zero z h = refl
  get_or-remove_at_lo (suc i) (x ∷ xs) (suc k) z h = get_or-remove_at_lo i xs k z (le_of_suc-le-suc h)

  pub get_or-remove_at_hi : (i : ℕ) (xs : List A) (k : ℕ) (z : A) → i ≤ k → get_or (remove_at i xs) k z ≡ get_or xs (suc k) z
  unfolding remove_at
  get_or-remove_at_hi i [] k z h = refl
  get_or-remove_at_hi zero (x ∷ xs) k z h = refl
  get_or-remove_at_hi (suc i) (x ∷ xs) zero z h = absurd (not-suc-le-zero h)
  get_or-remove_at_hi (suc i) (x ∷ xs) (suc k) z h = get_or-remove_at_hi i xs k z (le_of_suc-le-suc h)

  pub length-insert_at : (i : ℕ) (e : A) (xs : List A) → length (insert_at i e xs) ≡ suc (length xs)
  unfolding insert_at
  length-insert_at zero e xs = refl
  length-insert_at (suc i) e [] = refl
  length-insert_at (suc i) e (x ∷ xs) = ap suc (length-insert_at i e xs)

  pub get_or-insert_at_lo : (i : ℕ) (e : A) (xs : List A) (k : ℕ) (z : A) → k < i → i ≤ length xs → get_or (insert_at i e xs) k z ≡ get_or xs k z
  unfolding insert_at
  get_or-insert_at_lo zero e xs k z h l = absurd (not-suc-le-zero h)
  get_or-insert_at_lo (suc i) e [] k z h l = absurd (not-suc-le-zero l)
  get_or-insert_at_lo (suc i) e (x ∷ xs) zero z h l = refl
  get_or-insert_at_lo (suc i) e (x ∷ xs) (suc k) z h l = get_or-insert_at_lo i e xs k z (le_of_suc-le-suc h) (le_of_suc-le-suc l)

  pub get_or-insert_at-at : (i : ℕ) (e : A) (xs : List A) (z : A) → i ≤ length xs → get_or (insert_at i e xs) i z ≡ e
  unfolding insert_at
  get_or-insert_at-at zero e xs z l = refl
  get_or-insert_at-at (suc i) e [] z l = absurd (not-suc-le-zero l)
  get_or-insert_at-at (suc i) e (x ∷ xs) z l = get_or-insert_at-at i e xs z (le_of_suc-le-suc l)

  pub get_or-insert_at_hi : (i : ℕ) (e : A) (xs : List A) (k : ℕ) (z : A) → i ≤ k → i ≤ length xs → get_or (insert_at i e xs) (suc k) z ≡ get_or xs k z
  unfolding insert_at
  get_or-insert_at_hi zero e xs k z h l = refl
  get_or-insert_at_hi (suc i) e [] k z h l = absurd (not-suc-le-zero l)
  get_or-insert_at_hi (suc i) e (x ∷ xs) zero z h l = absurd (not-suc-le-zero h)
  get_or-insert_at_hi (suc i) e (x ∷ xs) (suc k) z h l = get_or-insert_at_hi i e xs k z (le_of_suc-le-suc h) (le_of_suc-le-suc l)

  -- ---- an array b that a loop turns into a, place by place, from the front: at place j it is the first j of a and the rest of b

  abbrev pub mix : ℕ → List A → List A → List A
  mix j a b = take j a ++ drop j b

  -- the store of a's own element goes one place on; the other way round, from the back, it is `mix_back`
  pub mix_step : (j : ℕ) (a b : List A) (z : A) → j < length a → j < length b → set (mix j a b) j (get_or a j z) ≡ mix (suc j) a b
  mix_step j [] b z h l = absurd (not-suc-le-zero h)
  mix_step j (x ∷ a) [] z h l = absurd (not-suc-le-zero l)
  mix_step zero (x ∷ a) (y ∷ b) z h l = refl
  mix_step (suc j) (x ∷ a) (y ∷ b) z h l = ap (λ (r : List A). x ∷ r) (mix_step j a b z (le_of_suc-le-suc h) (le_of_suc-le-suc l))

  pub mix_back : (j : ℕ) (a b : List A) (z : A) → j < length a → j < length b → set (mix (suc j) b a) j (get_or a j z) ≡ mix j b a
  mix_back j [] b z h l = absurd (not-suc-le-zero h)
  mix_back j (x ∷ a) [] z h l = absurd (not-suc-le-zero l)
  mix_back zero (x ∷ a) (y ∷ b) z h l = refl
  mix_back (suc j) (x ∷ a) (y ∷ b) z h l = ap (λ (r : List A). y ∷ r) (mix_back j a b z (le_of_suc-le-suc h) (le_of_suc-le-suc l))

  pub length_mix : (j : ℕ) (a b : List A) → length a ≡ length b → length (mix j a b) ≡ length b
  length_mix zero a b e = refl
  length_mix (suc j) [] [] e = refl
  length_mix (suc j) [] (y ∷ b) e = absurd (omega arith)
  length_mix (suc j) (x ∷ a) [] e = absurd (omega arith)
  length_mix (suc j) (x ∷ a) (y ∷ b) e = ap suc (length_mix j a b (omega arith))

  -- what is read at or past j is b's, and before j a's
  pub mix_hi : (j : ℕ) (a b : List A) (i : ℕ) (z : A) → length a ≡ length b → j ≤ length a → j ≤ i → get_or (mix j a b) i z ≡ get_or b i z
  mix_hi zero a b i z e l h = refl
  mix_hi (suc j) [] b i z e l h = absurd (not-suc-le-zero l)
  mix_hi (suc j) (x ∷ a) [] i z e l h = absurd (omega arith)
  mix_hi (suc j) (x ∷ a) (y ∷ b) zero z e l h = absurd (not-suc-le-zero h)
  mix_hi (suc j) (x ∷ a) (y ∷ b) (suc i) z e l h = mix_hi j a b i z (omega arith) (omega arith) (omega arith)

  pub mix_lo : (j : ℕ) (a b : List A) (i : ℕ) (z : A) → length a ≡ length b → j ≤ length a → i < j → get_or (mix j a b) i z ≡ get_or a i z
  mix_lo zero a b i z e l h = absurd (not-suc-le-zero h)
  mix_lo (suc j) [] b i z e l h = absurd (not-suc-le-zero l)
  mix_lo (suc j) (x ∷ a) [] i z e l h = absurd (omega arith)
  mix_lo (suc j) (x ∷ a) (y ∷ b) zero z e l h = refl
  mix_lo (suc j) (x ∷ a) (y ∷ b) (suc i) z e l h = mix_lo j a b i z (omega arith) (omega arith) (omega arith)

  -- the loop begins where a and b agree below j, and ends where they agree from j on
  pub mix_start : (j : ℕ) (a b : List A) (z : A) → length a ≡ length b → j ≤ length a → ((k : ℕ) → k < j → get_or a k z ≡ get_or b k z) → mix j a b ≡ b
  mix_start zero a b z e l h = refl
  mix_start (suc j) [] b z e l h = absurd (not-suc-le-zero l)
  mix_start (suc j) (x ∷ a) [] z e l h = absurd (omega arith)
  mix_start (suc j) (x ∷ a) (y ∷ b) z e l h =
      let p : x ≡ y = h 0 (omega arith) in
      let q : mix j a b ≡ b = mix_start j a b z (omega arith) (omega arith) (λ k m. h (suc k) (suc-le-suc m)) in
      cc

  pub mix_end : (j : ℕ) (a b : List A) (z : A) → length a ≡ length b → j ≤ length a → ((k : ℕ) → j ≤ k → get_or a k z ≡ get_or b k z) → mix j a b ≡ a
  mix_end zero a b z e l h = ext_get_or z b a (sym e) (λ k m. sym (h k zero-le))
  mix_end (suc j) [] b z e l h = absurd (not-suc-le-zero l)
  mix_end (suc j) (x ∷ a) [] z e l h = absurd (omega arith)
  mix_end (suc j) (x ∷ a) (y ∷ b) z e l h =
      ap (λ (r : List A). x ∷ r) (mix_end j a b z (omega arith) (omega arith) (λ k m. h (suc k) (suc-le-suc m)))

  -- ---- the loop of a removal: from place i on, each place takes what stands after it. l is the array as it is before place j is written

  pub record Shifting (N : ℕ) (z : A) (xs : List A) (i n : ℕ) (l : List A) (j : ℕ) : Type 0 where
    pub from : i ≤ j
    pub below : j < n
    pub count : n ≡ length xs
    pub room : n ≤ N
    pub done : l ≡ mix j (pad N z (remove_at i xs)) (pad N z xs)

  same_pads : (N : ℕ) (z : A) (xs ys : List A) → length (pad N z xs) ≡ length (pad N z ys)
  same_pads N z xs ys = length-pad N z xs ∙ sym (length-pad N z ys)

  pub shifting_start : (N : ℕ) (z : A) (xs : List A) (i n : ℕ) (l : List A) → i < n → n ≡ length xs → n ≤ N → l ≡ pad N z xs → Shifting N z xs i n l i
  shifting_start N z xs i n l h c r e =
      record {
        from = omega arith;
        below = h;
        count = c;
        room = r;
        done =
            e ∙ sym (mix_start i (pad N z (remove_at i xs)) (pad N z xs) z (same_pads N z (remove_at i xs) xs) (omega (arith, length-pad N z (remove_at i xs)))
            (λ k m. get_or-pad N z (remove_at i xs) k (omega arith) ∙ get_or-remove_at_lo i xs k z m ∙ sym (get_or-pad N z xs k (omega arith))));
      }

  pub shifting_step : (N : ℕ) (z : A) (xs : List A) (i n : ℕ) (l : List A) (j : ℕ) → Shifting N z xs i n l j → j + 1 < n → Shifting N z xs i n (set l j (get_or l (j + 1) z)) (j + 1)
  shifting_step N z xs i n l j s h =
      let a = pad N z (remove_at i xs) in
      let b = pad N z xs in
      let la : length a ≡ N = length-pad N z (remove_at i xs) in
      let lb : length b ≡ N = length-pad N z xs in
      record {
        from = omega arith;
        below = h;
        count = s.count;
        room = s.room;
        done =
            cc (s.done, mix_hi j a b (j + 1) z (same_pads N z (remove_at i xs) xs) (omega arith) (omega arith), get_or-pad N z xs (j + 1) (omega arith), get_or-pad N z (remove_at i xs) j (omega arith), get_or-remove_at_hi i xs j z s.from, mix_step j a b z (omega arith) (omega arith), add-one j);
      }

  pub shifting_end : (N : ℕ) (z : A) (xs : List A) (i n : ℕ) (l : List A) (j : ℕ) → Shifting N z xs i n l j → n ≤ j + 1 → set l j z ≡ pad N z (remove_at i xs)
  shifting_end N z xs i n l j s h =
      let a = pad N z (remove_at i xs) in
      let b = pad N z xs in
      let la : length a ≡ N = length-pad N z (remove_at i xs) in
      let lb : length b ≡ N = length-pad N z xs in
      let short : length (remove_at i xs) ≤ j = omega (arith, length-remove_at i xs (omega arith)) in
      let last : get_or a j z ≡ z = get_or-pad N z (remove_at i xs) j (omega arith) ∙ get_or-eq_default (remove_at i xs) z short in
      let rest : mix (suc j) a b ≡ a =
      mix_end (suc j) a b z (same_pads N z (remove_at i xs) xs) (omega arith)
      (λ k m. get_or_padded N z (remove_at i xs) k (omega arith) ∙ get_or-eq_default (remove_at i xs) z (omega arith) ∙ sym (get_or_padded N z xs k (omega arith) ∙ get_or-eq_default xs z (omega arith))) in
      cc (s.done, mix_step j a b z (omega arith) (omega arith))

  -- ---- the loop of an insertion: from the last place down to i, each place takes what stands before it. l is the array as it is before place j is written

  pub record Opening (N : ℕ) (z : A) (xs : List A) (i : ℕ) (e : A) (n : ℕ) (l : List A) (j : ℕ) : Type 0 where
    pub from : i ≤ j
    pub below : j ≤ n
    pub count : n ≡ length xs
    pub room : n < N
    pub done : l ≡ mix (suc j) (pad N z xs) (pad N z (insert_at i e xs))

  pub opening_start : (N : ℕ) (z : A) (xs : List A) (i : ℕ) (e : A) (n : ℕ) (l : List A) → i ≤ n → n ≡ length xs → n < N → l ≡ pad N z xs → Opening N z xs i e n l n
  opening_start N z xs i e n l h c r q =
      record {
        from = h;
        below = omega arith;
        count = c;
        room = r;
        done =
            q ∙ sym (mix_end (suc n) (pad N z xs) (pad N z (insert_at i e xs)) z (same_pads N z xs (insert_at i e xs)) (omega (arith, length-pad N z xs))
            (λ k m. get_or_padded N z xs k (omega arith) ∙ get_or-eq_default xs z (omega arith) ∙ sym (get_or_padded N z (insert_at i e xs) k (omega (arith, length-insert_at i e xs)) ∙ get_or-eq_default (insert_at i e xs) z (omega (arith, length-insert_at i e xs)))));
      }

  pub opening_step : (N : ℕ) (z : A) (xs : List A) (i : ℕ) (e : A) (n : ℕ) (l : List A) (j : ℕ) → Opening N z xs i e n l j → i < j → Opening N z xs i e n (set l j (get_or l (j - 1) z)) (j - 1)
  opening_step N z xs i e n l j s h =
      let a = pad N z (insert_at i e xs) in
      let b = pad N z xs in
      let la : length a ≡ N = length-pad N z (insert_at i e xs) in
      let lb : length b ≡ N = length-pad N z xs in
      let up : suc (j - 1) ≡ j = omega arith in
      record {
        from = omega arith;
        below = omega (arith, s.below);
        count = s.count;
        room = s.room;
        done =
            cc (s.done, up, mix_lo (suc j) b a (j - 1) z (same_pads N z xs (insert_at i e xs)) (omega (arith, s.below)) (omega arith), get_or-pad N z xs (j - 1) (omega (arith, s.below)), get_or-pad N z (insert_at i e xs) j (omega (arith, s.below)), get_or-insert_at_hi i e xs (j - 1) z (omega arith) (omega (arith, s.below)), mix_back j a b z (omega (arith, s.below)) (omega (arith, s.below)));
      }

  pub opening_end : (N : ℕ) (z : A) (xs : List A) (i : ℕ) (e : A) (n : ℕ) (l : List A) (j : ℕ) → Opening N z xs i e n l j → j ≤ i → set l j e ≡ pad N z (insert_at i e xs)
  opening_end N z xs i e n l j s h =
      let a = pad N z (insert_at i e xs) in
      let b = pad N z xs in
      let la : length a ≡ N = length-pad N z (insert_at i e xs) in
      let lb : length b ≡ N = length-pad N z xs in
      let at : i ≡ j = omega arith in
      let here : get_or a i z ≡ e = get_or-pad N z (insert_at i e xs) i (omega arith) ∙ get_or-insert_at-at i e xs z (omega arith) in
      let rest : mix i b a ≡ a =
      mix_start i b a z (same_pads N z xs (insert_at i e xs)) (omega arith)
      (λ k m. get_or-pad N z xs k (omega arith) ∙ sym (get_or-pad N z (insert_at i e xs) k (omega arith) ∙ get_or-insert_at_lo i e xs k z m (omega arith))) in
      cc (s.done, at, mix_back i a b z (omega arith) (omega arith))
