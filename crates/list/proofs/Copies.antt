-- Laws of arrays and lent lists that are written, by their parts and by loops place by place. Any element type. Assumes nothing.
use mathlib.Core.Path.{◌≡◌, refl, sym, ap, ◌∙◌}
use mathlib.Core.List.{List, [], ◌∷◌, ◌++◌, map, append-nil, append_assoc, map-append}
use Prim.Native.Nat.{ℕ, zero, suc, ◌+◌, ◌-◌, ◌≤◌, ◌<◌, zero-le}
use native.Mathlib.Nat.{le_of_suc-le-suc, not-suc-le-zero, zero-add, suc-add}
use native.Mathlib.Omega.{arith}
use native.Mathlib.Numerals.{add-one}
use mathlib.Core.Bool.{Bool}
use Rattle.std.specs.declared.option.Option.{Option}
use Rattle.std.specs.declared.option.Option.TheVariants.{None, Some}
use lib.ListN.{length, get_or, set, take, drop, replicate, length-map, get_or-eq_default, get_or-map, length-append, length-take, length-set, length-drop, length-replicate, take-append-drop}
use lib.Seq.{drop-cons, take_all, take_at, take-suc, get_or-take, take-length, paste, paste-zero, paste-suc, length-take-le, take-append_seam, drop-append-add, drop-drop, get_or-drop, take-suc-set}
use Rattle.list.specs.Pad.{pad, insert_at}
use Rattle.list.specs.Find.{position, swap_remove, swap_at, swap_remove_first, written_at}
use Rattle.list.proofs.Pad.{get_d_default, get_or-pad, get_or_padded, length-pad, mix, mix_end, mix_hi, mix_step, pad-nil, set-pad}

module _ {A : Type 0} where
  -- ---- an array by its parts

  -- the list, then what an empty array has past it
  pub pad_over : (n : ℕ) (z : A) (ys : List A) → length ys ≤ n → pad n z ys ≡ ys ++ drop (length ys) (pad n z [])
  unfolding pad
  pad_over n z [] h = refl
  pad_over zero z (y ∷ ys) h = absurd (not-suc-le-zero h)
  pad_over (suc n) z (y ∷ ys) h = ap (λ (r : List A). y ∷ r) (pad_over n z ys (le_of_suc-le-suc h))

  -- the front of an array is its first list
  pub take-front : (n : ℕ) (z : A) (x ys : List A) → length (x ++ ys) ≤ n → take (length x) (pad n z (x ++ ys)) ≡ x
  take-front n z x ys h =
      ap (λ (r : List A). take (length x) r) (pad_over n z (x ++ ys) h ∙ append_assoc x ys (drop (length (x ++ ys)) (pad n z []))) ∙ take-append_seam x (ys ++ drop (length (x ++ ys)) (pad n z []))

  -- an array, and an empty one after it
  pub pad_more : (n m : ℕ) (z : A) (xs : List A) → length xs ≤ n → pad n z xs ++ pad m z [] ≡ pad (n + m) z xs
  unfolding pad
  pad_more zero m z [] h = ap (λ (k : ℕ). pad k z []) (sym (zero-add m))
  pad_more zero m z (x ∷ xs) h = absurd (not-suc-le-zero h)
  pad_more (suc n) m z [] h = ap (λ (r : List A). z ∷ r) (pad_more n m z [] zero-le) ∙ ap (λ (k : ℕ). pad k z []) (sym (suc-add n m))
  pad_more (suc n) m z (x ∷ xs) h = ap (λ (r : List A). x ∷ r) (pad_more n m z xs (le_of_suc-le-suc h)) ∙ ap (λ (k : ℕ). pad k z (x ∷ xs)) (sym (suc-add n m))

  pub pad-set : (N : ℕ) (z : A) (xs : List A) (i : ℕ) (v : A) → i < length xs → set (pad N z xs) i v ≡ pad N z (set xs i v)
  unfolding pad
  pad-set zero z xs i v h = refl
  pad-set (suc N) z [] i v h = absurd (not-suc-le-zero h)
  pad-set (suc N) z (x ∷ xs) zero v h = refl
  pad-set (suc N) z (x ∷ xs) (suc i) v h = ap (λ (r : List A). x ∷ r) (pad-set N z xs i v (le_of_suc-le-suc h))

  pub pad_pop : (N : ℕ) (z : A) (xs : List A) (m : ℕ) → length xs ≡ suc m → set (pad N z xs) m z ≡ pad N z (take m xs)
  unfolding pad
  pad_pop zero z xs m h = refl
  pad_pop (suc N) z [] m h = absurd (omega arith)
  pad_pop (suc N) z (x ∷ []) zero h = refl
  pad_pop (suc N) z (x ∷ (y ∷ xs)) zero h = absurd (omega arith)
  pad_pop (suc N) z (x ∷ xs) (suc m) h = ap (λ (r : List A). x ∷ r) (pad_pop N z xs m (omega arith))

  -- an array in which the last element takes place i, and its own place is the filler again
  pub swap_pad : (N : ℕ) (z : A) (xs : List A) (i : ℕ) → i < length xs → set (set (pad N z xs) i (get_or xs (length xs - 1) z)) (length xs - 1) z ≡ pad N z (swap_remove z i xs)
  unfolding swap_remove
  swap_pad N z xs i h =
      let v = get_or xs (length xs - 1) z in
      let s : length (set xs i v) ≡ suc (length xs - 1) = omega (arith, length-set xs i v) in
      ap (λ (l : List A). set l (length xs - 1) z) (pad-set N z xs i v h) ∙ pad_pop N z (set xs i v) (length xs - 1) s

  pub length_swap : (z : A) (i : ℕ) (xs : List A) → i < length xs → length (swap_remove z i xs) ≡ length xs - 1
  unfolding swap_remove
  length_swap z i xs h =
      let v = get_or xs (length xs - 1) z in
      omega (arith, length-take (length xs - 1) (set xs i v), length-set xs i v)

  pub length_swap_le : (z : A) (f : A → Bool) (xs : List A) → length (swap_remove_first z f xs) ≤ length xs
  unfolding swap_remove
  length_swap_le z f xs = at (position f xs)
    where
      at : (o : Option ℕ) → length (swap_at z o xs) ≤ length xs
      at None = omega arith
      at (Some i) =
          let v = get_or xs (length xs - 1) z in
          omega (arith, length-take (length xs - 1) (set xs i v), length-set xs i v)

  -- an insertion is what stands before the place, the element, and what stands from the place on
  pub insert_parts : (i : ℕ) (e : A) (xs : List A) → insert_at i e xs ≡ take i xs ++ (e ∷ drop i xs)
  unfolding insert_at
  insert_parts zero e xs = refl
  insert_parts (suc i) e [] = refl
  insert_parts (suc i) e (x ∷ xs) = ap (λ (r : List A). x ∷ r) (insert_parts i e xs)

  pub length_parts : (i : ℕ) (e : A) (xs : List A) → length (take i xs ++ e ∷ drop i xs) ≡ suc (length xs)
  length_parts zero e xs = refl
  length_parts (suc i) e [] = refl
  length_parts (suc i) e (x ∷ xs) = ap suc (length_parts i e xs)

  -- ---- a list written into another: none written, v written after w, and as long as it was

  pub written_none : (at : ℕ) (l : List A) → l ≡ written_at at [] l
  unfolding written_at
  written_none at l =
      let e : at + 0 ≡ at = omega arith in
      sym ((λ j. append-nil (take at l) j ++ drop (e j) l) ∙ take-append-drop at l)

  pub written_after : (at : ℕ) (w v l : List A) → at ≤ length l → written_at (at + length w) v (written_at at w l) ≡ written_at at (w ++ v) l
  unfolding written_at
  written_after at w v l h =
      let p = take at l ++ w in
      let m = at + length w in
      let d = drop m l in
      let s : length p ≡ m = length-append (take at l) w ∙ ap (λ (n : ℕ). n + length w) (length-take-le at l h) in
      let a : take m (p ++ d) ≡ p = take_at p d m s in
      let e : m + length v ≡ at + length (w ++ v) = omega (arith, length-append w v) in
      let b : drop (m + length v) (p ++ d) ≡ drop (at + length (w ++ v)) l =
      ap (λ (n : ℕ). drop (n + length v) (p ++ d)) (sym s) ∙ drop-append-add p d (length v) ∙ drop-drop (length v) m l ∙ ap (λ (n : ℕ). drop n l) e in
      (λ j. a j ++ v ++ b j) ∙ ap (λ (x : List A). x ++ drop (at + length (w ++ v)) l) (append_assoc (take at l) w v)

  pub length-written : (at : ℕ) (w l : List A) → at + length w ≤ length l → length (written_at at w l) ≡ length l
  unfolding written_at
  length-written at w l h =
      omega
      (arith, length-append (take at l ++ w) (drop (at + length w) l), length-append (take at l) w, length-take-le at l (omega arith), length-drop (at + length w) l)

  -- ---- the loop that puts the elements of xs, n of them, after base in an array of N places: j are there already

  pub record Copying (N : ℕ) (z : A) (base xs : List A) (b n : ℕ) (l : List A) (j : ℕ) : Type 0 where
    pub below : j ≤ n
    pub start : b ≡ length base
    pub count : n ≡ length xs
    pub room : b + n ≤ N
    pub size : length l ≡ N
    pub done : l ≡ pad N z (base ++ take j xs)

  pub copying_start : (N : ℕ) (z : A) (base xs : List A) (b n : ℕ) (l : List A) → b ≡ length base → n ≡ length xs → b + n ≤ N → l ≡ pad N z base → Copying N z base xs b n l 0
  copying_start N z base xs b n l s c r e =
      record { below = omega arith; start = s; count = c; room = r; size = ap length e ∙ length-pad N z base; done = e ∙ ap (pad N z) (sym (append-nil base)) }

  pub copying_step : (N : ℕ) (z : A) (base xs : List A) (b n : ℕ) (l : List A) (j : ℕ) (v : A) → Copying N z base xs b n l j → j < n → v ≡ get_or xs j z → Copying N z base xs b n (set l (b + j) v) (j + 1)
  copying_step N z base xs b n l j v s h q =
      let ys = base ++ take j xs in
      let at : length ys ≡ b + j = omega (arith, s.start, s.count, length-append base (take j xs), length-take-le j xs (omega (arith, s.count))) in
      let fits : length ys < N = omega (arith, s.room) in
      let more : take (j + 1) xs ≡ take j xs ++ (v ∷ []) = rw (add-one, q) (take-suc xs j z (omega (arith, s.count))) in
      let put : set l (b + j) v ≡ pad N z (ys ++ (v ∷ [])) = rw (s.done, ← at) (set-pad N z ys v fits) in
      record {
        below = omega arith;
        start = s.start;
        count = s.count;
        room = s.room;
        size = length-set l (b + j) v ∙ s.size;
        done = put ∙ ap (pad N z) (append_assoc base (take j xs) (v ∷ []) ∙ ap (λ (r : List A). base ++ r) (sym more));
      }

  pub copying_end : (N : ℕ) (z : A) (base xs : List A) (b n : ℕ) (l : List A) (j : ℕ) → Copying N z base xs b n l j → n ≤ j → l ≡ pad N z (base ++ xs)
  copying_end N z base xs b n l j s h = s.done ∙ ap (λ (r : List A). pad N z (base ++ r)) (take_all j xs (omega (arith, s.count)))

  -- ---- the loop that carries the n elements of an array h from place k on to the front of a new one. r is the new array before its place j is written

  pub record Carrying (N : ℕ) (z : A) (h : List A) (k n : ℕ) (r : List A) (j : ℕ) : Type 0 where
    pub below : j ≤ n
    pub room : k + n ≤ N
    pub from : length h ≡ N
    pub size : length r ≡ N
    pub kept : h ≡ pad N z (take (k + n) h)
    pub done : r ≡ mix j (pad N z (drop k (take (k + n) h))) (pad N z [])

  pub carrying_start : (N : ℕ) (z : A) (h : List A) (k n t : ℕ) → k + n ≡ t → t ≤ N → h ≡ pad N z (take t h) → Carrying N z h k n (replicate N z) 0
  carrying_start N z h k n t c r q =
      let p : h ≡ pad N z (take (k + n) h) = q ∙ ap (λ (m : ℕ). pad N z (take m h)) (sym c) in
      record {
        below = zero-le;
        room = omega arith;
        from = ap length p ∙ length-pad N z (take (k + n) h);
        size = length-replicate N z;
        kept = p;
        done = pad-nil N z;
      }

  pub carrying_step : (N : ℕ) (z : A) (h : List A) (k n : ℕ) (r : List A) (j : ℕ) → Carrying N z h k n r j → j < n → Carrying N z h k n (set r j (get_or h (k + j) z)) (j + 1)
  carrying_step N z h k n r j c l =
      let xs = take (k + n) h in
      let a = pad N z (drop k xs) in
      let la : length a ≡ N = length-pad N z (drop k xs) in
      let lb : length (pad N z []) ≡ N = length-pad N z [] in
      record {
        below = omega arith;
        room = c.room;
        from = c.from;
        size = length-set r j (get_or h (k + j) z) ∙ c.size;
        kept = c.kept;
        done =
            cc (c.done, get_or-take (k + n) h (k + j) z (omega arith), get_or-drop k xs j z, get_or-pad N z (drop k xs) j (omega (arith, c.room)), mix_step j a (pad N z []) z (omega (arith, c.room)) (omega (arith, c.room)), add-one j);
      }

  pub carrying_end : (N : ℕ) (z : A) (h : List A) (k n t : ℕ) (r : List A) (j : ℕ) → Carrying N z h k n r j → n ≤ j → k + n ≡ t → r ≡ pad N z (drop k (take t h))
  carrying_end N z h k n t r j c l e =
      let xs = take (k + n) h in
      let x : length xs ≡ k + n = length-take-le (k + n) h (omega (arith, c.room, c.from)) in
      let d : length (drop k xs) ≡ n = length-drop k xs ∙ omega (arith, x) in
      let f : length (drop k xs) ≤ N = omega (arith, c.room) in
      c.done ∙ mix_end j (pad N z (drop k xs)) (pad N z []) z (length-pad N z (drop k xs) ∙ sym (length-pad N z [])) (omega (arith, c.room, c.below, length-pad N z (drop k xs)))
      (λ m h. get_or_padded N z (drop k xs) m f ∙ get_or-eq_default (drop k xs) z (omega arith) ∙ sym (get_or_padded N z [] m zero-le)) ∙ ap (λ (m : ℕ). pad N z (drop k (take m h))) e

  -- ---- the loop that writes the first n of an array h over the front of a lent list. l is the list before its place i is written

  pub record Fronting (h old : List A) (N n : ℕ) (l : List A) (i : ℕ) : Type 0 where
    pub below : i ≤ n
    pub room : n ≤ N
    pub from : length h ≡ N
    pub fits : n ≤ length old
    pub size : length l ≡ length old
    pub done : l ≡ mix i h old

  pub fronting_start : (h old : List A) (N n : ℕ) → n ≤ N → length h ≡ N → n ≤ length old → Fronting h old N n old 0
  fronting_start h old N n r f o = record { below = zero-le; room = r; from = f; fits = o; size = refl; done = refl }

  pub fronting_step : (h old : List A) (N n : ℕ) (l : List A) (i : ℕ) (z : A) → Fronting h old N n l i → i < n → Fronting h old N n (set l i (get_or h i z)) (i + 1)
  fronting_step h old N n l i z w b =
      record {
        below = omega arith;
        room = w.room;
        from = w.from;
        fits = w.fits;
        size = length-set l i (get_or h i z) ∙ w.size;
        done = cc (w.done, mix_step i h old z (omega (arith, w.room, w.from)) (omega (arith, w.fits)), add-one i);
      }

  pub fronting_end : (h old : List A) (N n : ℕ) (l : List A) (i : ℕ) → Fronting h old N n l i → n ≤ i → l ≡ take n h ++ drop n old
  fronting_end h old N n l i w b = let e : i ≡ n = omega (arith, w.below) in w.done ∙ ap (λ (k : ℕ). mix k h old) e

  -- ---- w written into the list d from place at on: l is d with all of w but `rest` written, k the next place

  pub record Writing (d : List A) (at : ℕ) (w : List A) (l : List A) (k : ℕ) (rest : List A) : Type 0 where
    pub from : at ≤ k
    pub fits : k + length rest ≤ length d
    pub size : length l ≡ length d
    pub whole : k + length rest ≡ at + length w
    pub left : drop (k - at) w ≡ rest
    pub done : l ≡ paste d at w (k - at)

  pub writing_start : (d : List A) (at : ℕ) (w : List A) → at + length w ≤ length d → Writing d at w d at w
  writing_start d at w h =
      let z : at - at ≡ 0 = omega arith in
      record { from = omega arith; fits = h; size = refl; whole = refl; left = rw z; done = rw z (paste-zero d at w) }

  pub writing_step : (d : List A) (at : ℕ) (w l : List A) (k : ℕ) (x : A) (rest : List A) → Writing d at w l k (x ∷ rest) → Writing d at w (set l k x) (k + 1) rest
  writing_step d at w l k x rest s =
      let j = k - at in
      let lw : j < length w = omega arith in
      let here : drop j w ≡ get_or w j x ∷ drop (suc j) w = drop-cons w j x lw in
      let up : k + 1 - at ≡ suc j = omega arith in
      let place : at + j ≡ k = omega arith in
      let both : x ∷ rest ≡ get_or w j x ∷ drop (suc j) w = sym s.left ∙ here in
      let head : x ≡ get_or w j x = cc in
      let tail : rest ≡ drop (suc j) w = cc in
      record {
        from = omega arith;
        fits = omega arith;
        size = length-set l k x ∙ s.size;
        whole = omega arith;
        left = rw up (sym tail);
        done = rw up (cc (s.done, paste-suc d at w j x (omega arith) lw));
      }

  pub writing_end : (d : List A) (at : ℕ) (w l : List A) (k : ℕ) → Writing d at w l k [] → (k ≡ at + length w) × (l ≡ written_at at w d)
  unfolding written_at
  writing_end d at w l k s =
      let e : k ≡ at + length w = omega arith in
      let j : k - at ≡ length w = omega arith in
      (e, s.done ∙ rw (j, take-length))

  -- ---- the loop that turns each element x of the list into f x. l is the array as it is before place i is written

  pub record Mapping (N : ℕ) (z : A) (f : A → A) (xs : List A) (n : ℕ) (l : List A) (i : ℕ) : Type 0 where
    pub below : i ≤ n
    pub count : n ≡ length xs
    pub room : n ≤ N
    pub size : length l ≡ N
    pub done : l ≡ mix i (pad N z (map f xs)) (pad N z xs)

  pub mapping_start : (N : ℕ) (z : A) (f : A → A) (xs : List A) (n : ℕ) (l : List A) → n ≡ length xs → n ≤ N → l ≡ pad N z xs → Mapping N z f xs n l 0
  mapping_start N z f xs n l c r e = record { below = omega arith; count = c; room = r; size = ap length e ∙ length-pad N z xs; done = e }

  pub mapping_step : (N : ℕ) (z : A) (f : A → A) (xs : List A) (n : ℕ) (l : List A) (i : ℕ) (v : A) → Mapping N z f xs n l i → i < n → v ≡ f (get_or l i z) → Mapping N z f xs n (set l i v) (i + 1)
  mapping_step N z f xs n l i v m h e =
      let a = pad N z (map f xs) in
      let b = pad N z xs in
      let la : length a ≡ N = length-pad N z (map f xs) in
      let lb : length b ≡ N = length-pad N z xs in
      let same : length a ≡ length b = la ∙ sym lb in
      record {
        below = omega arith;
        count = m.count;
        room = m.room;
        size = length-set l i v ∙ m.size;
        done =
            cc (m.done, e, mix_hi i a b i z same (omega arith) (omega arith), get_or-pad N z xs i (omega arith), get_or-pad N z (map f xs) i (omega arith), get_d_default (map f xs) i z (f z) (omega (arith, length-map xs f)), get_or-map f xs i z, mix_step i a b z (omega arith) (omega arith), add-one i);
      }

  pub mapping_end : (N : ℕ) (z : A) (f : A → A) (xs : List A) (n : ℕ) (l : List A) (i : ℕ) → Mapping N z f xs n l i → n ≤ i → l ≡ pad N z (map f xs)
  mapping_end N z f xs n l i m h =
      let a = pad N z (map f xs) in
      let b = pad N z xs in
      let la : length a ≡ N = length-pad N z (map f xs) in
      let lb : length b ≡ N = length-pad N z xs in
      let lm : length (map f xs) ≡ length xs = length-map xs f in
      m.done ∙ mix_end i a b z (la ∙ sym lb) (omega arith)
      (λ k g. get_or_padded N z (map f xs) k (omega arith) ∙ get_or-eq_default (map f xs) z (omega arith) ∙ sym (get_or_padded N z xs k (omega arith) ∙ get_or-eq_default xs z (omega arith)))

module _ {A B : Type 0} where
  -- ---- the loop that fills r with what f makes of the elements of l

  -- the first i places of r hold what f makes of those of l
  pub record Filling (f : A → B) (N : ℕ) (l : List A) (r : List B) (i : ℕ) : Type 0 where
    pub below : i ≤ N
    pub from : length l ≡ N
    pub size : length r ≡ N
    pub done : take i r ≡ map f (take i l)

  pub filling_start : (f : A → B) (N : ℕ) (l : List A) (r : List B) → length l ≡ N → length r ≡ N → Filling f N l r 0
  filling_start f N l r p q = record { below = omega arith; from = p; size = q; done = refl }

  pub filling_step : (f : A → B) (N : ℕ) (l : List A) (r : List B) (i : ℕ) (z : A) → Filling f N l r i → i < N → Filling f N l (set r i (f (get_or l i z))) (i + 1)
  filling_step f N l r i z w h =
      let x = get_or l i z in
      record {
        below = omega arith;
        from = w.from;
        size = length-set r i (f x) ∙ w.size;
        done =
            ap (λ (k : ℕ). take k (set r i (f x))) (add-one i)
            ∙ take-suc-set r i (f x) (omega (arith, w.size))
            ∙ ap (λ (k : List B). k ++ f x ∷ []) w.done
            ∙ sym (map-append f (take i l) (x ∷ []))
            ∙ ap (λ (k : List A). map f k) (sym (take-suc l i z (omega (arith, w.from))))
            ∙ ap (λ (k : ℕ). map f (take k l)) (sym (add-one i));
      }

  pub filling_end : (f : A → B) (N : ℕ) (l : List A) (r : List B) (i : ℕ) → Filling f N l r i → N ≤ i → r ≡ map f l
  filling_end f N l r i w h =
      sym (take_all i r (omega (arith, w.size)))
      ∙ w.done
      ∙ ap (λ (k : List A). map f k) (take_all i l (omega (arith, w.from)))
