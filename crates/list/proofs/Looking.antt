-- Laws of loops that look at the places of an array: searching, asking, testing. Any element type. Assumes nothing.
use mathlib.Core.Path.{◌≡◌, refl, sym, ap, ◌∙◌}
use mathlib.Core.List.{List, [], ◌∷◌, ◌++◌, append-nil}
use Prim.Native.Nat.{ℕ, zero, suc, ◌+◌, ◌-◌, ◌≤◌, ◌<◌, zero-le}
use mathlib.Core.Bool.{Bool, true, false, not, ◌&&◌, cond, ◌||◌, and-true, and_assoc, or-false, or_assoc}
use native.Mathlib.Nat.{le_of_suc-le-suc, not-suc-le-zero, sub-zero}
use native.Mathlib.Omega.{arith}
use native.Mathlib.Numerals.{add-one}
use lib.ListN.{length, get_or, take, drop, drop_of_length-le, length-take}
use lib.Seq.{drop-cons, take_all, get_or-take, length-take-le, drop-nil, take-nil}
use Rattle.list.specs.Pad.{all_b}
use Rattle.list.specs.Find.{has, keep_by, slot_of}
use mathlib.Core.Logic.{◌⊎◌, inl, inr}
use borrow.Author.Tests.{ltb-true, ltb-false, lt-ltb, le-ltb, not-true, not-false}
use lib.Dec.{ltb}
use Rattle.list.proofs.Pad.{all_b_hit, all_b-step, all_b_end}
use Rattle.list.proofs.Tests.{either_way}
use Rattle.list.proofs.Find.{keep_append}
use Rattle.list.proofs.Positions.{drop_here, drop_more, slot_cons, slot_nil, take_more}

module _ {A : Type 0} where
  -- ---- those that pass, one more element of the front

  pub keep_yes : (f : A → Bool) (n : ℕ) (l : List A) (i : ℕ) (z : A) → i < n → n ≤ length l → f (get_or l i z) ≡ true → keep_by f (take i (take n l)) ++ get_or l i z ∷ [] ≡ keep_by f (take (i + 1) (take n l))
  unfolding keep_by
  keep_yes f n l i z h k q = sym (rw (take_more n l i z h k, keep_append, q))

  pub keep_no : (f : A → Bool) (n : ℕ) (l : List A) (i : ℕ) (z : A) → i < n → n ≤ length l → f (get_or l i z) ≡ false → keep_by f (take i (take n l)) ≡ keep_by f (take (i + 1) (take n l))
  unfolding keep_by
  keep_no f n l i z h k q = sym (rw (take_more n l i z h k, keep_append, q) (append-nil (keep_by f (take i (take n l)))))

  -- ---- the loop that looks for the first that passes among the first n of an array of N places: what is found from place i on is what is found

  pub record Finding (f : A → Bool) (N n : ℕ) (l : List A) (i : ℕ) : Type 0 where
    pub below : i ≤ n
    pub room : n ≤ N
    pub size : length l ≡ N
    pub rest : i + slot_of f (drop i (take n l)) ≡ slot_of f (take n l)

  pub finding_start : (f : A → Bool) (N n : ℕ) (l : List A) → n ≤ N → length l ≡ N → Finding f N n l 0
  finding_start f N n l h e = record { below = omega arith; room = h; size = e; rest = omega arith }

  pub finding_hit : (f : A → Bool) (N n : ℕ) (l : List A) (i : ℕ) (z : A) → Finding f N n l i → i < n → f (get_or l i z) ≡ true → i ≡ slot_of f (take n l)
  finding_hit f N n l i z s h q =
      let e : slot_of f (drop i (take n l)) ≡ 0 = rw (drop_more n l i z h (omega arith), slot_cons, q) in
      omega (arith, s.rest)

  pub finding_miss : (f : A → Bool) (N n : ℕ) (l : List A) (i : ℕ) (z : A) → Finding f N n l i → i < n → f (get_or l i z) ≡ false → Finding f N n l (i + 1)
  finding_miss f N n l i z s h q =
      let e : slot_of f (drop i (take n l)) ≡ suc (slot_of f (drop (i + 1) (take n l))) = rw (drop_more n l i z h (omega arith), slot_cons, q) in
      record { below = omega arith; room = s.room; size = s.size; rest = omega (arith, s.rest) }

  pub finding_end : (f : A → Bool) (N n : ℕ) (l : List A) (i : ℕ) → Finding f N n l i → n ≤ i → i ≡ slot_of f (take n l)
  finding_end f N n l i s h =
      let e : slot_of f (drop i (take n l)) ≡ 0 = rw (drop_of_length-le (take n l) {i = i} (omega (arith, length-take n l))) (slot_nil f) in
      omega (arith, s.rest)

-- ---- the loop that asks whether one of the first n passes

-- the first i of the first n places of an array failed the test: what is left of the search is the whole search
pub record Asking {A : Type 0} (f : A → Bool) (room : ℕ) (a : List A) (n i : ℕ) : Type 0 where
  pub below : n ≤ room
  pub inside : i ≤ n
  pub places : length a ≡ room
  pub rest : has f (drop i (take n a)) ≡ has f (take n a)

module _ {A : Type 0} (f : A → Bool) (z : A) (room : ℕ) (a : List A) (n : ℕ) where
  pub asking_start : n ≤ room → length a ≡ room → Asking f room a n 0
  asking_start h e = record { below = h; inside = omega arith; places = e; rest = refl }

  asked : (i : ℕ) → Asking f room a n i → i < n → (t : Bool) → f (get_or a i z) ≡ t → has f (take n a) ≡ (t || has f (drop (suc i) (take n a)))
  unfolding has
  asked i w h t e =
      let l : length (take n a) ≡ n = length-take-le n a (omega (arith, w.places, w.below)) in
      let p : f (get_or (take n a) i z) ≡ t = rw (get_or-take n a i z h) e in
      sym w.rest ∙ rw (drop-cons (take n a) i z (omega arith), p)

  pub asking_hit : (i : ℕ) → Asking f room a n i → i < n → f (get_or a i z) ≡ true → has f (take n a) ≡ true
  asking_hit i w h e = asked i w h true e

  pub asking_step : (i : ℕ) → Asking f room a n i → i < n → f (get_or a i z) ≡ false → Asking f room a n (i + 1)
  asking_step i w h e =
      let p : i + 1 ≡ suc i = add-one i in
      record { below = w.below; inside = omega arith; places = w.places; rest = rw p (sym (asked i w h false e)) }

  pub asking_end : (i : ℕ) → Asking f room a n i → n ≤ i → has f (take n a) ≡ false
  unfolding has
  asking_end i w h =
      let l : length (take n a) ≡ n = length-take-le n a (omega (arith, w.places, w.below)) in
      sym w.rest ∙ ap (λ (m : List A). has f m) (drop_of_length-le (take n a) {i = i} (omega arith))

-- ---- the loop that stops at the first of an array's N places that fails

-- those before place i pass: what is left of the test is the whole test
pub record Passing {A : Type 0} (f : A → Bool) (N : ℕ) (l : List A) (whole : Bool) (i : ℕ) : Type 0 where
  pub below : i ≤ N
  pub size : length l ≡ N
  pub rest : all_b f (drop i l) ≡ whole

module _ {A : Type 0} (f : A → Bool) (N : ℕ) (l : List A) where
  pub passing_start : length l ≡ N → Passing f N l (all_b f l) 0
  passing_start h = record { below = omega arith; size = h; rest = refl }

  module _ (whole : Bool) (i : ℕ) (s : Passing f N l whole i) where
    pub passing_hit : (b : Bool) (d : A) → i < N → b ≡ f (get_or l i d) → not b ≡ true → false ≡ whole
    passing_hit b d h e q = sym (all_b_hit f d l i (omega (arith, s.size)) (sym e ∙ not-true b q)) ∙ s.rest

    pub passing_step : (b : Bool) (d : A) → i < N → b ≡ f (get_or l i d) → not b ≡ false → Passing f N l whole (i + 1)
    passing_step b d h e q =
        record { below = omega arith; size = s.size; rest = all_b-step f d l i (omega (arith, s.size)) (sym e ∙ not-false b q) ∙ s.rest }

    pub passing_end : N ≤ i → true ≡ whole
    passing_end h = sym (all_b_end f l i (omega (arith, s.size))) ∙ s.rest

module _ {A : Type 0} where
  -- ---- all places of an array tested: f of those below n, g of those from n on

  unfoldable pub tested : (A → Bool) → (A → Bool) → ℕ → List A → Bool
  tested f g n [] = true
  tested f g zero (x ∷ l) = g x && tested f g zero l
  tested f g (suc n) (x ∷ l) = f x && tested f g n l

  pub tested_parts : (f g : A → Bool) (n : ℕ) (l : List A) → tested f g n l ≡ all_b f (take n l) && all_b g (drop n l)
  unfolding tested all_b
  tested_parts f g zero [] = refl
  tested_parts f g (suc n) [] = refl
  tested_parts f g zero (x ∷ l) = ap (λ (b : Bool). g x && b) (tested_parts f g zero l)
  tested_parts f g (suc n) (x ∷ l) = ap (λ (b : Bool). f x && b) (tested_parts f g n l) ∙ sym (and_assoc (f x) (all_b f (take n l)) (all_b g (drop n l)))

  pub tested_low : (f g : A → Bool) (n : ℕ) (l : List A) (i : ℕ) (z : A) → i < length l → i < n → tested f g n (take (suc i) l) ≡ tested f g n (take i l) && f (get_or l i z)
  unfolding tested
  tested_low f g n [] i z h k = absurd (not-suc-le-zero h)
  tested_low f g zero (x ∷ l) i z h k = absurd (not-suc-le-zero k)
  tested_low f g (suc n) (x ∷ l) zero z h k = and-true (f x)
  tested_low f g (suc n) (x ∷ l) (suc i) z h k =
      ap (λ (b : Bool). f x && b) (tested_low f g n l i z (le_of_suc-le-suc h) (le_of_suc-le-suc k)) ∙ sym (and_assoc (f x) (tested f g n (take i l)) (f (get_or l i z)))

  pub tested_high : (f g : A → Bool) (n : ℕ) (l : List A) (i : ℕ) (z : A) → i < length l → n ≤ i → tested f g n (take (suc i) l) ≡ tested f g n (take i l) && g (get_or l i z)
  unfolding tested
  tested_high f g n [] i z h k = absurd (not-suc-le-zero h)
  tested_high f g zero (x ∷ l) zero z h k = and-true (g x)
  tested_high f g zero (x ∷ l) (suc i) z h k =
      ap (λ (b : Bool). g x && b) (tested_high f g zero l i z (le_of_suc-le-suc h) zero-le) ∙ sym (and_assoc (g x) (tested f g zero (take i l)) (g (get_or l i z)))
  tested_high f g (suc n) (x ∷ l) zero z h k = absurd (not-suc-le-zero k)
  tested_high f g (suc n) (x ∷ l) (suc i) z h k =
      ap (λ (b : Bool). f x && b) (tested_high f g n l i z (le_of_suc-le-suc h) (le_of_suc-le-suc k)) ∙ sym (and_assoc (f x) (tested f g n (take i l)) (g (get_or l i z)))

  -- the loop of N turns with no way out: good is what has been tested
  pub record Testing (f g : A → Bool) (N n : ℕ) (l : List A) (good : Bool) (i : ℕ) : Type 0 where
    pub below : i ≤ N
    pub size : length l ≡ N
    pub so : good ≡ tested f g n (take i l)

  pub testing_start : (f g : A → Bool) (N n : ℕ) (l : List A) → length l ≡ N → Testing f g N n l true 0
  unfolding tested
  testing_start f g N n l h = record { below = omega arith; size = h; so = refl }

  pub testing_step : (f g : A → Bool) (N n : ℕ) (l : List A) (good : Bool) (i : ℕ) (z : A) (b : Bool) → Testing f g N n l good i → i < N → b ≡ cond (ltb i n) (f (get_or l i z)) (g (get_or l i z)) → Testing f g N n l (good && b) (i + 1)
  testing_step f g N n l good i z b t h e =
      record { below = omega arith; size = t.size; so = rw add-one (at (either_way (ltb i n))) }
    where
      at : (ltb i n ≡ true) ⊎ (ltb i n ≡ false) → good && b ≡ tested f g n (take (suc i) l)
      at (inl p) = cc (t.so, e, p, tested_low f g n l i z (omega arith) (ltb-true i n p))
      at (inr p) = cc (t.so, e, p, tested_high f g n l i z (omega arith) (ltb-false i n p))

  pub testing_end : (f g : A → Bool) (N n : ℕ) (l : List A) (good : Bool) (i : ℕ) → Testing f g N n l good i → N ≤ i → good ≡ all_b f (take n l) && all_b g (drop n l)
  testing_end f g N n l good i t h = t.so ∙ ap (tested f g n) (take_all i l (omega arith)) ∙ tested_parts f g n l

  -- ---- a loop over all places whose test looks at those from n on

  past_in : (f : A → Bool) (z : A) (l : List A) (n i : ℕ) (good : Bool) → i < length l → i < n → good && (ltb i n || f (get_or l i z)) && all_b f (drop (n - (i + 1)) (drop (i + 1) l)) ≡ good && all_b f (drop (n - i) (drop i l))
  past_in f z l n i good h m =
      let e : n - i ≡ suc (n - (i + 1)) = omega arith in
      rw (drop_here l i z h, e, lt-ltb i n m, and-true good)

  past_out : (f : A → Bool) (z : A) (l : List A) (n i : ℕ) (good : Bool) → i < length l → n ≤ i → good && (ltb i n || f (get_or l i z)) && all_b f (drop (n - (i + 1)) (drop (i + 1) l)) ≡ good && all_b f (drop (n - i) (drop i l))
  unfolding all_b
  past_out f z l n i good h m =
      let e : n - i ≡ 0 = omega arith in
      let d : n - (i + 1) ≡ 0 = omega arith in
      rw (drop_here l i z h, e, d, le-ltb i n m) (and_assoc good (f (get_or l i z)) (all_b f (drop (i + 1) l)))

  -- the places from n on, of which those before i are behind: one turn
  pub past_turn : (f : A → Bool) (z : A) (l : List A) (n i : ℕ) (good : Bool) → i < length l → good && (ltb i n || f (get_or l i z)) && all_b f (drop (n - (i + 1)) (drop (i + 1) l)) ≡ good && all_b f (drop (n - i) (drop i l))
  past_turn f z l n i good h = at (ltb i n) refl
    where
      at : (t : Bool) → ltb i n ≡ t → good && (ltb i n || f (get_or l i z)) && all_b f (drop (n - (i + 1)) (drop (i + 1) l)) ≡ good && all_b f (drop (n - i) (drop i l))
      at true p = past_in f z l n i good h (ltb-true i n p)
      at false p = past_out f z l n i good h (ltb-false i n p)

  pub record Past (f : A → Bool) (l : List A) (N n i : ℕ) (good : Bool) : Type 0 where
    pub below : i ≤ N
    pub size : length l ≡ N
    pub rest : good && all_b f (drop (n - i) (drop i l)) ≡ all_b f (drop n l)

  pub past_start : (f : A → Bool) (l : List A) (N n : ℕ) → length l ≡ N → Past f l N n 0 true
  past_start f l N n h = record { below = zero-le; size = h; rest = ap (λ (k : ℕ). all_b f (drop k l)) (sub-zero n) }

  pub past_step : (f : A → Bool) (z : A) (l : List A) (N n i : ℕ) (good : Bool) → Past f l N n i good → i < N → Past f l N n (i + 1) (good && (ltb i n || f (get_or l i z)))
  past_step f z l N n i good p h = record { below = omega arith; size = p.size; rest = past_turn f z l n i good (omega (arith, p.size)) ∙ p.rest }

  pub past_end : (f : A → Bool) (l : List A) (N n i : ℕ) (good : Bool) → Past f l N n i good → N ≤ i → good ≡ all_b f (drop n l)
  unfolding all_b
  past_end f l N n i good p h =
      let e : drop (n - i) (drop i l) ≡ [] = ap (λ (r : List A). drop (n - i) r) (drop_of_length-le l {i = i} (omega (arith, p.size))) ∙ drop-nil (n - i) in
      sym (and-true good) ∙ ap (λ (r : List A). good && all_b f r) (sym e) ∙ p.rest

  -- ---- and at those below n

  within_in : (f : A → Bool) (z : A) (l : List A) (n i : ℕ) (found : Bool) → i < length l → i < n → (found || ltb i n && f (get_or l i z) || has f (take (n - (i + 1)) (drop (i + 1) l))) ≡ (found || has f (take (n - i) (drop i l)))
  unfolding has
  within_in f z l n i found h m =
      let e : n - i ≡ suc (n - (i + 1)) = omega arith in
      rw (drop_here l i z h, e, lt-ltb i n m) (or_assoc found (f (get_or l i z)) (has f (take (n - (i + 1)) (drop (i + 1) l))))

  within-out : (f : A → Bool) (z : A) (l : List A) (n i : ℕ) (found : Bool) → i < length l → n ≤ i → (found || ltb i n && f (get_or l i z) || has f (take (n - (i + 1)) (drop (i + 1) l))) ≡ (found || has f (take (n - i) (drop i l)))
  unfolding has
  within-out f z l n i found h m =
      let e : n - i ≡ 0 = omega arith in
      let d : n - (i + 1) ≡ 0 = omega arith in
      rw (e, d, le-ltb i n m) (ap (λ (r : Bool). r || false) (or-false found))

  -- the places before n, of which those before i are behind: one turn
  pub within_turn : (f : A → Bool) (z : A) (l : List A) (n i : ℕ) (found : Bool) → i < length l → (found || ltb i n && f (get_or l i z) || has f (take (n - (i + 1)) (drop (i + 1) l))) ≡ (found || has f (take (n - i) (drop i l)))
  within_turn f z l n i found h = at (ltb i n) refl
    where
      at : (t : Bool) → ltb i n ≡ t → (found || ltb i n && f (get_or l i z) || has f (take (n - (i + 1)) (drop (i + 1) l))) ≡ (found || has f (take (n - i) (drop i l)))
      at true p = within_in f z l n i found h (ltb-true i n p)
      at false p = within-out f z l n i found h (ltb-false i n p)

  pub record Within (f : A → Bool) (l : List A) (N n i : ℕ) (found : Bool) : Type 0 where
    pub below : i ≤ N
    pub size : length l ≡ N
    pub rest : (found || has f (take (n - i) (drop i l))) ≡ has f (take n l)

  pub within-start : (f : A → Bool) (l : List A) (N n : ℕ) → length l ≡ N → Within f l N n 0 false
  within-start f l N n h = record { below = zero-le; size = h; rest = ap (λ (k : ℕ). has f (take k l)) (sub-zero n) }

  pub within_step : (f : A → Bool) (z : A) (l : List A) (N n i : ℕ) (found : Bool) → Within f l N n i found → i < N → Within f l N n (i + 1) (found || ltb i n && f (get_or l i z))
  within_step f z l N n i found p h = record { below = omega arith; size = p.size; rest = within_turn f z l n i found (omega (arith, p.size)) ∙ p.rest }

  pub within_end : (f : A → Bool) (l : List A) (N n i : ℕ) (found : Bool) → Within f l N n i found → N ≤ i → found ≡ has f (take n l)
  unfolding has
  within_end f l N n i found p h =
      let e : take (n - i) (drop i l) ≡ [] = ap (λ (r : List A). take (n - i) r) (drop_of_length-le l {i = i} (omega (arith, p.size))) ∙ take-nil (n - i) in
      sym (or-false found) ∙ ap (λ (r : List A). found || has f r) (sym e) ∙ p.rest
