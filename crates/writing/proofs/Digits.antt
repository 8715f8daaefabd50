-- A number's digits: one more than its tenth has, at most ten for a u32; and read back they give the number. Assumes nothing.
use mathlib.Core.Path.{◌≡◌, refl, sym, ap, ◌∙◌}
use mathlib.Core.Bool.{Bool, true, false}
use mathlib.Core.List.{List, [], ◌∷◌, ◌++◌}
use Prim.Native.Nat.{ℕ, zero, suc, ◌+◌, ◌*◌, ◌-◌, ◌/◌, ◌%◌, ◌^◌, ◌≤◌, ◌<◌}
use native.Mathlib.Nat.{pow-succ'}
use native.Mathlib.Omega.{arith}
use lib.Dec.{ltb}
use lib.ListN.{length, get_or, length-append, get_or-append}
use borrow.Author.Tests.{ltb-true, ltb-false, le-leb, ne_eqb}
use Rattle.list.specs.Pad.{all_b}
use Rattle.list.proofs.Pad.{and_left, and_right}
use Rattle.list.proofs.Tests.{all_b_snoc}
use Rattle.reading.specs.Words.{is_digit, digits as run, leading, value_from, value, read, number_of}
use lib.Seq.{take_at, drop_at}
use Rattle.std.specs.declared.option.Option.TheVariants.{Some}
use Rattle.std.specs.Fmt.{decimal}
use Rattle.std.proofs.lemmas.Fmt.{decimal_by_steps}
use Rattle.std.proofs.lemmas.List.Folds.{length-prefix_len}
use Rattle.writing.specs.Answers.{last_after, digits_n, digits}

-- fuel above the number changes nothing
same_digits : (k m n : ℕ) → n < k → n < m → digits_n k n ≡ digits_n m n
unfolding digits_n
same_digits zero m n h g = absurd (omega arith)
same_digits (suc k) zero n h g = absurd (omega arith)
same_digits (suc k) (suc m) n h g = at (n / 10) refl (λ x a b. same_digits k m x a b)
  where
    at : (t : ℕ) → n / 10 ≡ t → ((x : ℕ) → x < k → x < m → digits_n k x ≡ digits_n m x) → last_after t (digits_n k) (48 + n % 10) ≡ last_after t (digits_n m) (48 + n % 10)
    at zero p ih = refl
    at (suc q) p ih = ap (λ (ds : List ℕ). ds ++ (48 + n % 10) ∷ []) (ih (suc q) (omega arith) (omega arith))

pub digits_small : (n : ℕ) → n < 10 → digits n ≡ (48 + n) ∷ []
unfolding digits digits_n
digits_small n h =
    let z : n / 10 ≡ 0 = omega arith in
    let e : n % 10 ≡ n = omega arith in
    rw (z, e)

pub digits_more : (n : ℕ) → 10 ≤ n → digits n ≡ digits (n / 10) ++ (48 + n % 10) ∷ []
unfolding digits digits_n
digits_more n h = at (n / 10) refl
  where
    at : (t : ℕ) → n / 10 ≡ t → last_after t (digits_n n) (48 + n % 10) ≡ digits t ++ (48 + n % 10) ∷ []
    at zero p = absurd (omega arith)
    at (suc q) p = ap (λ (ds : List ℕ). ds ++ (48 + n % 10) ∷ []) (same_digits n (suc (suc q)) (suc q) (omega arith) (omega arith))

-- they are those that the library writes
pub decimal_is : (n : ℕ) → n < 2 ^ 64 → decimal n ≡ digits n
decimal_is n h =
    decimal_by_steps (λ m ds. ds ≡ digits m) (λ m l. sym (digits_small m l))
    (λ m ds l e. ap (λ (x : List ℕ). x ++ (48 + m % 10) ∷ []) e ∙ sym (digits_more m l)) n h

-- ---- how many there are

pub digits-short : (k n : ℕ) → n < 10 ^ suc k → length (digits n) ≤ suc k
digits-short zero n h = omega (arith, ap length (digits_small n h))
digits-short (suc k) n h = at (ltb n 10) refl (λ a. digits-short k (n / 10) a)
  where
    at : (t : Bool) → ltb n 10 ≡ t → (n / 10 < 10 ^ suc k → length (digits (n / 10)) ≤ suc k) → length (digits n) ≤ suc (suc k)
    at true p ih = omega (arith, ap length (digits_small n (ltb-true n 10 p)))
    at false p ih =
        let b : n / 10 < 10 ^ suc k = omega (arith, pow-succ' 10 (suc k)) in
        omega (arith, ih b, ap length (digits_more n (ltb-false n 10 p)), length-append (digits (n / 10)) ((48 + n % 10) ∷ []))

-- ---- read back

value_last : (m : ℕ) (ds : List ℕ) (d : ℕ) → value_from m (ds ++ (48 + d) ∷ []) ≡ 10 * value_from m ds + d
value_last m [] d = omega arith
value_last m (b ∷ ds) d = value_last (10 * m + (b - 48)) ds d

value_back : (k n : ℕ) → n < k → value (digits n) ≡ n
value_back zero n h = absurd (omega arith)
value_back (suc k) n h = at (ltb n 10) refl (λ a. value_back k (n / 10) a)
  where
    at : (t : Bool) → ltb n 10 ≡ t → (n / 10 < k → value (digits (n / 10)) ≡ n / 10) → value (digits n) ≡ n
    at true p ih = rw (digits_small n (ltb-true n 10 p)) (omega arith)
    at false p ih =
        let l : 10 ≤ n = ltb-false n 10 p in
        let v : value (digits (n / 10)) ≡ n / 10 = ih (omega arith) in
        rw (digits_more n l, value_last 0 (digits (n / 10)) (n % 10), v) (omega arith)

-- "Numbers are decimal": the digits have the number's value
pub value-digits : (n : ℕ) → value (digits n) ≡ n
value-digits n = value_back (suc n) n (omega arith)

glyph_digit : (d : ℕ) → d < 10 → is_digit (48 + d) ≡ true
glyph_digit d h = rw (le-leb 48 (48 + d) (omega arith), le-leb (48 + d) 57 (omega arith))

all_back : (k n : ℕ) → n < k → all_b is_digit (digits n) ≡ true
unfolding all_b
all_back zero n h = absurd (omega arith)
all_back (suc k) n h = at (ltb n 10) refl (λ a. all_back k (n / 10) a)
  where
    at : (t : Bool) → ltb n 10 ≡ t → (n / 10 < k → all_b is_digit (digits (n / 10)) ≡ true) → all_b is_digit (digits n) ≡ true
    at true p ih = rw (digits_small n (ltb-true n 10 p), glyph_digit n (ltb-true n 10 p))
    at false p ih =
        let l : 10 ≤ n = ltb-false n 10 p in
        rw (digits_more n l) (all_b_snoc is_digit (digits (n / 10)) (48 + n % 10) (ih (omega arith)) (glyph_digit (n % 10) (omega arith)))

-- all of them are digits
pub all_digits : (n : ℕ) → all_b is_digit (digits n) ≡ true
all_digits n = all_back (suc n) n (omega arith)

run_all : (ds rest : List ℕ) → all_b is_digit ds ≡ true → run rest ≡ 0 → run (ds ++ rest) ≡ length ds
unfolding all_b
run_all [] rest h z = z
run_all (b ∷ ds) rest h z =
    rw (and_left (is_digit b) (all_b is_digit ds) h) (omega (arith, run_all ds rest (and_right (is_digit b) (all_b is_digit ds) h) z))

some_back : (k n : ℕ) → n < k → length (digits n) ≡ 0 → ⊥
some_back zero n h z = omega arith
some_back (suc k) n h z = at (ltb n 10) refl
  where
    at : (t : Bool) → ltb n 10 ≡ t → ⊥
    at true p = omega (arith, ap length (digits_small n (ltb-true n 10 p)))
    at false p = omega (arith, ap length (digits_more n (ltb-false n 10 p)), length-append (digits (n / 10)) ((48 + n % 10) ∷ []))

-- what is written is read back: a number that fits, before anything that begins with no digit
pub read_back : (n most : ℕ) (rest : List ℕ) → n ≤ most → leading rest ≡ [] → number_of most (digits n ++ rest) ≡ Some (read n rest)
unfolding number_of
read_back n most rest h e =
    let z : run rest ≡ 0 = omega (arith, length-prefix_len is_digit rest, ap length e) in
    rw (run_all (digits n) rest (all_digits n) z, take_at (digits n) rest (length (digits n)) refl, drop_at (digits n) rest (length (digits n)) refl, ne_eqb (length (digits n)) 0 (some_back (suc n) n (omega arith)), value-digits n, le-leb n most h)

-- "without leading zeros": no number but 0 begins with `0`
first_back : (k n : ℕ) → n < k → 0 < n → 48 < get_or (digits n) 0 0
first_back zero n h p = absurd (omega arith)
first_back (suc k) n h p = at (ltb n 10) refl (λ a b. first_back k (n / 10) a b)
  where
    at : (t : Bool) → ltb n 10 ≡ t → (n / 10 < k → 0 < n / 10 → 48 < get_or (digits (n / 10)) 0 0) → 48 < get_or (digits n) 0 0
    at true q ih = rw (digits_small n (ltb-true n 10 q)) (omega arith)
    at false q ih =
        let l : 10 ≤ n = ltb-false n 10 q in
        let s : 0 < length (digits (n / 10)) = omega (arith, some_back (suc (n / 10)) (n / 10) (omega arith)) in
        rw (digits_more n l, get_or-append (digits (n / 10)) ((48 + n % 10) ∷ []) 0 0 s) (ih (omega arith) (omega arith))

pub no_leading-zero : (n : ℕ) → 0 < n → 48 < get_or (digits n) 0 0
no_leading-zero n h = first_back (suc n) n (omega arith) h
