-- Laws on the sum of a list of numbers, and of the loop that adds them up. Assumes nothing.
use mathlib.Core.Path.{◌≡◌, refl, sym, ap, ◌∙◌}
use mathlib.Core.List.{List, [], ◌∷◌, map}
use Prim.Native.Nat.{ℕ, zero, suc, ◌+◌, ◌*◌, ◌≤◌, ◌<◌, zero-le}
use native.Mathlib.Nat.{le_of_suc-le-suc, not-suc-le-zero, zero-add}
use native.Mathlib.Omega.{arith}
use native.Mathlib.Numerals.{add-one}
use mir.Syntax.{w32, w64}
use mir.Val.{Fits}
use lib.ListN.{length, get_or, drop, length-append, drop_of_length-le}
use lib.Seq.{drop-cons}
use Rattle.list.specs.Pad.{pad}
use Rattle.list.specs.Find.{joined, sum}

pub sum-pad : (n : ℕ) (xs : List ℕ) → length xs ≤ n → sum (pad n 0 xs) ≡ sum xs
unfolding pad sum
sum-pad zero [] h = refl
sum-pad zero (x ∷ xs) h = absurd (not-suc-le-zero h)
sum-pad (suc n) [] h = zero-add (sum (pad n 0 [])) ∙ sum-pad n [] zero-le
sum-pad (suc n) (x ∷ xs) h = ap (λ (k : ℕ). x + k) (sum-pad n xs (le_of_suc-le-suc h))

-- the lengths of lists add up to the length of them joined
pub sum_lengths : {A : Type 0} (ls : List (List A)) → sum (map (λ (l : List A). length l) ls) ≡ length (joined ls)
unfolding joined sum
sum_lengths [] = refl
sum_lengths (l ∷ ls) = ap (λ (n : ℕ). length l + n) (sum_lengths ls) ∙ sym (length-append l (joined ls))

-- the loop that adds up N numbers: what was added, and what is left to add
pub record Summing (N : ℕ) (l : List ℕ) (s i : ℕ) : Type 0 where
  pub below : i ≤ N
  pub short : N ≤ 64
  pub length_is : length l ≡ N
  pub small : s ≤ i * 0xFFFF_FFFF
  pub rest : s + sum (drop i l) ≡ sum l

pub sum-start : (N : ℕ) (l : List ℕ) → N ≤ 64 → length l ≡ N → Summing N l 0 0
sum-start N l k h = record { below = zero-le; short = k; length_is = h; small = zero-le; rest = zero-add (sum l) }

pub sum_fits : (N : ℕ) (l : List ℕ) (s i : ℕ) → Summing N l s i → i < N → Fits w32 (get_or l i 0) → Fits w64 (s + get_or l i 0)
sum_fits N l s i c h f = record { fits = omega (arith, c.small, c.short, f.fits) }

pub sum_step : (N : ℕ) (l : List ℕ) (s i : ℕ) → Summing N l s i → i < N → Fits w32 (get_or l i 0) → Summing N l (s + get_or l i 0) (i + 1)
unfolding sum
sum_step N l s i c h f =
    let d : drop i l ≡ get_or l i 0 ∷ drop (suc i) l = drop-cons l i 0 (omega (arith, c.length_is)) in
    let e : sum (drop i l) ≡ get_or l i 0 + sum (drop (suc i) l) = ap sum d in
    let k : sum (drop (i + 1) l) ≡ sum (drop (suc i) l) = ap (λ (m : ℕ). sum (drop m l)) (add-one i) in
    record { below = omega arith; short = c.short; length_is = c.length_is; small = omega (arith, c.small, f.fits); rest = omega (arith, c.rest) }

pub sum_done : (N : ℕ) (l : List ℕ) (s i : ℕ) → Summing N l s i → N ≤ i → s ≡ sum l
unfolding sum
sum_done N l s i c h =
    let e : sum (drop i l) ≡ 0 = ap sum (drop_of_length-le l {i = i} (omega (arith, c.length_is))) in
    omega (arith, c.rest)
