-- The value of digits, read one after the other. Assumes nothing.
use Rattle.std.proofs.Common.{◌≡◌, ℕ, ◌+◌, ◌*◌, ◌-◌, ◌^◌, ◌≤◌, ◌<◌, List, [], ◌∷◌, length, get_or, take, drop, Some, None, sym, ap, ◌∙◌, arith, take-append-drop}
use Rattle.std.specs.List.{prefix_len}
use Rattle.std.proofs.lemmas.List.Sums.{fold-append, fold_more, prefix_len-le-length}
use borrow.Author.Tests.{le-leb, lt-leb}
use Rattle.reading.specs.Words.{is_digit, value_from, value, fitting, most64}

pub value_grows : (n : ℕ) (ds : List ℕ) → n ≤ value_from n ds
value_grows n [] = omega arith
value_grows n (b ∷ bs) = omega (arith, value_grows (10 * n + (b - 48)) bs)

-- what the first digits write is no more than what all of them do
value_so_far : (ds : List ℕ) (i : ℕ) → i < length ds → 10 * value (take i ds) + (get_or ds i 0 - 48) ≤ value ds
value_so_far ds i h =
    let more : value (take (i + 1) ds) ≡ 10 * value (take i ds) + (get_or ds i 0 - 48) = fold_more (λ m b. 10 * m + (b - 48)) 0 ds i 0 h in
    let all : value ds ≡ value_from (value (take (i + 1) ds)) (drop (i + 1) ds) =
    ap value (sym (take-append-drop (i + 1) ds)) ∙ fold-append (λ m b. 10 * m + (b - 48)) 0 (take (i + 1) ds) (drop (i + 1) ds) in
    omega (arith, more, all, value_grows (value (take (i + 1) ds)) (drop (i + 1) ds))

pub too_large : (ds : List ℕ) (v i : ℕ) → v ≡ value (take i ds) → i < length ds → 2 ^ 64 ≤ 10 * v + (get_or ds i 0 - 48) → None ≡ fitting most64 (value ds)
too_large ds v i e h l =
    let g : most64 < value ds = omega (arith, value_so_far ds i h, e) in
    rw (lt-leb (value ds) most64 g)

pub not_too_large : (ds : List ℕ) (v : ℕ) → v ≡ value ds → v < 2 ^ 64 → Some v ≡ fitting most64 (value ds)
not_too_large ds v e h =
    let g : value ds ≤ most64 = omega (arith, e) in
    rw (le-leb (value ds) most64 g) (ap Some e)

pub prefix_within : (n : ℕ) (line : List ℕ) → n ≡ prefix_len is_digit line → n ≤ length line
prefix_within n line e = omega (arith, prefix_len-le-length is_digit line, e)

pub ruleset numbers = (too_large, not_too_large)
