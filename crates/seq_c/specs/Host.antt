-- What the Rust host is told: the number of each answer. Assumes nothing.
use Rattle.std.specs.Prelude.{ℕ, Bool, true, false}
use Rattle.std.specs.declared.cmp.Ordering.{Ordering}
use Rattle.std.specs.declared.cmp.Ordering.TheVariants.{Less, Equal, Greater}
use Rattle.seq.specs.Num.{legal, add, sub, dist, cmp}

-- the number of each case of a comparison
abbrev pub order_number : Ordering → ℕ
order_number Equal = 0
order_number Greater = 1
order_number Less = 2

-- refusal 2, "field out of range", with the top bit set, which no number and no comparison has
abbrev pub illegal : ℕ
illegal = 0x8000_0002

-- the answer where the argument was legal, by its test
abbrev pub granted : Bool → ℕ → ℕ
granted true answer = answer
granted false answer = illegal

-- of a legal n, the answer
unfoldable pub given : ℕ → ℕ → ℕ
given n answer = granted (legal n) answer

abbrev pub host_compare : ℕ → ℕ → ℕ
host_compare a b = given a (given b (order_number (cmp a b)))

abbrev pub host_add : ℕ → ℕ → ℕ
host_add a n = given a (add a n)

abbrev pub host_sub : ℕ → ℕ → ℕ
host_sub a n = given a (sub a n)

abbrev pub host_distance : ℕ → ℕ → ℕ
host_distance a b = given a (given b (dist a b))
