-- The numbers against RFC 1982, as a statement: at 28 bits the comparison, the sum and the number source are the RFC's wherever it defines
-- one. What the RFC defines stands in seq's Rfc1982, what the port computes in its Num.
use Rattle.std.specs.Prelude.{◌≡◌, true, ℕ, ◌<◌, ◌⊎◌}
use Rattle.std.specs.declared.cmp.Ordering.TheVariants.{Less, Equal, Greater}
use Rattle.seq.specs.Num.{legal, add, dist, cmp, observe_s}
use Rattle.seq.specs.Rfc1982.{Serial, Addable, sum, Same, Before, After, Ordered}

-- each way
abbrev pub Iff : Type 0 → Type 0 → Type 0
Iff P Q = (P → Q) × (Q → P)

pub record AsTheRfc : Type 0 where
  -- "A sequence number is 0 to 0x0FFFFFFF": the RFC's serial numbers
  pub legal_serial : (n : ℕ) → Iff (legal n ≡ true) (Serial n)
  -- Equal is the RFC's equality, and Less its "less than", of any two serial numbers
  pub equal_iff : (a b : ℕ) → Serial a → Serial b → Iff (cmp a b ≡ Equal) (Same a b)
  pub less_iff : (a b : ℕ) → Serial a → Serial b → Iff (cmp a b ≡ Less) (Before a b)
  -- what the RFC says is greater compares Greater; and what compares Greater is greater, wherever the RFC orders the pair
  pub after_greater : (a b : ℕ) → Serial a → Serial b → After a b → cmp a b ≡ Greater
  pub greater_iff : (a b : ℕ) → Serial a → Serial b → Ordered a b → Iff (cmp a b ≡ Greater) (After a b)
  -- the pairs that the RFC leaves without an order are those at a distance of 2^27, and they compare Greater both ways
  pub undefined_iff : (a b : ℕ) → Serial a → Serial b → Iff (Ordered a b → ⊥) (dist a b ≡ 0x800_0000)
  pub half_greater : (a b : ℕ) → Serial a → Serial b → dist a b ≡ 0x800_0000 → (cmp a b ≡ Greater) × (cmp b a ≡ Greater)
  -- the sum, wherever the RFC defines it; every sum is a serial number; and of 1 or more it is greater than the number added to
  pub add_agrees : (a n : ℕ) → Serial a → Addable n → add a n ≡ sum a n
  pub add_serial : (a n : ℕ) → Serial (add a n)
  pub add_after : (a n : ℕ) → Serial a → Addable n → 0 < n → After (add a n) a
  -- `observe` stays, or moves to the number after seq where that compares Greater; its number stays legal
  pub observe_moves : (next seq : ℕ) → (observe_s next seq ≡ next) ⊎ ((observe_s next seq ≡ add seq 1) × (cmp (add seq 1) next ≡ Greater))
  pub observe_serial : (next seq : ℕ) → Serial next → Serial (observe_s next seq)
  -- it never moves back in the RFC's sense, and moves forward where the RFC orders the pair
  pub observe_not_back : (next seq : ℕ) → Serial next → Before (observe_s next seq) next → ⊥
  pub observe_forward : (next seq : ℕ) → Serial next → Ordered (observe_s next seq) next → Same (observe_s next seq) next ⊎ After (observe_s next seq) next
  -- `alloc` of a count that the RFC defines leaves the RFC's sum, which is greater than the number it answers
  pub alloc_forward : (next count : ℕ) → Serial next → Addable count → 0 < count → (add next count ≡ sum next count) × After (add next count) next
