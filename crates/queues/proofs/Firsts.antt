-- The first numbers of up to four groups are distinct: each is compared with those before it.
use Rattle.std.proofs.Common.{◌≡◌, ℕ, zero, suc, ◌≤◌, Bool, true, false, not, ◌&&◌, ◌||◌, List, [], ◌∷◌, map, length, take, get_or, refl, arith}
use lib.Dec.{eqb, ltb}
use Rattle.list.specs.Find.{has}
use Rattle.model.specs.Wellformed.{distinct, same_first}
use Rattle.queues.specs.declared.groups.Fragments.{Fragments}
use Rattle.queues.specs.Places.{group_of}

all_six : (ab ac bc ad bd cd : Bool) → not ab && (not ac && not bc) && (not ad && not bd && not cd) ≡ not (ab || (ac || (ad || false))) && (not (bc || (bd || false)) && (not (cd || false) && (not false && true)))
all_six true ac bc ad bd cd = refl
all_six false true bc ad bd cd = refl
all_six false false true true bd cd = refl
all_six false false true false bd cd = refl
all_six false false false true bd cd = refl
all_six false false false false true cd = refl
all_six false false false false false true = refl
all_six false false false false false false = refl

three_of : (ab ac bc : Bool) → not ab && (not ac && not bc) && true ≡ not (ab || (ac || false)) && (not (bc || false) && (not false && true))
three_of true ac bc = refl
three_of false true bc = refl
three_of false false true = refl
three_of false false false = refl

two_of : (ab : Bool) → not ab && true && true ≡ not (ab || false) && (not false && true)
two_of true = refl
two_of false = refl

-- what is read past the array
abbrev pub outside : Fragments
outside = record { updated = 0; first = 0; len = 0; count = 0; marks = []; handles = [] }

abbrev pub first_at : List Fragments → ℕ → ℕ
first_at l i = (get_or l i outside).first

pub firsts_are : (l : List Fragments) (n : ℕ) → length l ≡ 4 → n ≤ 4 → (ltb n 2 || not (eqb (first_at l 1) (first_at l 0))) && (ltb n 3 || not (eqb (first_at l 2) (first_at l 0)) && not (eqb (first_at l 2) (first_at l 1))) && (ltb n 4 || not (eqb (first_at l 3) (first_at l 0)) && not (eqb (first_at l 3) (first_at l 1)) && not (eqb (first_at l 3) (first_at l 2))) ≡ distinct same_first (map group_of (take n l))
unfolding distinct has
firsts_are [] n e h = absurd (omega arith)
firsts_are (a ∷ []) n e h = absurd (omega arith)
firsts_are (a ∷ b ∷ []) n e h = absurd (omega arith)
firsts_are (a ∷ b ∷ c ∷ []) n e h = absurd (omega arith)
firsts_are (a ∷ b ∷ c ∷ d ∷ x ∷ l) n e h = absurd (omega arith)
firsts_are (a ∷ b ∷ c ∷ d ∷ []) zero e h = refl
firsts_are (a ∷ b ∷ c ∷ d ∷ []) (suc zero) e h = refl
firsts_are (a ∷ b ∷ c ∷ d ∷ []) (suc (suc zero)) e h = two_of (eqb b.first a.first)
firsts_are (a ∷ b ∷ c ∷ d ∷ []) (suc (suc (suc zero))) e h = three_of (eqb b.first a.first) (eqb c.first a.first) (eqb c.first b.first)
firsts_are (a ∷ b ∷ c ∷ d ∷ []) (suc (suc (suc (suc zero)))) e h =
    all_six (eqb b.first a.first) (eqb c.first a.first) (eqb c.first b.first) (eqb d.first a.first) (eqb d.first b.first) (eqb d.first c.first)
firsts_are (a ∷ b ∷ c ∷ d ∷ []) (suc (suc (suc (suc (suc n))))) e h = absurd (omega arith)
