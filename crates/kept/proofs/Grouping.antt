-- The grouping leaves an end of the contiguous queue. Assumes nothing.
use mathlib.Core.Path.{◌≡◌, refl, ap, sym, ◌∙◌}
use mathlib.Core.Bool.{Bool, true, false}
use mathlib.Core.List.{List, [], ◌∷◌, ◌++◌, append_assoc}
use Prim.Native.Nat.{ℕ, zero, suc}
use lib.Dec.{ltb, eqb}
use lib.ListN.{length, take, take-append-drop}
use Rattle.packet.specs.declared.Packet.{Packet}
use Rattle.packet.specs.Data.{Range, no_range, range, range_of}
use Rattle.model.specs.Group.{span, Step, stop, go, enough, first, front, step, on_step, group_n, group}

-- r is an end of q
pub record Ends (q r : List Packet) : Type 0 where
  pub front : List Packet
  pub whole : q ≡ front ++ r

ends-all : (q : List Packet) → Ends q q
ends-all q = record { front = []; whole = refl }

ends-ends : (q r s : List Packet) → Ends q r → Ends r s → Ends q s
ends-ends q r s x y = record { front = x.front ++ y.front; whole = x.whole ∙ ap (λ (l : List Packet). x.front ++ l) y.whole ∙ sym (append_assoc x.front y.front s) }

-- what a step leaves is an end
abbrev StepEnds : List Packet → Step → Type 0
StepEnds q stop = Unit {0}
StepEnds q (go bs r) = Ends q r

enough-ends : (t : Bool) (f l n : ℕ) (q : List Packet) → StepEnds q (enough t f l n q)
enough-ends true f l n q = tt
enough-ends false f l n q = record { front = take n q; whole = sym (take-append-drop n q) }

first_ends : (t : Bool) (f l : ℕ) (p : Packet) (q : List Packet) → StepEnds (p ∷ q) (first t f l p q)
first_ends true f l p q = enough-ends (ltb (length (p ∷ q)) (span f l)) f l (span f l) (p ∷ q)
first_ends false f l p q = record { front = p ∷ []; whole = refl }

front_ends : (g : Range) (p : Packet) (q : List Packet) → StepEnds (p ∷ q) (front g p q)
front_ends no_range p q = record { front = p ∷ []; whole = refl }
front_ends (range f l) p q = first_ends (eqb p.number f) f l p q

step-ends : (q : List Packet) → StepEnds q (step q)
unfolding step
step-ends [] = tt
step-ends (p ∷ q) = front_ends (range_of p) p q

group_n-ends : (n : ℕ) (q : List Packet) → Ends q (group_n n q).rest
unfolding group_n
group_n-ends zero q = ends-all q
group_n-ends (suc n) q = at (step q) (step-ends q) (λ r. group_n-ends n r)
  where
    at : (s : Step) → StepEnds q s → ((r : List Packet) → Ends r (group_n n r).rest) → Ends q (on_step (λ r. group_n n r) q s).rest
    at stop e ih = ends-all q
    at (go bs r) e ih = ends-ends q r (group_n n r).rest e (ih r)

pub group-ends : (q : List Packet) → Ends q (group q).rest
unfolding group
group-ends q = group_n-ends (length q) q
