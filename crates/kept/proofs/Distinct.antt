-- Keys stay distinct: under an element put in the place of its key, one taken out, and a change that keeps every key. Assumes nothing.
use mathlib.Core.Path.{◌≡◌, refl, ap, sym, ◌∙◌}
use mathlib.Core.Bool.{Bool, true, false, not, cond}
use mathlib.Core.List.{List, [], ◌∷◌, map}
use Prim.Native.Nat.{ℕ}
use lib.Dec.{eqb}
use borrow.Author.Tests.{not-true, eqb-true}
use Rattle.list.specs.Find.{has, put_by, remove_first}
use Rattle.list.proofs.Pad.{and_left, and_right}
use Rattle.list.proofs.Tests.{and_both, has_remove, has-none_put, has_same}
use Rattle.list.proofs.Maps.{has-map}
use Rattle.model.specs.Wellformed.{distinct}

-- equal numbers, beside a third
pub eqb_alike : (a b c : ℕ) → eqb b a ≡ true → eqb c a ≡ eqb c b
eqb_alike a b c p = ap (λ (n : ℕ). eqb c n) (sym (eqb-true b a p))

module _ {A : Type 0} (same : A → A → Bool) where
  pub apart_none : distinct same [] ≡ true
  unfolding distinct
  apart_none = refl

  pub apart_head : (x : A) (xs : List A) → distinct same (x ∷ xs) ≡ true → has (same x) xs ≡ false
  unfolding distinct
  apart_head x xs h = not-true (has (same x) xs) (and_left (not (has (same x) xs)) (distinct same xs) h)

  pub apart_tail : (x : A) (xs : List A) → distinct same (x ∷ xs) ≡ true → distinct same xs ≡ true
  unfolding distinct
  apart_tail x xs h = and_right (not (has (same x) xs)) (distinct same xs) h

  pub apart_cons : (x : A) (xs : List A) → has (same x) xs ≡ false → distinct same xs ≡ true → distinct same (x ∷ xs) ≡ true
  unfolding distinct
  apart_cons x xs p q = and_both (ap not p) q

  pub apart_remove : (g : A → Bool) (xs : List A) → distinct same xs ≡ true → distinct same (remove_first g xs) ≡ true
  unfolding remove_first
  apart_remove g [] h = h
  apart_remove g (x ∷ xs) h = at (g x) (apart_remove g xs (apart_tail x xs h))
    where
      at : (t : Bool) → distinct same (remove_first g xs) ≡ true → distinct same (cond t xs (x ∷ remove_first g xs)) ≡ true
      at true ih = apart_tail x xs h
      at false ih = apart_cons x (remove_first g xs) (has_remove (same x) g xs (apart_head x xs h)) ih

  -- the test is one of keys: it goes both ways, and elements of one key are the same to every other
  module _ (turn : (x y : A) → same x y ≡ same y x) (alike : (x y z : A) → same x y ≡ true → same x z ≡ same y z) where
    pub apart_put : (e : A) (xs : List A) → distinct same xs ≡ true → distinct same (put_by (same e) e xs) ≡ true
    unfolding put_by has
    apart_put e [] h = apart_cons e [] refl h
    apart_put e (x ∷ xs) h = at (same e x) refl (apart_put e xs (apart_tail x xs h))
      where
        at : (t : Bool) → same e x ≡ t → distinct same (put_by (same e) e xs) ≡ true → distinct same (cond t (e ∷ xs) (x ∷ put_by (same e) e xs)) ≡ true
        at true p ih = apart_cons e xs (has_same (same e) (same x) (λ z. alike e x z p) xs ∙ apart_head x xs h) (apart_tail x xs h)
        at false p ih = apart_cons x (put_by (same e) e xs) (has-none_put (same x) (same e) e xs (apart_head x xs h) (turn x e ∙ p)) ih

  pub apart_map : (h : A → A) → ((x y : A) → same (h x) (h y) ≡ same x y) → (xs : List A) → distinct same xs ≡ true → distinct same (map h xs) ≡ true
  apart_map h w [] d = d
  apart_map h w (x ∷ xs) d = apart_cons (h x) (map h xs) (has-map (same (h x)) h xs ∙ has_same (λ y. same (h x) (h y)) (same x) (λ y. w x y) xs ∙ apart_head x xs d) (apart_map h w xs (apart_tail x xs d))
