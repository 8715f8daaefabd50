-- The library's `position` and a list's, and looking in a list of what the elements stand for. Any element type.
use Rattle.std.proofs.Common.{◌≡◌, ℕ, suc, arith, ◌+◌, ◌<◌, Bool, true, false, nat_lt, length, ◌∷◌, [], List, map, refl, ap, not, cond, sym, ◌∙◌}
use Prim.Native.Nat.compare
use borrow.Author.Tests.{lt-ltb}
use Rattle.std.specs.declared.option.Option.{Option}
use Rattle.std.specs.declared.option.Option.TheVariants.{None, Some}
use Rattle.std.specs.List as Std
use Rattle.list.specs.Find.{position, later, has, find_by}

module _ {X : Type 0} (p : X → Bool) where
  step : (x : X) (xs : List X) (t : Bool) → p x ≡ t → Std.position p xs ≡ position p xs → Std.position p (x ∷ xs) ≡ cond t (Some 0) (later (position p xs))
  step x xs true e ih = let l : 0 < suc (length xs) = omega arith in rw e (λ j. cond (lt-ltb 0 (suc (length xs)) l j) (Some 0) None)
  step x xs false e ih = rw e (more (Std.position_or_len p xs) (length xs) ∙ ap later ih)
    where
      at : (u : Bool) (n : ℕ) → cond u (Some (suc n)) None ≡ later (cond u (Some n) None)
      at true n = refl
      at false n = refl

      more : (n l : ℕ) → cond (nat_lt (1 + n) (suc l)) (Some (1 + n)) None ≡ later (cond (nat_lt n l) (Some n) None)
      more n l =
          let one : 1 + n ≡ suc n = omega arith in
          let test : nat_lt (suc n) (suc l) ≡ nat_lt n l = rw compare.suc-suc refl in
          (λ j. cond (nat_lt (one j) (suc l)) (Some (one j)) None) ∙ (λ j. cond (test j) (Some (suc n)) None) ∙ at (nat_lt n l) n

  pub position_std : (xs : List X) → Std.position p xs ≡ position p xs
  unfolding position
  position_std [] = refl
  position_std (x ∷ xs) = step x xs (p x) refl (position_std xs)

module _ {X Y : Type 0} (p : Y → Bool) (view : X → Y) where
  pub position-map : (xs : List X) → position p (map view xs) ≡ position (λ x. p (view x)) xs
  unfolding position
  position-map [] = refl
  position-map (x ∷ xs) = ap (λ o. cond (p (view x)) (Some 0) (later o)) (position-map xs)

  -- the place of the first whose view passes
  pub position_view : (xs : List X) → Std.position (λ x. p (view x)) xs ≡ position p (map view xs)
  position_view xs = position_std (λ x. p (view x)) xs ∙ sym (position-map xs)
