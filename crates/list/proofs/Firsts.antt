-- The first item that passes a test and what stays by a test, as std's words say it.
use Rattle.std.proofs.Common.{◌≡◌, ℕ, zero, suc, ◌||◌, ◌+◌, ◌<◌, List, [], ◌∷◌, length, filter, cond, Bool, true, false, ltb, refl, sym, ap, arith, ◌∙◌}
use Rattle.std.specs.declared.option.Option.{Option}
use Rattle.std.specs.declared.option.Option.TheVariants.{None, Some}
use Rattle.std.proofs.Common.{inl, inr, lt-ltb, le-ltb}
use Rattle.std.proofs.lemmas.Bool.{cases_lt}
use Rattle.std.specs.List as std
use Rattle.std.specs.Prelude.{remove}
use Rattle.list.specs.Pad.{remove_at}
use Rattle.list.specs.Find.{position, later, has, remove_first, keep_by, slot_of}
use Rattle.list.proofs.Positions.{stands, none_stands, slot_cons, slot_nil}
use Rattle.list.proofs.Pad.{never}
use Rattle.std.proofs.lemmas.List.Recursion.{is_position_or_len}

one_further : (a b : ℕ) → ltb a b ≡ ltb (suc a) (suc b)
one_further a b = elim (cases_lt a b) [
  | inl h ↦ lt-ltb a b h ∙ sym (lt-ltb (suc a) (suc b) (omega arith))
  | inr h ↦ le-ltb a b h ∙ sym (le-ltb (suc a) (suc b) (omega arith))
]

one_more : (n : ℕ) → suc n ≡ 1 + n
one_more n = omega arith

module _ {X : Type 0} where
  pub keep_is : (f : X → Bool) (xs : List X) → keep_by f xs ≡ filter f xs
  unfolding keep_by
  keep_is f [] = refl
  keep_is f (x ∷ xs) = rw (keep_is f xs) refl

  slot_is : (f : X → Bool) (xs : List X) → slot_of f xs ≡ std.position_or_len f xs
  slot_is f xs = is_position_or_len (slot_of f) f (slot_nil f) (λ x ys. slot_cons f x ys ∙ ap (λ n. cond (f x) 0 n) (one_more (slot_of f ys))) xs

  by_slot : (f : X → Bool) (xs : List X) → position f xs ≡ cond (ltb (slot_of f xs) (length xs)) (Some (slot_of f xs)) None
  unfolding position slot_of
  by_slot f [] = refl
  by_slot f (x ∷ xs) = at (f x) (by_slot f xs)
    where
      on : (b : Bool) (s : ℕ) → later (cond b (Some s) None) ≡ cond b (Some (suc s)) None
      on true s = refl
      on false s = refl

      at : (t : Bool) → position f xs ≡ cond (ltb (slot_of f xs) (length xs)) (Some (slot_of f xs)) None
          → cond t (Some 0) (later (position f xs)) ≡ cond (ltb (cond t 0 (suc (slot_of f xs))) (suc (length xs))) (Some (cond t 0 (suc (slot_of f xs)))) None
      at true ih = sym (ap (λ b. cond b (Some 0) None) (lt-ltb 0 (suc (length xs)) (omega arith)))
      at false ih = ap later ih ∙ (on (ltb (slot_of f xs) (length xs)) (slot_of f xs) ∙ ap (λ b. cond b (Some (suc (slot_of f xs))) None) (one_further (slot_of f xs) (length xs)))

  -- std's `position` is the list's
  pub position_is : (f : X → Bool) (xs : List X) → std.position f xs ≡ position f xs
  position_is f xs = ap (λ s. cond (ltb s (length xs)) (Some s) None) (sym (slot_is f xs)) ∙ sym (by_slot f xs)

  -- std's `remove` takes out what the list's does
  pub remove_is : (xs : List X) (i : ℕ) → remove xs i ≡ remove_at i xs
  unfolding remove_at
  remove_is [] zero = refl
  remove_is [] (suc i) = refl
  remove_is (x ∷ xs) zero = refl
  remove_is (x ∷ xs) (suc i) = ap (λ (r : List X). x ∷ r) (remove_is xs i)

  -- the first that passes is taken out where it stands, or none passes
  pub removed_first : (f : X → Bool) (xs : List X) (i : ℕ) (o : Option ℕ) → o ≡ std.position f xs → o ≡ Some i → remove_first f xs ≡ remove xs i
  removed_first f xs i o e s = (stands f xs i (sym (position_is f xs) ∙ (sym e ∙ s))).is_removed ∙ sym (remove_is xs i)

  pub first_within : (f : X → Bool) (xs : List X) (i : ℕ) (o : Option ℕ) → o ≡ std.position f xs → o ≡ Some i → i < length xs
  first_within f xs i o e s = (stands f xs i (sym (position_is f xs) ∙ (sym e ∙ s))).inside

  none_removed : (f : X → Bool) (xs : List X) → has f xs ≡ false → remove_first f xs ≡ xs
  unfolding has remove_first
  none_removed f [] h = refl
  none_removed f (x ∷ xs) h = at (f x) h (none_removed f xs)
    where
      at : (t : Bool) → (t || has f xs) ≡ false → (has f xs ≡ false → remove_first f xs ≡ xs) → cond t xs (x ∷ remove_first f xs) ≡ x ∷ xs
      at true h ih = never (sym h)
      at false h ih = ap (λ (r : List X). x ∷ r) (ih h)

  pub none_first : (f : X → Bool) (xs : List X) (o : Option ℕ) → o ≡ std.position f xs → o ≡ None → xs ≡ remove_first f xs
  none_first f xs o e s = sym (none_removed f xs (none_stands f xs (sym (position_is f xs) ∙ (sym e ∙ s))))

  pub has_is : (f : X → Bool) (xs : List X) → std.list_any f xs ≡ has f xs
  unfolding has
  has_is f [] = refl
  has_is f (x ∷ xs) = ap (λ b. f x || b) (has_is f xs)

  -- one passes, or none
  pub has_first : (f : X → Bool) (xs : List X) (i : ℕ) (o : Option ℕ) → o ≡ std.position f xs → o ≡ Some i → has f xs ≡ true
  has_first f xs i o e s = (stands f xs i (sym (position_is f xs) ∙ (sym e ∙ s))).there

  pub lacks_first : (f : X → Bool) (xs : List X) (o : Option ℕ) → o ≡ std.position f xs → o ≡ None → has f xs ≡ false
  lacks_first f xs o e s = none_stands f xs (sym (position_is f xs) ∙ (sym e ∙ s))
