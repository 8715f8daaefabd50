-- An array of structs, each of which stands for something: what it is after one of them was changed. Once for all arrays.
use Rattle.std.proofs.Common.{◌≡◌, ℕ, zero, suc, ◌-◌, ◌<◌, ◌≤◌, List, [], ◌∷◌, ◌++◌, length, take, drop, take-append-drop, replicate, set, get_or, map, arith, rules, ap, refl, sym, subst, ◌∙◌}
use Rattle.std.proofs.lemmas.List.{places, map-set, map-append}
use Rattle.std.proofs.lemmas.List.Elements.{All-append}
use Rattle.std.proofs.Math.ListN.{get_or-map, length-map}
use Rattle.std.specs.List.{All}
use Rattle.list.specs.Lists.{IsList}
use Rattle.list.specs.Pad.{pad}
use Rattle.list.proofs.Pad.{pad-nil}
use Rattle.list.proofs.Edits.{written, take_written, all_written, item_has, item_is, length_items}

module _ {X Y : Type 0} (P : X → Type 0) (view : X → Y) (n len : ℕ) (blank : X) (xs : List X) (h : IsList n blank len xs) (each : All P (take len xs)) (i : ℕ) (lt : i < len) where
  within : len ≤ length xs
  within = let size = h.size in let fits = h.fits in omega arith

  -- the struct at a place is well formed
  pub good_at : (d : X) → P (get_or xs i d)
  good_at d = item_has P len i d xs each lt within

  -- and stands for the item there
  pub seen_at : (d : X) (e : Y) → get_or (map view (take len xs)) i e ≡ view (get_or xs i d)
  seen_at d e =
      let any = item_is len i d d xs lt within in
      let long : i < length (map view (take len xs)) = rw (length-map) (omega (arith, length_items n len blank xs h)) in
      let default : get_or (map view (take len xs)) i e ≡ get_or (map view (take len xs)) i (view d) = search (rules, places) in
      default ∙ (get_or-map view (take len xs) i d ∙ ap view any)

  -- it was changed
  pub list_set : (y : X) → IsList n blank len (set xs i y)
  list_set y = written n len i blank y xs h lt

  pub each_set : (y : X) → P y → All P (take len (set xs i y))
  each_set y good = all_written P len i y xs each good lt within

  pub items_set : (y : X) → map view (take len (set xs i y)) ≡ set (map view (take len xs)) i (view y)
  items_set y = rw (take_written len i y xs lt within, map-set) refl

-- one was added after the last
module _ {X Y : Type 0} (P : X → Type 0) (view : X → Y) (xs ys : List X) (m n : ℕ) (x : X) (is : take n ys ≡ take m xs ++ x ∷ []) where
  alone : P x → All P (x ∷ [])
  alone h zero d lt = h
  alone h (suc k) d lt = absurd (omega arith)

  pub each_pushed : All P (take m xs) → P x → All P (take n ys)
  each_pushed each good = subst (All P) (sym is) (All-append P (take m xs) (x ∷ []) each (alone good))

  pub items_pushed : map view (take n ys) ≡ map view (take m xs) ++ view x ∷ []
  items_pushed = rw (is, map-append) refl

-- the structs are the ones of what they stand for, and past them stands the blank
module _ {X : Type 0} where
  -- a list, and the blank in each place that is left
  pad_rest : (n : ℕ) (z : X) (xs : List X) → length xs ≤ n → pad n z xs ≡ xs ++ replicate (n - length xs) z
  unfolding pad
  pad_rest n z [] h = let e : n - 0 ≡ n = omega arith in sym (pad-nil n z) ∙ ap (λ k. replicate k z) (sym e)
  pad_rest zero z (x ∷ xs) h = absurd (omega arith)
  pad_rest (suc n) z (x ∷ xs) h = let e : suc n - suc (length xs) ≡ n - length xs = omega arith in ap (λ r. x ∷ r) (pad_rest n z xs (omega arith) ∙ ap (λ k. xs ++ replicate k z) (sym e))

  pub padded : (n len : ℕ) (blank : X) (xs : List X) → IsList n blank len xs → xs ≡ pad n blank (take len xs)
  padded n len blank xs h =
      let long = length_items n len blank xs h in
      let fits = h.fits in
      sym (pad_rest n blank (take len xs) (omega arith) ∙ (λ j. take len xs ++ replicate (n - long j) blank) ∙ ap (λ r. take len xs ++ r) (sym h.spare) ∙ take-append-drop len xs)

module _ {X Y : Type 0} (P : X → Type 0) (view : X → Y) (made : Y → X) (law : (x : X) → P x → x ≡ made (view x)) where
  made_again : (xs : List X) → All P xs → xs ≡ map made (map view xs)
  made_again [] each = refl
  made_again (x ∷ xs) each =
      let here = law x (each zero x (omega arith)) in
      let later = made_again xs (λ k d lt. each (suc k) d (omega arith)) in
      λ j. here j ∷ later j

  pub array_made : (n len : ℕ) (blank : X) (xs : List X) → IsList n blank len xs → All P (take len xs) → xs ≡ pad n blank (map made (map view (take len xs)))
  array_made n len blank xs h each =
      padded n len blank xs h ∙ ap (pad n blank) (made_again (take len xs) each)
