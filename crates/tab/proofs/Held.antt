-- A search from the front, place by place, among what structs stand for.
use Rattle.std.proofs.Common.{◌≡◌, ℕ, ◌<◌, ◌≤◌, ◌+◌, Bool, true, false, ◌||◌, List, map, drop, length, get_or, refl, ap, sym, ◌∙◌}
use lib.ListN.{drop_of_length-le}
use Rattle.list.specs.Find.{has}
use Rattle.list.proofs.Positions.{drop_here}

module _ {X Y : Type 0} (f : Y → Bool) (view : X → Y) (xs : List X) (i : ℕ) where
  module _ (z : X) (lt : i < length xs) where
    one_more : has f (map view (drop i xs)) ≡ f (view (get_or xs i z)) || has f (map view (drop (i + 1) xs))
    unfolding has
    one_more = rw (drop_here xs i z lt) refl

    pub found_here : (b : Bool) → b ≡ f (view (get_or xs i z)) → b ≡ true → has f (map view (drop i xs)) ≡ has f (map view xs) → true ≡ has f (map view xs)
    found_here b e t h =
        let here : f (view (get_or xs i z)) ≡ true = sym e ∙ t in
        sym (one_more ∙ (λ j. here j || has f (map view (drop (i + 1) xs)))) ∙ h

    pub not_here : (b : Bool) → b ≡ f (view (get_or xs i z)) → b ≡ false → has f (map view (drop i xs)) ≡ has f (map view xs) → has f (map view (drop (i + 1) xs)) ≡ has f (map view xs)
    not_here b e t h =
        let here : f (view (get_or xs i z)) ≡ false = sym e ∙ t in
        sym (one_more ∙ (λ j. here j || has f (map view (drop (i + 1) xs)))) ∙ h

  pub none_left_here : length xs ≤ i → has f (map view (drop i xs)) ≡ has f (map view xs) → false ≡ has f (map view xs)
  unfolding has
  none_left_here le h = sym (ap (λ l. has f (map view l)) (drop_of_length-le xs {i = i} le)) ∙ h

-- one list, and then another
pub in_first : (r a b : Bool) → r ≡ a → r ≡ true → r ≡ a || b
in_first r a b e t = let h : a ≡ true = sym e ∙ t in t ∙ (λ j. sym h j || b)

pub in_second : (r a b q : Bool) → r ≡ a → r ≡ false → q ≡ b → q ≡ a || b
in_second r a b q e t d = let h : a ≡ false = sym e ∙ t in d ∙ (λ j. sym h j || b)
