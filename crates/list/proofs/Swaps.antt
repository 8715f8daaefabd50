-- The last item in the place of another, and items kept by a test.
use Rattle.std.proofs.Common.{map, ◌≢◌, inl, inr, true, false, Bool, get_or-set_other, length-set, ◌≡◌, ℕ, ◌+◌, ◌-◌, ◌<◌, ◌≤◌, List, refl, length, get_or, take, set, sym, arith, rules, ◌∙◌}
use Rattle.std.proofs.lemmas.List.{map-append, append-nil, take_more, take_more_set, same_lists, places, get_or-set_same}
use Rattle.std.proofs.lemmas.Bool.{cases_eq, cases_lt}
use Rattle.list.specs.Lists.{IsList}
use Rattle.list.specs.Find.{swap_remove, keep_by}
use Rattle.list.proofs.Find.{keep_append}
use Rattle.list.proofs.Edits.{edited, blank_at}

module _ {X : Type 0} where
  pub take_swapped : (xs : List X) (n i m : ℕ) (x blank : X) → i < n → n ≤ length xs → m + 1 ≡ n → x ≡ get_or xs m blank
      → take m (set (set xs i x) m blank) ≡ swap_remove blank i (take n xs)
  unfolding swap_remove
  take_swapped xs n i m x blank lt le is e =
      let long : length (take n xs) ≡ n = search (rules, places) in
      let last : length (take n xs) - 1 ≡ m = omega arith in
      let same : get_or (take n xs) m blank ≡ x = grind (arith, places) in
      rw (last, same) (same_lists _ _ (search (rules, places)) (λ k d h. grind (arith, places, get_or-set_same, cases_eq k i)))

  pub swapped : (n len i m : ℕ) (blank x : X) (xs : List X) → IsList n blank len xs → i < len → m + 1 ≡ len
      → IsList n blank m (set (set xs i x) m blank)
  swapped n len i m blank x xs h lt is =
      let size = h.size in
      let fits = h.fits in
      edited n len m blank xs _ h (search (rules, places)) (omega arith)
      (λ k d le here. elim (cases_lt m k) [
        | inl past ↦
            let old = blank_at n len blank xs h k d (omega arith) here in
            let other : k ≢ i = omega arith in
            let last : k ≢ m = omega arith in
            rw (get_or-set_other, get_or-set_other) old
        | inr not_past ↦
            let same : k ≡ m = omega arith in
            let long : m < length (set xs i x) = simp length-set (omega arith) in
            rw (same, get_or-set_same)
      ])

  -- one item further in the loop that keeps what passes a test: it passes, or it does not
  pub kept_yes : (test : X → Bool) (ys old : List X) (k i : ℕ) (x : X) → i < length old → length ys ≡ length old → k ≤ i
      → take k ys ≡ keep_by test (take i old) → x ≡ get_or old i x → test x ≡ true → take (k + 1) (set ys k x) ≡ keep_by test (take (i + 1) old)
  unfolding keep_by
  kept_yes test ys old k i x lt same le so e t =
      take_more_set ys k x (omega arith) ∙ rw (take_more old i x lt, keep_append, ← e, t, so) refl

  pub kept_no : (test : X → Bool) (ys old : List X) (k i : ℕ) (x : X) → i < length old
      → take k ys ≡ keep_by test (take i old) → x ≡ get_or old i x → test x ≡ false → take k ys ≡ keep_by test (take (i + 1) old)
  unfolding keep_by
  kept_no test ys old k i x lt so e t =
      so ∙ sym (rw (take_more old i x lt, keep_append, ← e, t) (append-nil (keep_by test (take i old))))

  -- lists with the same first places
  pub take_same : (xs ys : List X) (n : ℕ) → length xs ≡ length ys → ((k : ℕ) (d : X) → k < n → get_or xs k d ≡ get_or ys k d) → take n xs ≡ take n ys
  take_same xs ys n size same =
      same_lists _ _ (search (rules, places)) (λ k d h. let b : k < n = grind (arith, places) in let e = same k d b in grind (arith, places, e))

  -- what stands past a place that was written
  pub set_past : (xs : List X) (k j : ℕ) (x d : X) → k < j → get_or (set xs k x) j d ≡ get_or xs j d
  set_past xs k j x d lt = let other : j ≢ k = omega arith in rw get_or-set_other

  -- one item further in the loop that changes each
  pub changed : (made : X → X) (ys old : List X) (i : ℕ) (x y : X) → i < length old → length ys ≡ length old
      → take i ys ≡ map made (take i old) → x ≡ get_or old i x → y ≡ made x → take (i + 1) (set ys i y) ≡ map made (take (i + 1) old)
  changed made ys old i x y lt same so e m =
      take_more_set ys i y (omega arith) ∙ rw (take_more old i x lt, map-append, ← e, so, m) refl
