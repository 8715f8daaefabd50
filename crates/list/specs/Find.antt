-- Looking for an element by a test, taking one out, putting one in: for any element type. Lists joined and numbers added up.
use Rattle.std.specs.Prelude.{List, [], ◌∷◌, ◌++◌, Bool, false, cond, ◌||◌, ℕ, suc, ◌+◌, ◌-◌, length, take, drop, get_or, set}
use Rattle.std.specs.declared.option.Option.{Option}
use Rattle.std.specs.declared.option.Option.TheVariants.{None, Some}

abbrev pub later : Option ℕ → Option ℕ
later None = None
later (Some i) = Some (suc i)

module _ {A : Type 0} where
  -- where the first element that passes the test stands (Rust's `position`)
  unfoldable pub position : (A → Bool) → List A → Option ℕ
  position f [] = None
  position f (x ∷ xs) = cond (f x) (Some 0) (later (position f xs))

  -- whether any element passes the test
  unfoldable pub has : (A → Bool) → List A → Bool
  has f [] = false
  has f (x ∷ xs) = f x || has f xs

  -- the first element that passes the test, or z
  unfoldable pub find_by : (A → Bool) → A → List A → A
  find_by f z [] = z
  find_by f z (x ∷ xs) = cond (f x) x (find_by f z xs)

  -- e in the place of the first element that passes the test, or after the last
  unfoldable pub put_by : (A → Bool) → A → List A → List A
  put_by f e [] = e ∷ []
  put_by f e (x ∷ xs) = cond (f x) (e ∷ xs) (x ∷ put_by f e xs)

  -- the list without the first element that passes the test
  unfoldable pub remove_first : (A → Bool) → List A → List A
  remove_first f [] = []
  remove_first f (x ∷ xs) = cond (f x) xs (x ∷ remove_first f xs)

  -- the elements that pass the test, in their order (Rust's `retain`)
  unfoldable pub keep_by : (A → Bool) → List A → List A
  keep_by f [] = []
  keep_by f (x ∷ xs) = cond (f x) (x ∷ keep_by f xs) (keep_by f xs)

  -- the list without its element i, the last element taking its place (Rust's `swap_remove_back`); z is never met
  unfoldable pub swap_remove : A → ℕ → List A → List A
  swap_remove z i xs = take (length xs - 1) (set xs i (get_or xs (length xs - 1) z))

  abbrev pub swap_at : A → Option ℕ → List A → List A
  swap_at z None xs = xs
  swap_at z (Some i) xs = swap_remove z i xs

  -- the first element that passes the test goes, and the last takes its place
  abbrev pub swap_remove_first : A → (A → Bool) → List A → List A
  swap_remove_first z f xs = swap_at z (position f xs) xs

  -- a lent list after a granted call: the answer from the front, the rest as it was
  abbrev pub written : List A → List A → List A
  written xs lent = xs ++ drop (length xs) lent

  -- a list with w in it from a place on, and the rest as it was
  unfoldable pub written_at : ℕ → List A → List A → List A
  written_at at w l = take at l ++ w ++ drop (at + length w) l

  -- lists one after the other
  unfoldable pub joined : List (List A) → List A
  joined [] = []
  joined (l ∷ ls) = l ++ joined ls

  -- the place of the first element that passes the test, or the one after the last
  unfoldable pub slot_of : (A → Bool) → List A → ℕ
  slot_of f [] = 0
  slot_of f (x ∷ xs) = cond (f x) 0 (suc (slot_of f xs))

-- the numbers of a list added up
unfoldable pub sum : List ℕ → ℕ
sum [] = 0
sum (n ∷ ns) = n + sum ns
