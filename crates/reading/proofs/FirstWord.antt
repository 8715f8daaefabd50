-- A line uses the held records up exactly where its first word is `in`, whatever follows. Assumes nothing.
use Rattle.std.proofs.Common.{◌≡◌, ℕ, suc, Bool, true, false, cond, ◌&&◌, List, [], ◌∷◌, length, drop, Option, Some, None, Result, Ok, Err, refl, arith}
use lib.Dec.{eqb}
use borrow.Author.Tests.{ne_eqb, eqb-true}
use Rattle.list.proofs.Pad.{and_left, and_right}
use Rattle.reading.specs.declared.Command.{Command}
use Rattle.reading.specs.declared.Bad.{Bad}
use Rattle.reading.specs.declared.Bad.TheVariants.{Line, Arrival}
use Rattle.reading.specs.declared.words.Unreadable.{Unreadable}
use Rattle.reading.specs.Text.{bytes}
use Rattle.reading.specs.Words.{Read, begins, most64, number_of, field_of, due, due_of}
use Rattle.reading.specs.Readers.{fields_of}
use Rattle.reading.specs.Grammar.{◌>>=◌, arrival_of, key_of, pig_or_pop, other_of, or_bad, after_in, line_of}
use Rattle.reading.specs.FirstWord.{first_word, is_in, uses_up}

-- every way through these steps ends the same, if each unreadable one does
through : {A : Type 0} (b : Bad) (u : Bool) (x : Result A Unreadable) (f : A → Result Command Unreadable) → uses_up (Err b) ≡ u
    → ((v : A) → uses_up (or_bad b (f v)) ≡ u) → uses_up (or_bad b (x >>= f)) ≡ u
through b u (Ok v) f e h = h v
through b u (Err d) f e h = e

-- after `in` and a blank every way ends in an `in`
arrives : (line : List ℕ) → uses_up (or_bad Arrival (arrival_of line)) ≡ true
unfolding arrival_of
arrives line =
    through Arrival true (due (number_of most64 line)) _ refl
    (λ t. through Arrival true (due_of (bytes " ") t.rest) _ refl
    (λ a. through Arrival true (due_of (bytes " ") a.rest) _ refl
    (λ p. through Arrival true (fields_of p.value p.rest) _ refl (λ r. refl))))

-- and the other commands never do
others : (line : List ℕ) → uses_up (or_bad Line (other_of line)) ≡ false
unfolding other_of
others line = through Line false (field_of (bytes "pig ") line) _ refl at
  where
    at : (o : Option (Read ℕ)) → uses_up (or_bad Line (pig_or_pop line o)) ≡ false
    at (Some p) = through Line false (fields_of p.value p.rest) _ refl (λ r. refl)
    at None =
        through Line false (due_of (bytes "pop ") line) _ refl
        (λ a. through Line false (key_of a.value a.rest) _ refl (λ k. refl))

-- ---- the first word

-- what the line does not begin with, its first word does not
begins-first : (w line : List ℕ) → begins w line ≡ false → begins w (first_word line) ≡ false
unfolding first_word
begins-first [] line h = h
begins-first (x ∷ w) [] h = h
begins-first (x ∷ w) (b ∷ bs) h = at (eqb b 32) (eqb b x) refl h (λ q. begins-first w bs q)
  where
    at : (t u : Bool) → eqb b x ≡ u → u && begins w bs ≡ false → (begins w bs ≡ false → begins w (first_word bs) ≡ false) → begins (x ∷ w) (cond t [] (b ∷ first_word bs)) ≡ false
    at true u p q ih = refl
    at false true p q ih = rw p (ih q)
    at false false p q ih = rw p

after : (rest : List ℕ) → uses_up (after_in rest) ≡ is_in (105 ∷ 110 ∷ first_word rest)
unfolding after_in first_word
after [] = refl
after (c ∷ cs) = at (eqb c 32) refl
  where
    some : eqb (suc (length cs)) 0 ≡ false
    some = ne_eqb (suc (length cs)) 0 (λ q. omega arith)

    at : (t : Bool) → eqb c 32 ≡ t → uses_up (after_in (c ∷ cs)) ≡ is_in (105 ∷ 110 ∷ first_word (c ∷ cs))
    at true p = rw (some, p) (arrives cs)
    at false p = rw (some, p, ne_eqb (suc (suc (suc (length (first_word cs))))) 2 (λ q. omega arith))

shaped : (line : List ℕ) → begins (bytes "in") line ≡ true → uses_up (after_in (drop 2 line)) ≡ is_in (first_word line)
unfolding first_word
shaped [] h = absurd (cc)
shaped (a ∷ []) h = let z : false ≡ true = and_right (eqb a 105) false h in absurd (cc)
shaped (a ∷ b ∷ rest) h =
    let e : a ≡ 105 = eqb-true a 105 (and_left (eqb a 105) (eqb b 110 && true) h) in
    let f : b ≡ 110 = eqb-true b 110 (and_left (eqb b 110) true (and_right (eqb a 105) (eqb b 110 && true) h)) in
    rw (e, f) (after rest)

pub uses_up_lem : (line : List ℕ) → uses_up (line_of line) ≡ is_in (first_word line)
unfolding line_of
uses_up_lem line = at (begins (bytes "in") line) refl
  where
    at : (t : Bool) → begins (bytes "in") line ≡ t → uses_up (cond t (after_in (drop 2 line)) (or_bad Line (other_of line))) ≡ is_in (first_word line)
    at true p = shaped line p
    at false p = rw (begins-first (bytes "in") line p) (others line)
