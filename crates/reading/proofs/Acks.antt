-- The singles of a line, one after the other: how many steps are allowed makes no difference once they are enough. Assumes nothing.
use Rattle.std.proofs.Common.{◌≡◌, ℕ, zero, suc, ◌≤◌, ◌<◌, Bool, true, false, cond, List, length, take, drop, Option, Some, None, Result, Ok, Err, refl, ap, arith, nat_eq, length-drop}
use Rattle.std.specs.Cmp.Lexicographic.{as_long}
use Rattle.std.proofs.lemmas.List.{length-take}
use lib.Dec.{lit<}
use Rattle.packet.specs.declared.Record.{Record}
use Rattle.packet.specs.Given.{with_ack}
use Rattle.reading.specs.declared.words.Unreadable.{Unreadable}
use Rattle.reading.specs.Text.{bytes}
use Rattle.reading.specs.Words.{Read, read, begins, before, due, some, number_in, number_of, digits, leading, most32, field_of}
use Rattle.reading.specs.Readers.{Reader, one_more, repeated_n, repeated, from_lrs, from_ack}

begins_within : (w line : List ℕ) → begins w line ≡ true → length w ≤ length line
begins_within w line h = omega (arith, as_long nat_eq (take (length w) line) w h, length-take (length w) line)

number_rest : (most : ℕ) (line : List ℕ) (r : Read ℕ) → number_of most line ≡ Some r → length r.rest ≤ length line
unfolding number_of
number_rest most line r e = at (number_in most (leading line)) e
  where
    at : (o : Option ℕ) → before o (drop (digits line) line) ≡ Some r → length r.rest ≤ length line
    at (Some v) h = let q : drop (digits line) line ≡ r.rest = cc in omega (arith, ap length q, length-drop (digits line) line)
    at None h = absurd (cc)

field_rest : (w line : List ℕ) (r : Read ℕ) → 0 < length w → field_of w line ≡ Ok (Some r) → length r.rest < length line
unfolding field_of
field_rest w line r long e = at (begins w line) refl e
  where
    due_is : (o : Option (Read ℕ)) → some (due o) ≡ Ok (Some r) → o ≡ Some r
    due_is (Some x) h = cc
    due_is None h = absurd (cc)

    at : (t : Bool) → begins w line ≡ t → cond t (some (due (number_of most32 (drop (length w) line)))) (Ok None) ≡ Ok (Some r) → length r.rest < length line
    at true b h = omega (arith, number_rest most32 (drop (length w) line) r (due_is (number_of most32 (drop (length w) line)) h), length-drop (length w) line, begins_within w line b)
    at false b h = absurd (cc)

field_empty : (w line : List ℕ) → 0 < length w → length line ≤ 0 → field_of w line ≡ Ok None
unfolding field_of
field_empty w line long h = at (begins w line) refl
  where
    at : (t : Bool) → begins w line ≡ t → cond t (some (due (number_of most32 (drop (length w) line)))) (Ok None) ≡ Ok None
    at true b = absurd (omega (arith, begins_within w line b))
    at false b = refl

not_both : (f : Result (Option (Read ℕ)) Unreadable) (d : Unreadable) → f ≡ Ok None → f ≡ Err d → ⊥
not_both f d a b = cc

module _ (w : List ℕ) (given : ℕ → Record → Record) (next : Reader) (long : 0 < length w) where
  more_fuel : (k m : ℕ) (line : List ℕ) (r : Record) → length line ≤ k → length line ≤ m → repeated_n k w given next line r ≡ repeated_n m w given next line r
  unfolding repeated_n
  more_fuel zero zero line r h g = refl
  more_fuel zero (suc m) line r h g = rw (field_empty w line long h)
  more_fuel (suc k) zero line r h g = rw (field_empty w line long g)
  more_fuel (suc k) (suc m) line r h g = at (field_of w line) refl (λ x a b. more_fuel k m x.rest (given x.value r) a b)
    where
      at : (f : Result (Option (Read ℕ)) Unreadable) → field_of w line ≡ f
          → ((x : Read ℕ) → length x.rest ≤ k → length x.rest ≤ m → repeated_n k w given next x.rest (given x.value r) ≡ repeated_n m w given next x.rest (given x.value r))
          → one_more f given (repeated_n k w given next) next line r ≡ one_more f given (repeated_n m w given next) next line r
      at (Ok (Some x)) q ih = let l : length x.rest < length line = field_rest w line x long q in ih x (omega arith) (omega arith)
      at (Ok None) q ih = refl
      at (Err e) q ih = refl

  repeated_given : (line : List ℕ) (r : Record) (x : Read ℕ) → field_of w line ≡ Ok (Some x) → repeated w given next line r ≡ repeated w given next x.rest (given x.value r)
  unfolding repeated repeated_n
  repeated_given line r x e = at (length line) refl
    where
      l : length x.rest < length line
      l = field_rest w line x long e

      at : (k : ℕ) → length line ≡ k → repeated_n k w given next line r ≡ repeated_n (length x.rest) w given next x.rest (given x.value r)
      at zero z = absurd (omega (arith, l))
      at (suc k) z = rw e (more_fuel k (length x.rest) x.rest (given x.value r) (omega (arith, l)) (omega arith))

  repeated_absent : (line : List ℕ) (r : Record) → field_of w line ≡ Ok None → repeated w given next line r ≡ next line r
  unfolding repeated repeated_n
  repeated_absent line r e = at (length line)
    where
      at : (k : ℕ) → repeated_n k w given next line r ≡ next line r
      at zero = refl
      at (suc k) = rw e

  repeated_unread : (line : List ℕ) (r : Record) (d : Unreadable) → field_of w line ≡ Err d → repeated w given next line r ≡ Err d
  unfolding repeated repeated_n
  repeated_unread line r d e = at (length line) refl
    where
      at : (k : ℕ) → length line ≡ k → repeated_n k w given next line r ≡ Err d
      at zero z = absurd (not_both (field_of w line) d (field_empty w line long (omega arith)) e)
      at (suc k) z = rw e

pub acks_more : (line : List ℕ) (r : Record) (n : ℕ) (rest : List ℕ) → field_of (bytes " ack ") line ≡ Ok (Some (read n rest)) → from_ack line r ≡ from_ack rest (with_ack n r)
acks_more line r n rest e = repeated_given (bytes " ack ") with_ack from_lrs (lit< tt) line r (read n rest) e

pub acks_done : (line : List ℕ) (r : Record) → field_of (bytes " ack ") line ≡ Ok None → from_ack line r ≡ from_lrs line r
acks_done line r e = repeated_absent (bytes " ack ") with_ack from_lrs (lit< tt) line r e

pub acks_unread : (line : List ℕ) (r : Record) (d : Unreadable) → field_of (bytes " ack ") line ≡ Err d → from_ack line r ≡ Err d
acks_unread line r d e = repeated_unread (bytes " ack ") with_ack from_lrs (lit< tt) line r d e

pub ack_shorter : (line rest : List ℕ) (n : ℕ) → field_of (bytes " ack ") line ≡ Ok (Some (read n rest)) → length rest < length line
ack_shorter line rest n e = field_rest (bytes " ack ") line (read n rest) (lit< tt) e

pub ruleset acks = (acks_more, acks_done, acks_unread, ack_shorter)
