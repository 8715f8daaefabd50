-- Which command a line is, without its line feed, or that it is `bad` (01, "The driver").
use Rattle.std.specs.Prelude.{cond, List, ℕ, eqb, length, drop, Option, Some, None, Result, Ok, Err}
use Rattle.packet.specs.declared.Key.{Key}
use Rattle.reading.specs.declared.words.Unreadable.{Unreadable}
use Rattle.reading.specs.declared.Command.{Command}
use Rattle.reading.specs.declared.Command.TheVariants.{In, Pig, Pop}
use Rattle.reading.specs.declared.Bad.{Bad}
use Rattle.reading.specs.declared.Bad.TheVariants.{Line, Arrival}
use Rattle.reading.specs.Text.{bytes}
use Rattle.reading.specs.Words.{Read, begins, most64, number_of, field_of, due, due_of, ended}
use Rattle.reading.specs.Readers.{fields_of}

-- a step, and the next one unless the line is unreadable
infixl 10 ◌>>=◌
abbrev pub ◌>>=◌ : {A B : Type 0} → Result A Unreadable → (A → Result B Unreadable) → Result B Unreadable
Ok x >>= f = f x
Err e >>= f = Err e

-- `T A P` and the fields, behind `in` and a blank
unfoldable pub arrival_of : List ℕ → Result Command Unreadable
arrival_of line = do
  t ← due (number_of most64 line)
  a ← due_of (bytes " ") t.rest
  p ← due_of (bytes " ") a.rest
  r ← fields_of p.value p.rest
  Ok (In t.value a.value r)

abbrev pub key : ℕ → ℕ → ℕ → ℕ → Key
key a on indexed index = record { address = a; on = on; indexed = indexed; index = index }

-- behind `pop A`: `off`, `on` or `idx I`
abbrev pub indexed_of : ℕ → List ℕ → Result Key Unreadable
indexed_of a line = do
  i ← due_of (bytes " idx ") line
  ended i.rest (key a 1 1 i.value)

unfoldable pub key_of : ℕ → List ℕ → Result Key Unreadable
key_of a line =
    cond (begins (bytes " off") line) (ended (drop 4 line) (key a 0 0 0))
    (cond (begins (bytes " on") line) (ended (drop 3 line) (key a 1 0 0)) (indexed_of a line))

-- `pig P` and the same fields, or `pop A` and a channel
abbrev pub pig_of : Read ℕ → Result Command Unreadable
pig_of p = do
  r ← fields_of p.value p.rest
  Ok (Pig r)

abbrev pub pop_of : List ℕ → Result Command Unreadable
pop_of line = do
  a ← due_of (bytes "pop ") line
  k ← key_of a.value a.rest
  Ok (Pop k)

abbrev pub pig_or_pop : List ℕ → Option (Read ℕ) → Result Command Unreadable
pig_or_pop line (Some p) = pig_of p
pig_or_pop line None = pop_of line

unfoldable pub other_of : List ℕ → Result Command Unreadable
other_of line = field_of (bytes "pig ") line >>= pig_or_pop line

-- a line that cannot be read is `bad`
abbrev pub or_bad : Bad → Result Command Unreadable → Result Command Bad
or_bad b (Ok c) = Ok c
or_bad b (Err e) = Err b

-- after the letters `in`: "A `bad` line uses the held records up where its first word, up to a blank or the end of the line, is exactly `in`"
unfoldable pub after_in : List ℕ → Result Command Bad
after_in line = cond (eqb (length line) 0) (Err Arrival) (cond (begins (bytes " ") line) (or_bad Arrival (arrival_of (drop 1 line))) (Err Line))

unfoldable pub line_of : List ℕ → Result Command Bad
line_of line = cond (begins (bytes "in") line) (after_in (drop 2 line)) (or_bad Line (other_of line))
