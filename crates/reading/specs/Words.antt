-- A word, a number, a word with one number or two, and what is left of the line behind each (01, "The driver").
use Rattle.std.specs.Prelude.{◌≡◌, ⊤, Bool, cond, ◌&&◌, List, ℕ, ◌+◌, ◌*◌, ◌-◌, leb, eqb, nat_eq, length, take, drop, fold, take_while, Option, Some, None, Result, Ok, Err}
use Rattle.std.specs.List.{prefix_len}
use Rattle.std.specs.Cmp.Lexicographic.{pointwise}
use Rattle.reading.specs.declared.words.Unreadable.{Unreadable}
use Rattle.reading.specs.Text.{bytes}

-- the line begins with the word
abbrev pub begins : List ℕ → List ℕ → Bool
begins w line = pointwise nat_eq (take (length w) line) w

-- what is left of the line behind the word; the line where it does not begin with it
abbrev pub after : List ℕ → List ℕ → List ℕ
after w line = cond (begins w line) (drop (length w) line) line

-- `0` to `9`
abbrev pub is_digit : ℕ → Bool
is_digit b = leb 48 b && leb b 57

-- how many digits the line begins with, and these digits
abbrev pub digits : List ℕ → ℕ
digits line = prefix_len is_digit line

abbrev pub leading : List ℕ → List ℕ
leading line = take_while is_digit line

-- the decimal number whose digits are those of n and then these
abbrev pub value_from : ℕ → List ℕ → ℕ
value_from n ds = fold (λ m b. 10 * m + (b - 48)) n ds

abbrev pub value : List ℕ → ℕ
value ds = value_from 0 ds

abbrev pub most32 : ℕ
most32 = 0xFFFF_FFFF

abbrev pub most64 : ℕ
most64 = 0xFFFF_FFFF_FFFF_FFFF

-- what was read, and what is left of the line behind it
pub record Read (A : Type 0) : Type 0 where
  pub value : A
  pub rest : List ℕ

abbrev pub read : {A : Type 0} → A → List ℕ → Read A
read v rest = record { value = v; rest = rest }

-- the number, if it fits
abbrev pub fitting : ℕ → ℕ → Option ℕ
fitting most v = cond (leb v most) (Some v) None

abbrev pub before : {A : Type 0} → Option A → List ℕ → Option (Read A)
before (Some v) rest = Some (read v rest)
before None rest = None

-- "Numbers are decimal, T a u64, others u32": one or more digits, leading zeros allowed, whose value fits
abbrev pub number_in : ℕ → List ℕ → Option ℕ
number_in most ds = cond (eqb (length ds) 0) None (fitting most (value ds))

unfoldable pub number_of : ℕ → List ℕ → Option (Read ℕ)
number_of most line = before (number_in most (leading line)) (drop (digits line) line)

abbrev pub unreadable : Unreadable
unreadable = record {}

-- what is due
abbrev pub due : {A : Type 0} → Option A → Result A Unreadable
due (Some x) = Ok x
due None = Err unreadable

abbrev pub some : {A : Type 0} → Result A Unreadable → Result (Option A) Unreadable
some (Ok x) = Ok (Some x)
some (Err e) = Err e

-- a word that ends in a blank, and a u32; or the line goes on with something else
unfoldable pub field_of : List ℕ → List ℕ → Result (Option (Read ℕ)) Unreadable
field_of w line = cond (begins w line) (some (due (number_of most32 (drop (length w) line)))) (Ok None)

-- the line has to go on with that word
abbrev pub needed : {A : Type 0} → Result (Option A) Unreadable → Result A Unreadable
needed (Ok o) = due o
needed (Err e) = Err e

unfoldable pub due_of : List ℕ → List ℕ → Result (Read ℕ) Unreadable
due_of w line = needed (field_of w line)

-- and two of them, "with one blank between words"
abbrev pub second_of : ℕ → Result (Read ℕ) Unreadable → Result (Option (Read (ℕ × ℕ))) Unreadable
second_of a (Ok r) = Ok (Some (read (a, r.value) r.rest))
second_of a (Err e) = Err e

abbrev pub first_of : Result (Option (Read ℕ)) Unreadable → Result (Option (Read (ℕ × ℕ))) Unreadable
first_of (Ok (Some r)) = second_of r.value (due_of (bytes " ") r.rest)
first_of (Ok None) = Ok None
first_of (Err e) = Err e

unfoldable pub pair_of : List ℕ → List ℕ → Result (Option (Read (ℕ × ℕ))) Unreadable
pair_of w line = first_of (field_of w line)

-- nothing may be left
unfoldable pub ended : {A : Type 0} → List ℕ → A → Result A Unreadable
ended line x = cond (eqb (length line) 0) (Ok x) (Err unreadable)

-- what a reader answers beside what it leaves of the line
abbrev pub taken : {A : Type 0} → Result (Option A) Unreadable → List ℕ → Result (Option (Read A)) Unreadable
taken (Ok o) rest = Ok (before o rest)
taken (Err e) rest = Err e

abbrev pub given : {A : Type 0} → Result A Unreadable → List ℕ → Result (Read A) Unreadable
given (Ok v) rest = Ok (read v rest)
given (Err e) rest = Err e

-- a reader that takes nothing leaves the line as it is
abbrev pub IsUnmoved : {A : Type 0} → Result (Option A) Unreadable → List ℕ → List ℕ → Type 0
IsUnmoved (Ok (Some v)) old new = ⊤
IsUnmoved (Ok None) old new = new ≡ old
IsUnmoved (Err e) old new = new ≡ old
