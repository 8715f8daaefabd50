-- The driver's answers as bytes, each with its line feed (01, "The driver").
use Rattle.std.specs.Prelude.{cond, List, [], ◌∷◌, ◌++◌, ℕ, zero, suc, ◌+◌, ◌/◌, ◌%◌, eqb, length}
use Rattle.packet.specs.declared.View.{View}
use Rattle.packet.specs.Data.{is_set}
use Rattle.reading.specs.Text.{bytes}

-- a decimal number without leading zeros: the digits of its tenth where it has one, and then its last digit. A number is above its tenth, so
-- its own value is enough fuel
abbrev pub last_after : ℕ → (ℕ → List ℕ) → ℕ → List ℕ
last_after zero front last = last ∷ []
last_after (suc q) front last = front (suc q) ++ last ∷ []

unfoldable pub digits_n : ℕ → ℕ → List ℕ
digits_n zero n = []
digits_n (suc k) n = last_after (n / 10) (digits_n k) (48 + n % 10)

unfoldable pub digits : ℕ → List ℕ
digits n = digits_n (suc n) n

-- "I is `-` without index"
unfoldable pub index_text : ℕ → List ℕ
index_text i = cond (eqb i 0) (bytes "-") (digits i)

-- a word and its number
unfoldable pub worded : List ℕ → ℕ → List ℕ
worded w n = w ++ digits n

-- `ok off A`, `ok on A I exp N`
unfoldable pub ok_line : View → List ℕ
ok_line v =
    cond (is_set v.on)
    (worded (bytes "ok on ") v.address ++ bytes " " ++ index_text v.index ++ worded (bytes " exp ") v.expected ++ bytes "\n")
    (worded (bytes "ok off ") v.address ++ bytes "\n")

-- `no R`
unfoldable pub no_line : ℕ → List ℕ
no_line n = worded (bytes "no ") n ++ bytes "\n"

abbrev pub bad_line : List ℕ
bad_line = bytes "bad\n"

-- "`bundle`, count, handles, or `none`"
unfoldable pub handles_text : List ℕ → List ℕ
handles_text [] = []
handles_text (h ∷ hs) = worded (bytes " ") h ++ handles_text hs

unfoldable pub bundle_line : List ℕ → List ℕ
bundle_line hs = worded (bytes "bundle ") (length hs) ++ handles_text hs ++ bytes "\n"

abbrev pub none_line : List ℕ
none_line = bytes "none\n"
