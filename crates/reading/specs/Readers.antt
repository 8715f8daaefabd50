-- A record's fields (01, "The driver"): a reader is given the rest of the line and the record so far, and hands on what is left after its
-- word: "After each word the rest of the line is handed on to the next reader".
use Rattle.std.specs.Prelude.{◌≡◌, ⊤, cond, List, ℕ, zero, suc, length, drop, Option, Some, None, Result, Ok, Err, MatchResult}
use Rattle.packet.specs.declared.Record.{Record}
use Rattle.packet.specs.Data.{no_record}
use Rattle.packet.specs.Given.{with_prefix, with_on, with_index, with_reliable, with_number, with_range, with_cumulative, with_ack, with_last, with_handle}
use Rattle.reading.specs.declared.words.Unreadable.{Unreadable}
use Rattle.reading.specs.Text.{bytes}
use Rattle.reading.specs.Words.{Read, begins, field_of, pair_of, ended}

abbrev pub Reader : Type 0
Reader = List ℕ → Record → Result Record Unreadable

-- a word by itself, "if present"
unfoldable pub flag : List ℕ → (Record → Record) → Reader → Reader
flag w given next line r = cond (begins w line) (next (drop (length w) line) (given r)) (next line r)

-- a word with a number
abbrev pub numbered : Result (Option (Read ℕ)) Unreadable → (ℕ → Record → Record) → Reader → Reader
numbered (Ok (Some x)) given next line r = next x.rest (given x.value r)
numbered (Ok None) given next line r = next line r
numbered (Err e) given next line r = Err e

unfoldable pub number : List ℕ → (ℕ → Record → Record) → Reader → Reader
number w given next line r = numbered (field_of w line) given next line r

-- a word with two
abbrev pub paired : Result (Option (Read (ℕ × ℕ))) Unreadable → (ℕ → ℕ → Record → Record) → Reader → Reader
paired (Ok (Some x)) given next line r = next x.rest (given x.value.0 x.value.1 r)
paired (Ok None) given next line r = next line r
paired (Err e) given next line r = Err e

unfoldable pub pair : List ℕ → (ℕ → ℕ → Record → Record) → Reader → Reader
pair w given next line r = paired (pair_of w line) given next line r

-- "(repeated)"; each takes some of the line, so the line's length is enough fuel
abbrev pub one_more : Result (Option (Read ℕ)) Unreadable → (ℕ → Record → Record) → Reader → Reader → Reader
one_more (Ok (Some x)) given more next line r = more x.rest (given x.value r)
one_more (Ok None) given more next line r = next line r
one_more (Err e) given more next line r = Err e

unfoldable pub repeated_n : ℕ → List ℕ → (ℕ → Record → Record) → Reader → Reader
repeated_n zero w given next line r = next line r
repeated_n (suc k) w given next line r = one_more (field_of w line) given (repeated_n k w given next) next line r

unfoldable pub repeated : List ℕ → (ℕ → Record → Record) → Reader → Reader
repeated w given next line r = repeated_n (length line) w given next line r

-- "then in this order if present", the last one first
abbrev pub from_pkt : Reader
from_pkt = number (bytes " pkt ") with_handle ended

abbrev pub from_lrs : Reader
from_lrs = number (bytes " lrs ") with_last from_pkt

abbrev pub from_ack : Reader
from_ack = repeated (bytes " ack ") with_ack from_lrs

abbrev pub from_cum : Reader
from_cum = number (bytes " cum ") with_cumulative from_ack

abbrev pub from_rng : Reader
from_rng = pair (bytes " rng ") with_range from_cum

abbrev pub from_seq : Reader
from_seq = number (bytes " seq ") with_number from_rng

abbrev pub from_rel : Reader
from_rel = flag (bytes " rel") with_reliable from_seq

abbrev pub from_idx : Reader
from_idx = pair (bytes " idx ") with_index from_rel

abbrev pub from_on : Reader
from_on = flag (bytes " on") with_on from_idx

-- the fields of an `in` or a `pig` whose prefix is p
unfoldable pub fields_of : ℕ → List ℕ → Result Record Unreadable
fields_of p line = from_on line (with_prefix p no_record)

-- a reader that took its words has the rest of the line and the record so far, from which the next one goes on
abbrev pub Hands : Result ⊤ Unreadable → Reader → Reader → List ℕ → Record → List ℕ → Record → Type 0
Hands result from next line r rest s = MatchResult result (λ _. from line r ≡ next rest s) (λ e. from line r ≡ Err e)
