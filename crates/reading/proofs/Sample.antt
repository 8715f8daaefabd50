-- 01's printed case, line by line, and one line for each rule of the grammar. Assumes nothing.
use Rattle.std.proofs.Common.{◌≡◌, ℕ, [], ◌∷◌, Result, Ok, Err, refl}
use Rattle.packet.specs.declared.Record.{Record}
use Rattle.packet.specs.declared.Key.{Key}
use Rattle.packet.specs.Data.{no_record}
use Rattle.packet.specs.Given.{with_prefix, with_on, with_index, with_reliable, with_number, with_range, with_cumulative, with_acks, with_ack, with_last, with_handle}
use Rattle.reading.specs.declared.Command.{Command}
use Rattle.reading.specs.declared.Command.TheVariants.{In, Pig, Pop}
use Rattle.reading.specs.declared.Bad.{Bad}
use Rattle.reading.specs.declared.Bad.TheVariants.{Line, Arrival}
use Rattle.reading.specs.Text.{bytes}
use Rattle.reading.specs.Words.{number_of, field_of, due_of, pair_of, ended}
use Rattle.reading.specs.Readers.{flag, pair, number, repeated, repeated_n, fields_of}
use Rattle.reading.specs.Grammar.{arrival_of, key, key_of, other_of, after_in, line_of}

abbrev arrives : ℕ → ℕ → Record → Result Command Bad
arrives t a r = Ok (In t a r)

abbrev held : Record → Result Command Bad
held r = Ok (Pig r)

abbrev popped : Key → Result Command Bad
popped k = Ok (Pop k)

-- ---- the printed case

pub line_1 : line_of (bytes "in 0 7 0 on rel seq 1 pkt 21") ≡ arrives 0 7 (with_handle 21 (with_number 1 (with_reliable (with_on no_record))))
unfolding line_of after_in arrival_of number_of field_of due_of pair_of ended fields_of flag pair number repeated repeated_n other_of key_of with_ack
line_1 = refl

pub line_2 : line_of (bytes "in 5 7 0 on rel seq 0 pkt 20") ≡ arrives 5 7 (with_handle 20 (with_reliable (with_on no_record)))
unfolding line_of after_in arrival_of number_of field_of due_of pair_of ended fields_of flag pair number repeated repeated_n other_of key_of with_ack
line_2 = refl

pub line_3 : line_of (bytes "in 6 7 0 on rel seq 1 pkt 22") ≡ arrives 6 7 (with_handle 22 (with_number 1 (with_reliable (with_on no_record))))
unfolding line_of after_in arrival_of number_of field_of due_of pair_of ended fields_of flag pair number repeated repeated_n other_of key_of with_ack
line_3 = refl

-- lines 4, 5 and 6
pub line_4 : line_of (bytes "pop 7 on") ≡ popped (key 7 1 0 0)
unfolding line_of after_in arrival_of number_of field_of due_of pair_of ended fields_of flag pair number repeated repeated_n other_of key_of with_ack
line_4 = refl

pub line_7 : line_of (bytes "in 7 7 0 seq 0 cum 3 pkt 23") ≡ arrives 7 7 (with_handle 23 (with_cumulative 3 no_record))
unfolding line_of after_in arrival_of number_of field_of due_of pair_of ended fields_of flag pair number repeated repeated_n other_of key_of with_ack
line_7 = refl

-- ---- every word, in its order; the others of `pop`

pub all_words : line_of (bytes "pig 1 on idx 2 3 rel seq 4 rng 5 6 cum 7 ack 8 ack 9 lrs 10 pkt 11") ≡ held (with_handle 11 (with_last 10 (with_acks 2 (8 ∷ 9 ∷ 0 ∷ 0 ∷ 0 ∷ 0 ∷ 0 ∷ 0 ∷ []) (with_cumulative 7 (with_range 5 6 (with_number 4 (with_reliable (with_index 2 3 (with_on (with_prefix 1 no_record))))))))))
unfolding line_of after_in arrival_of number_of field_of due_of pair_of ended fields_of flag pair number repeated repeated_n other_of key_of with_ack
all_words = refl

pub nine_acks : line_of (bytes "pig 0 ack 1 ack 2 ack 3 ack 4 ack 5 ack 6 ack 7 ack 8 ack 9") ≡ held (with_acks 9 (1 ∷ 2 ∷ 3 ∷ 4 ∷ 5 ∷ 6 ∷ 7 ∷ 8 ∷ []) no_record)
unfolding line_of after_in arrival_of number_of field_of due_of pair_of ended fields_of flag pair number repeated repeated_n other_of key_of with_ack
nine_acks = refl

pub pop_off_lem : line_of (bytes "pop 7 off") ≡ popped (key 7 0 0 0)
unfolding line_of after_in arrival_of number_of field_of due_of pair_of ended fields_of flag pair number repeated repeated_n other_of key_of with_ack
pop_off_lem = refl

pub pop_index_lem : line_of (bytes "pop 7 idx 0") ≡ popped (key 7 1 1 0)
unfolding line_of after_in arrival_of number_of field_of due_of pair_of ended fields_of flag pair number repeated repeated_n other_of key_of with_ack
pop_index_lem = refl

-- ---- what fits is read, leading zeros too; what does not fit is `bad`

pub largest : line_of (bytes "in 18446744073709551615 4294967295 0007") ≡ arrives 18446744073709551615 4294967295 (with_prefix 7 no_record)
unfolding line_of after_in arrival_of number_of field_of due_of pair_of ended fields_of flag pair number repeated repeated_n other_of key_of with_ack
largest = refl

pub time_too_large : line_of (bytes "in 18446744073709551616 0 0") ≡ Err Arrival
unfolding line_of after_in arrival_of number_of field_of due_of pair_of ended fields_of flag pair number repeated repeated_n other_of key_of with_ack
time_too_large = refl

pub address_too_large : line_of (bytes "in 0 4294967296 0") ≡ Err Arrival
unfolding line_of after_in arrival_of number_of field_of due_of pair_of ended fields_of flag pair number repeated repeated_n other_of key_of with_ack
address_too_large = refl

pub no_digits : line_of (bytes "in 0 7 0 seq ") ≡ Err Arrival
unfolding line_of after_in arrival_of number_of field_of due_of pair_of ended fields_of flag pair number repeated repeated_n other_of key_of with_ack
no_digits = refl

-- ---- "One blank between words, none before or after"; a repeated or misplaced word is `bad`

pub two_blanks : line_of (bytes "in 0  7 0") ≡ Err Arrival
unfolding line_of after_in arrival_of number_of field_of due_of pair_of ended fields_of flag pair number repeated repeated_n other_of key_of with_ack
two_blanks = refl

pub blank_after : line_of (bytes "pop 7 on ") ≡ Err Line
unfolding line_of after_in arrival_of number_of field_of due_of pair_of ended fields_of flag pair number repeated repeated_n other_of key_of with_ack
blank_after = refl

pub misplaced : line_of (bytes "pig 0 seq 1 rel") ≡ Err Line
unfolding line_of after_in arrival_of number_of field_of due_of pair_of ended fields_of flag pair number repeated repeated_n other_of key_of with_ack
misplaced = refl

pub twice : line_of (bytes "pig 0 on on") ≡ Err Line
unfolding line_of after_in arrival_of number_of field_of due_of pair_of ended fields_of flag pair number repeated repeated_n other_of key_of with_ack
twice = refl

pub empty : line_of (bytes "") ≡ Err Line
unfolding line_of after_in arrival_of number_of field_of due_of pair_of ended fields_of flag pair number repeated repeated_n other_of key_of with_ack
empty = refl

pub in_alone : line_of (bytes "in") ≡ Err Arrival
unfolding line_of after_in arrival_of number_of field_of due_of pair_of ended fields_of flag pair number repeated repeated_n other_of key_of with_ack
in_alone = refl

pub in_longer : line_of (bytes "inn 0 7 0") ≡ Err Line
unfolding line_of after_in arrival_of number_of field_of due_of pair_of ended fields_of flag pair number repeated repeated_n other_of key_of with_ack
in_longer = refl
