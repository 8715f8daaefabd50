-- The numbers of an answer: 01's refusal number, 0 where the call is granted, and the values, zero where the answer has none.
use Rattle.std.specs.Prelude.{cond, ℕ, length, Result, Ok, Err}
use Rattle.packet.specs.declared.View.{View}
use Rattle.packet.specs.declared.Prepared.{Prepared}
use Rattle.packet.specs.declared.Refusal.{Refusal}
pub use Rattle.packet.specs.Data.{no_view}
use Rattle.model.specs.Refusals.{number}
use Rattle.model.specs.Calls.{Answer, refused, delivered, undelivered, found, no_bundle, bundle, prepared, done, resends, held, prefix_is}

-- a result's number: 0, or the refusal's
module _ {X : Type 0} where
  abbrev pub code_in : Result X Refusal → ℕ
  code_in (Ok x) = 0
  code_in (Err r) = number r

abbrev pub no_prepared : Prepared
no_prepared = record { allocated = 0; first = 0; on = 0; expected = 0; index = 0; version = 0; offset = 0 }

abbrev pub code_of : Answer → ℕ
code_of (refused x) = number x
code_of (delivered v n) = 0
code_of (undelivered x n) = number x
code_of (found v) = 0
code_of no_bundle = 0
code_of (bundle b) = 0
code_of (prepared p) = 0
code_of done = 0
code_of (resends xs) = 0
code_of (held b) = 0
code_of (prefix_is p) = 0

abbrev pub count_of : Answer → ℕ
count_of (refused x) = 0
count_of (delivered v n) = n
count_of (undelivered x n) = n
count_of (found v) = 0
count_of no_bundle = 0
count_of (bundle b) = 0
count_of (prepared p) = 0
count_of done = 0
count_of (resends xs) = 0
count_of (held b) = 0
count_of (prefix_is p) = 0

abbrev pub view_of : Answer → View
view_of (refused x) = no_view
view_of (delivered v n) = v
view_of (undelivered x n) = no_view
view_of (found v) = v
view_of no_bundle = no_view
view_of (bundle b) = no_view
view_of (prepared p) = no_view
view_of done = no_view
view_of (resends xs) = no_view
view_of (held b) = no_view
view_of (prefix_is p) = no_view

-- a bundle: whether one was handed out, and its length
abbrev pub some_of : Answer → ℕ
some_of (refused x) = 0
some_of (delivered v n) = 0
some_of (undelivered x n) = 0
some_of (found v) = 0
some_of no_bundle = 0
some_of (bundle b) = 1
some_of (prepared p) = 0
some_of done = 0
some_of (resends xs) = 0
some_of (held b) = 0
some_of (prefix_is p) = 0

-- the length of a bundle, or the number of rows
abbrev pub length_of : Answer → ℕ
length_of (refused x) = 0
length_of (delivered v n) = 0
length_of (undelivered x n) = 0
length_of (found v) = 0
length_of no_bundle = 0
length_of (bundle b) = length b
length_of (prepared p) = 0
length_of done = 0
length_of (resends xs) = length xs
length_of (held b) = 0
length_of (prefix_is p) = 0

abbrev pub prepared_of : Answer → Prepared
prepared_of (refused x) = no_prepared
prepared_of (delivered v n) = no_prepared
prepared_of (undelivered x n) = no_prepared
prepared_of (found v) = no_prepared
prepared_of no_bundle = no_prepared
prepared_of (bundle b) = no_prepared
prepared_of (prepared p) = p
prepared_of done = no_prepared
prepared_of (resends xs) = no_prepared
prepared_of (held b) = no_prepared
prepared_of (prefix_is p) = no_prepared

-- a yes or no, or a prefix
abbrev pub value_of : Answer → ℕ
value_of (refused x) = 0
value_of (delivered v n) = 0
value_of (undelivered x n) = 0
value_of (found v) = 0
value_of no_bundle = 0
value_of (bundle b) = 0
value_of (prepared p) = 0
value_of done = 0
value_of (resends xs) = 0
value_of (held b) = cond b 1 0
value_of (prefix_is p) = p
