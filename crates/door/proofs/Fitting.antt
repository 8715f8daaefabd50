-- What the exports answer, from the result of the call: it is a refusal, or the one kind of answer that the call has a value for.
use Rattle.std.proofs.Common.{◌≡◌, ℕ, Bool, true, false, List, refl, ◌≤◌, ◌+◌, ◌*◌, cond, ap, ◌∙◌, sym}
use Rattle.std.specs.Prelude.{Result, Ok, Err}
use Rattle.std.specs.declared.option.Option.{Option}
use Rattle.std.specs.declared.option.Option.TheVariants.{None, Some}
use Rattle.list.proofs.Pad.{never}
use Rattle.packet.specs.declared.Record.{Record}
use Rattle.packet.specs.declared.View.{View}
use Rattle.packet.specs.declared.Prepared.{Prepared}
use Rattle.packet.specs.declared.Refusal.{Refusal}
use Rattle.packet.specs.declared.Refusal.TheVariants.{NotWellFormed, OutOfRange, TimeBelow, TableFull, OldVersion, CumulativeOff, LastOnReliable, LastNotExpected, LastOff, BeyondGroup, OverLimit, ListTooShort, ChannelAbsent}
use Rattle.packet.specs.Refusals.{number}
use Rattle.packet.specs.Data.{no_view, is_set}
use Rattle.model.specs.State as model
use Rattle.model.specs.Calls as call
use Rattle.model.specs.Calls.{Answer, refused, delivered, undelivered, found, no_bundle, bundle, prepared, done, resends, held, prefix_is}
use Rattle.tab.specs.declared.Table.{Table}
use Rattle.tab.specs.declared.delivery.Delivery.{Delivery}
use Rattle.tab.specs.Tables.{IsTable, state_of, repr}
use Rattle.tab.specs.Answers.{view_of, prepared_of, no_prepared}
use Rattle.tab.specs.Calls.{called, answer_of, delivery_of, view_in, bundle_in, prepared_in, rows_in, held_in, prefix_in}
use Rattle.tab.proofs.Called.{table_form}
use Rattle.tab.proofs.Fitting.{fitting, arrived, came}
use borrow.Author.Tests.{le-leb}
use lib.Dec.{eqb}
use mir.Val.{bool_byte}
use Rattle.door.specs.Numbers.{value_or, marked, bundle_number, rows_number, held_number, prefix_number, renewed}

-- ---- the values

pub view-fits : (a : Answer) → fitting view_in a ≡ true → view_of a ≡ value_or no_view (answer_of view_in a)
unfolding answer_of
view-fits (refused x) h = refl
view-fits (delivered v n) h = never h
view-fits (undelivered x n) h = refl
view-fits (found v) h = refl
view-fits no_bundle h = refl
view-fits (bundle b) h = refl
view-fits (prepared p) h = refl
view-fits done h = refl
view-fits (resends xs) h = refl
view-fits (held b) h = refl
view-fits (prefix_is p) h = refl

pub prepared-fits : (a : Answer) → prepared_of a ≡ value_or no_prepared (answer_of prepared_in a)
unfolding answer_of
prepared-fits (refused x) = refl
prepared-fits (delivered v n) = refl
prepared-fits (undelivered x n) = refl
prepared-fits (found v) = refl
prepared-fits no_bundle = refl
prepared-fits (bundle b) = refl
prepared-fits (prepared p) = refl
prepared-fits done = refl
prepared-fits (resends xs) = refl
prepared-fits (held b) = refl
prepared-fits (prefix_is p) = refl

-- ---- what the exports answer, from the result of the call

pub view-says : (blank x : View) (r : Result View Refusal) (a : Answer) → blank ≡ no_view → r ≡ answer_of view_in a → fitting view_in a ≡ true → x ≡ value_or blank r → x ≡ view_of a
view-says blank x r a b e h q = q ∙ (λ i. value_or (b i) (e i)) ∙ sym (view-fits a h)

pub prepared-says : (blank x : Prepared) (r : Result Prepared Refusal) (a : Answer) → blank ≡ no_prepared → r ≡ answer_of prepared_in a → x ≡ value_or blank r → x ≡ prepared_of a
prepared-says blank x r a b e q = q ∙ (λ i. value_or (b i) (e i)) ∙ sym (prepared-fits a)

pub renewed-is : (t u : Table) (f : ℕ) → f ≤ 1 → IsTable u → state_of u ≡ model.new (is_set f) → u ≡ renewed t f
renewed-is t u f small h e = table_form u h ∙ ap repr e ∙ rw (le-leb f 1 small) refl

-- ---- a delivery

view-arrived : (a : Answer) → arrived a ≡ true → view_of a ≡ value_or no_view (delivery_of a).last
view-arrived (refused x) h = refl
view-arrived (delivered v n) h = refl
view-arrived (undelivered x n) h = refl
view-arrived (found v) h = never h
view-arrived no_bundle h = never h
view-arrived (bundle b) h = never h
view-arrived (prepared p) h = never h
view-arrived done h = never h
view-arrived (resends xs) h = never h
view-arrived (held b) h = never h
view-arrived (prefix_is p) h = never h

module _ (time a : ℕ) (rs : List Record) (t : Table) (d : Delivery) (e : d ≡ delivery_of (called (call.accept time a rs) t).answer) where
  pub came-view : (blank x : View) → blank ≡ no_view → x ≡ value_or blank d.last → x ≡ view_of (called (call.accept time a rs) t).answer
  came-view blank x b q = q ∙ (λ i. value_or (b i) (e i).last) ∙ sym (view-arrived _ (came time a rs t))

-- ---- one number for a refusal or a value

pub marked-refused : (x : Refusal) (v : ℕ) → marked (number x) v ≡ 2147483648 + number x
marked-refused NotWellFormed v = refl
marked-refused OutOfRange v = refl
marked-refused TimeBelow v = refl
marked-refused TableFull v = refl
marked-refused OldVersion v = refl
marked-refused CumulativeOff v = refl
marked-refused LastOnReliable v = refl
marked-refused LastNotExpected v = refl
marked-refused LastOff v = refl
marked-refused BeyondGroup v = refl
marked-refused OverLimit v = refl
marked-refused ListTooShort v = refl
marked-refused ChannelAbsent v = refl

prefix-refused : (x : Refusal) (v : ℕ) → cond (eqb (number x) 0) v (number x * 4294967296) ≡ number x * 4294967296
prefix-refused NotWellFormed v = refl
prefix-refused OutOfRange v = refl
prefix-refused TimeBelow v = refl
prefix-refused TableFull v = refl
prefix-refused OldVersion v = refl
prefix-refused CumulativeOff v = refl
prefix-refused LastOnReliable v = refl
prefix-refused LastNotExpected v = refl
prefix-refused LastOff v = refl
prefix-refused BeyondGroup v = refl
prefix-refused OverLimit v = refl
prefix-refused ListTooShort v = refl
prefix-refused ChannelAbsent v = refl

abbrev pub bundle-result : Result (Option ℕ) Refusal → ℕ
bundle-result (Ok None) = 0
bundle-result (Ok (Some n)) = n + 1
bundle-result (Err x) = 2147483648 + number x

abbrev pub rows-result : Result ℕ Refusal → ℕ
rows-result (Ok n) = n
rows-result (Err x) = 2147483648 + number x

abbrev pub held-result : Result Bool Refusal → ℕ
held-result (Ok b) = bool_byte b
held-result (Err x) = 2147483648 + number x

abbrev pub prefix-result : Result ℕ Refusal → ℕ
prefix-result (Ok n) = n
prefix-result (Err x) = number x * 4294967296

pub bundle-fits : (a : Answer) → fitting bundle_in a ≡ true → bundle-result (answer_of bundle_in a) ≡ bundle_number a
unfolding answer_of
bundle-fits (refused x) h = sym (marked-refused x _)
bundle-fits (delivered v n) h = never h
bundle-fits (undelivered x n) h = never h
bundle-fits (found v) h = never h
bundle-fits no_bundle h = refl
bundle-fits (bundle b) h = refl
bundle-fits (prepared p) h = never h
bundle-fits done h = never h
bundle-fits (resends xs) h = never h
bundle-fits (held b) h = never h
bundle-fits (prefix_is p) h = never h

pub rows-fits : (a : Answer) → fitting rows_in a ≡ true → rows-result (answer_of rows_in a) ≡ rows_number a
unfolding answer_of
rows-fits (refused x) h = sym (marked-refused x _)
rows-fits (delivered v n) h = never h
rows-fits (undelivered x n) h = never h
rows-fits (found v) h = never h
rows-fits no_bundle h = never h
rows-fits (bundle b) h = never h
rows-fits (prepared p) h = never h
rows-fits done h = never h
rows-fits (resends xs) h = refl
rows-fits (held b) h = never h
rows-fits (prefix_is p) h = never h

pub held-fits : (a : Answer) → fitting held_in a ≡ true → held-result (answer_of held_in a) ≡ held_number a
unfolding answer_of
held-fits (refused x) h = sym (marked-refused x _)
held-fits (delivered v n) h = never h
held-fits (undelivered x n) h = never h
held-fits (found v) h = never h
held-fits no_bundle h = never h
held-fits (bundle b) h = never h
held-fits (prepared p) h = never h
held-fits done h = never h
held-fits (resends xs) h = never h
held-fits (held true) h = refl
held-fits (held false) h = refl
held-fits (prefix_is p) h = never h

pub prefix-is-fits : (a : Answer) → fitting prefix_in a ≡ true → prefix-result (answer_of prefix_in a) ≡ prefix_number a
unfolding answer_of
prefix-is-fits (refused x) h = sym (prefix-refused x _)
prefix-is-fits (delivered v n) h = never h
prefix-is-fits (undelivered x n) h = never h
prefix-is-fits (found v) h = never h
prefix-is-fits no_bundle h = never h
prefix-is-fits (bundle b) h = never h
prefix-is-fits (prepared p) h = never h
prefix-is-fits done h = never h
prefix-is-fits (resends xs) h = never h
prefix-is-fits (held b) h = never h
prefix-is-fits (prefix_is p) h = refl
