-- What every call answers and leaves, for every table and input: refusal 1 and the same table where it is not well formed, else the port's
-- function of the model at the table's state, put back.
use Rattle.std.specs.Prelude.{Bool, true, false, Result, Ok, Err, ⊤, ℕ, length}
use Rattle.std.specs.declared.option.Option.{Option}
use Rattle.std.specs.declared.option.Option.TheVariants.{None, Some}
use Rattle.packet.specs.declared.View.{View}
use Rattle.packet.specs.declared.Prepared.{Prepared}
use Rattle.model.specs.Refusals.{Refusal}
use Rattle.packet.specs.declared.Refusal.TheVariants.{NotWellFormed}
use Rattle.model.specs.Calls.{Call, Answer, refused, delivered, undelivered, found, no_bundle, bundle, prepared, done, resends, held, prefix_is}
use Rattle.model.specs.Port.{Reply, reply, answer_one}
use Rattle.tab.specs.declared.Table.{Table}
use Rattle.tab.specs.declared.delivery.Delivery.{Delivery}
use Rattle.tab.specs.Tables.{state_of, repr}
use Rattle.tab.specs.Test.{wfb}

-- the answer and the next table of a call
pub record TableReply : Type 0 where
  pub answer : Answer
  pub table : Table

abbrev pub table_reply : Reply → TableReply
table_reply r = record { answer = r.answer; table = repr r.state }

abbrev pub called_if : Bool → Call → Table → TableReply
called_if true e t = table_reply (reply e (state_of t))
called_if false e t = record { answer = answer_one e; table = t }

-- any call on any table
unfoldable pub called : Call → Table → TableReply
called e t = called_if (wfb t) e t

-- ---- an answer as each call gives it; of another call's answer nothing is meant, and it is refusal 1

abbrev pub delivery_of : Answer → Delivery
delivery_of (delivered v n) = record { count = n; last = Ok v }
delivery_of (undelivered x n) = record { count = n; last = Err x }
delivery_of (refused x) = record { count = 0; last = Err x }
delivery_of (found v) = record { count = 0; last = Err NotWellFormed }
delivery_of no_bundle = record { count = 0; last = Err NotWellFormed }
delivery_of (bundle b) = record { count = 0; last = Err NotWellFormed }
delivery_of (prepared p) = record { count = 0; last = Err NotWellFormed }
delivery_of done = record { count = 0; last = Err NotWellFormed }
delivery_of (resends xs) = record { count = 0; last = Err NotWellFormed }
delivery_of (held b) = record { count = 0; last = Err NotWellFormed }
delivery_of (prefix_is p) = record { count = 0; last = Err NotWellFormed }

module _ {X : Type 0} (value : Answer → Option X) where
  -- a refusal, or the value of a granted call
  abbrev pub answer_or : Option X → Result X Refusal
  answer_or (Some x) = Ok x
  answer_or None = Err NotWellFormed

  unfoldable pub answer_of : Answer → Result X Refusal
  answer_of (refused x) = Err x
  answer_of (delivered v n) = answer_or (value (delivered v n))
  answer_of (undelivered x n) = Err x
  answer_of (found v) = answer_or (value (found v))
  answer_of no_bundle = answer_or (value no_bundle)
  answer_of (bundle b) = answer_or (value (bundle b))
  answer_of (prepared p) = answer_or (value (prepared p))
  answer_of done = answer_or (value done)
  answer_of (resends xs) = answer_or (value (resends xs))
  answer_of (held b) = answer_or (value (held b))
  answer_of (prefix_is p) = answer_or (value (prefix_is p))

-- the channel: forwarded out, and find or create
abbrev pub view_in : Answer → Option View
view_in (refused x) = None
view_in (delivered v n) = None
view_in (undelivered x n) = None
view_in (found v) = Some v
view_in no_bundle = None
view_in (bundle b) = None
view_in (prepared p) = None
view_in done = None
view_in (resends xs) = None
view_in (held b) = None
view_in (prefix_is p) = None

-- the length of the bundle that was handed out, if there was one
abbrev pub bundle_in : Answer → Option (Option ℕ)
bundle_in (refused x) = None
bundle_in (delivered v n) = None
bundle_in (undelivered x n) = None
bundle_in (found v) = None
bundle_in no_bundle = Some None
bundle_in (bundle b) = Some (Some (length b))
bundle_in (prepared p) = None
bundle_in done = None
bundle_in (resends xs) = None
bundle_in (held b) = None
bundle_in (prefix_is p) = None

-- what a send answers
abbrev pub prepared_in : Answer → Option Prepared
prepared_in (refused x) = None
prepared_in (delivered v n) = None
prepared_in (undelivered x n) = None
prepared_in (found v) = None
prepared_in no_bundle = None
prepared_in (bundle b) = None
prepared_in (prepared p) = Some p
prepared_in done = None
prepared_in (resends xs) = None
prepared_in (held b) = None
prepared_in (prefix_is p) = None

-- nothing but that the call was granted
abbrev pub done_in : Answer → Option ⊤
done_in (refused x) = None
done_in (delivered v n) = None
done_in (undelivered x n) = None
done_in (found v) = None
done_in no_bundle = None
done_in (bundle b) = None
done_in (prepared p) = None
done_in done = Some tt
done_in (resends xs) = None
done_in (held b) = None
done_in (prefix_is p) = None

-- how many rows were written
abbrev pub rows_in : Answer → Option ℕ
rows_in (refused x) = None
rows_in (delivered v n) = None
rows_in (undelivered x n) = None
rows_in (found v) = None
rows_in no_bundle = None
rows_in (bundle b) = None
rows_in (prepared p) = None
rows_in done = None
rows_in (resends xs) = Some (length xs)
rows_in (held b) = None
rows_in (prefix_is p) = None

-- whether the handle is held
abbrev pub held_in : Answer → Option Bool
held_in (refused x) = None
held_in (delivered v n) = None
held_in (undelivered x n) = None
held_in (found v) = None
held_in no_bundle = None
held_in (bundle b) = None
held_in (prepared p) = None
held_in done = None
held_in (resends xs) = None
held_in (held b) = Some b
held_in (prefix_is p) = None

-- the prefix
abbrev pub prefix_in : Answer → Option ℕ
prefix_in (refused x) = None
prefix_in (delivered v n) = None
prefix_in (undelivered x n) = None
prefix_in (found v) = None
prefix_in no_bundle = None
prefix_in (bundle b) = None
prefix_in (prepared p) = None
prefix_in done = None
prefix_in (resends xs) = None
prefix_in (held b) = None
prefix_in (prefix_is p) = Some p
