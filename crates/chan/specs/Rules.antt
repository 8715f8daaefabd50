-- A record on its channel, in the parts that the code takes one by one.
use Rattle.std.specs.Prelude.{Bool, true, false, Result, Ok, Err, ⊤, ℕ, eqb}
use Rattle.seq.specs.Num.{sub}
use Rattle.packet.specs.declared.Record.{Record}
use Rattle.packet.specs.Data.{is_set}
use Rattle.packet.specs.declared.Refusal.TheVariants.{LastOnReliable, LastNotExpected, LastOff}
use Rattle.model.specs.State.{OffChannel, OnChannel, off_with, on_with}
use Rattle.model.specs.Refusals.{Refusal}
use Rattle.model.specs.Record.{Outcome, granted, acked_on, acked_off, on_record, off_record}
use Rattle.model.specs.Rust.{forward_on, forward_off}
use Rattle.chan.specs.declared.records.Way.{Way}
use Rattle.chan.specs.declared.records.Way.TheVariants.{In, Out}

-- "acks applied"
abbrev pub on_acked : Record → OnChannel → OnChannel
on_acked r c = on_with (acked_on r c.off) c

abbrev pub off_acked : Record → OffChannel → OffChannel
off_acked r c = off_with (acked_off r c.off) c

-- refusals 7 and 8: the flags are: reliable, last reliable number given, and it is the one before the expected
abbrev pub last_on_if : Bool → Bool → Bool → Result ⊤ Refusal
last_on_if reliable false same = Ok tt
last_on_if true true same = Err LastOnReliable
last_on_if false true true = Ok tt
last_on_if false true false = Err LastNotExpected

abbrev pub last_on : Record → OnChannel → Result ⊤ Refusal
last_on r c = last_on_if (is_set r.reliable) (is_set r.haslast) (eqb r.lastreliable (sub c.expected 1))

-- 7 and 9
abbrev pub last_off_if : Bool → Bool → Result ⊤ Refusal
last_off_if reliable false = Ok tt
last_off_if true true = Err LastOnReliable
last_off_if false true = Err LastOff

abbrev pub last_off : Record → Result ⊤ Refusal
last_off r = last_off_if (is_set r.reliable) (is_set r.haslast)

-- ---- a record that came in, to a relay that forwards or not, or one that is forwarded out

abbrev pub outcome_on : Way → ℕ → Record → OnChannel → Outcome OnChannel
outcome_on (In forwarding) t r c = on_record forwarding t r c
outcome_on Out t r c = granted (forward_on t r c)

abbrev pub outcome_off : Way → ℕ → Record → OffChannel → Outcome OffChannel
outcome_off (In forwarding) t r c = off_record t r c
outcome_off Out t r c = forward_off (is_set r.hascumulative) t r c
