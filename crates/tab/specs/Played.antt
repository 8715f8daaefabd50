-- A delivery's answer so far, and what a record's refusal leaves, as the code takes them.
use Rattle.std.specs.Prelude.{Bool, true, false, cond, Result, Ok, Err, ⊤, List, [], ◌∷◌, ℕ, ◌+◌}
use Rattle.packet.specs.declared.Record.{Record}
use Rattle.packet.specs.declared.View.{View}
use Rattle.packet.specs.Data.{is_set, index_of, version_of}
use Rattle.packet.specs.declared.Refusal.TheVariants.{NotWellFormed, OutOfRange, TimeBelow, TableFull, OldVersion, CumulativeOff, LastOnReliable, LastNotExpected, LastOff, BeyondGroup, OverLimit, ListTooShort, ChannelAbsent}
use Rattle.model.specs.State.{OffChannel, OnChannel, State, with_prefix, with_protocol, off_at, on_at, put_off, put_on, off_view, on_view}
use Rattle.model.specs.Refusals.{Refusal}
use Rattle.model.specs.Port as port
use Rattle.model.specs.Room.{fits_off, fits_on}
use Rattle.chan.specs.declared.records.Way.{Way}
use Rattle.chan.specs.declared.records.Way.TheVariants.{Out}
use Rattle.chan.specs.Settled.{Settled, settled}
use Rattle.chan.specs.Rules.{outcome_on, outcome_off}
use Rattle.tab.specs.declared.delivery.Delivery.{Delivery}

-- ---- one record

-- refusals 10 and 11 leave neither the last prefix nor the channel
abbrev pub late : Refusal → Bool
late NotWellFormed = false
late OutOfRange = false
late TimeBelow = false
late TableFull = false
late OldVersion = false
late CumulativeOff = false
late LastOnReliable = false
late LastNotExpected = false
late LastOff = false
late BeyondGroup = true
late OverLimit = true
late ListTooShort = false
late ChannelAbsent = false

-- the model's result as Rust's
abbrev pub result_of : port.Result → Result View Refusal
result_of (port.takes v) = Ok v
result_of (port.refuses x) = Err x

-- an answer and the state after it
pub record Step : Type 0 where
  pub answer : Result View Refusal
  pub state : State

abbrev pub step_of : port.Recorded → Step
step_of w = record { answer = result_of w.result; state = w.state }

-- the state with this last prefix, and with this channel in its place
abbrev pub put_on_p : ℕ → State → OnChannel → State
put_on_p p s x = with_protocol (put_on x (with_prefix p s.protocol)) s

abbrev pub put_off_p : ℕ → State → OffChannel → State
put_off_p p s x = with_protocol (put_off x (with_prefix p s.protocol)) s

-- by what is settled on its channel: that is put in its place, or nothing changes where it is refused late
abbrev pub step_if : {X : Type 0} → (X → View) → (X → State) → State → Result ⊤ Refusal → X → Step
step_if view put s (Ok x) c = record { answer = Ok (view c); state = put c }
step_if view put s (Err x) c = record { answer = Err x; state = cond (late x) s (put c) }

abbrev pub step_on : ℕ → State → Settled OnChannel → Step
step_on p s w = step_if on_view (put_on_p p s) s w.result w.channel

abbrev pub step_off : ℕ → State → Settled OffChannel → Step
step_off p s w = step_if off_view (put_off_p p s) s w.result w.channel

-- a record's channel, found or new, and the step on it
abbrev pub on_step : Way → ℕ → ℕ → ℕ → Record → State → Step
on_step way p t a r s =
    step_on p s (settled fits_on (outcome_on way t r (on_at a (index_of r) (version_of r) s.protocol)) (on_at a (index_of r) (version_of r) s.protocol))

abbrev pub off_step : Way → ℕ → ℕ → ℕ → Record → State → Step
off_step way p t a r s = step_off p s (settled fits_off (outcome_off way t r (off_at a s.protocol)) (off_at a s.protocol))

-- where there is a place for it
abbrev pub placed : Bool → State → Step → Step
placed true s w = w
placed false s w = record { answer = Err TableFull; state = s }

abbrev pub on_placed : Way → ℕ → ℕ → ℕ → Record → State → Step
on_placed way p t a r s = placed (port.has_place true a (index_of r) s.protocol) s (on_step way p t a r s)

abbrev pub off_placed : Way → ℕ → ℕ → ℕ → Record → State → Step
off_placed way p t a r s = placed (port.has_place false a (index_of r) s.protocol) s (off_step way p t a r s)

-- forwarded out: the last prefix stays
abbrev pub out_if : Bool → ℕ → ℕ → Record → State → Step
out_if true t a r s = on_placed Out s.protocol.prefix t a r s
out_if false t a r s = off_placed Out s.protocol.prefix t a r s

abbrev pub out_placed : ℕ → ℕ → Record → State → Step
out_placed t a r s = out_if (is_set r.on) t a r s

-- ---- the answer so far

-- before the first record
abbrev pub none_played : Delivery
none_played = record { count = 0; last = Err OutOfRange }

-- one more record
abbrev pub next : Delivery → port.Result → Delivery
next d (port.takes v) = record { count = d.count + 1; last = Ok v }
next d (port.refuses x) = record { count = d.count; last = Err x }

abbrev pub next_of : Delivery → Result View Refusal → Delivery
next_of d (Ok v) = record { count = d.count + 1; last = Ok v }
next_of d (Err x) = record { count = d.count; last = Err x }

unfoldable pub after : Delivery → List port.Result → Delivery
after d [] = d
after d (x ∷ xs) = after (next d x) xs
