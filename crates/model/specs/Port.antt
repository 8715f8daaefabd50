-- The port: each call of 01 as a total function from state and arguments to answer and next state. The tests stand in 01's order,
-- 1, 2, 3, 13, 4, then the Rust's own 5 to 9, then 10, 11, 12; what a refusal leaves is `left` of its stages.
use Rattle.std.specs.Prelude.{Bool, true, false, ◌&&◌, ◌||◌, List, [], ◌∷◌, ℕ, suc, leb, length}
use Rattle.std.specs.declared.option.Option.{Option}
use Rattle.std.specs.declared.option.Option.TheVariants.{None, Some}
use Rattle.packet.specs.declared.Record.{Record}
use Rattle.packet.specs.declared.Key.{Key}
use Rattle.packet.specs.declared.View.{View}
use Rattle.packet.specs.Data.{is_set, is_flag, index_of, version_of, key_index, well_made, key_made}
use Rattle.model.specs.State.{Protocol, State, off_with, on_with, with_acks, with_prefix, with_time, with_protocol, has_off, has_on, off_at, on_at, put_off, put_on}
use Rattle.packet.specs.declared.Refusal.TheVariants.{NotWellFormed, OutOfRange, TimeBelow, ChannelAbsent, TableFull, BeyondGroup, OverLimit, ListTooShort}
use Rattle.model.specs.Refusals.{Refusal, Stages, left}
use Rattle.model.specs.Acks.{take_written}
use Rattle.model.specs.Record.{Outcome, granted, rejected, far_fragment, bare_run, acked_on, acked_off}
use Rattle.model.specs.Room.{fits, off_room, on_room}
use Rattle.model.specs.Rust as rust
use Rattle.model.specs.Calls.{Call, accept, accept_out, channel, next_bundle, prepare, acks_written, take_resends, holds, last_accepted_prefix, reset_prefix_offset, transfer_prefix_offset, Answer, refused, delivered, undelivered, found, no_bundle, bundle, prepared, done, resends, held, prefix_is, flat}

pub record Reply : Type 0 where
  pub answer : Answer
  pub state : State

-- an untimed call: "Untimed calls change nothing on refusal"
abbrev pub untimed : State → Stages State
untimed s = record { nothing = s; time = s; prefix = s; channel = s; acks = s }

-- a timed call: "A timed call past check 3 always sets the latest time"
abbrev pub timed : ℕ → State → Stages State
timed t s = record { nothing = s; time = with_time t s; prefix = with_time t s; channel = with_time t s; acks = with_time t s }

abbrev pub refuse : Refusal → Stages State → Reply
refuse x w = record { answer = refused x; state = left x w }

abbrev pub grant : Answer → State → Reply
grant a s = record { answer = a; state = s }

-- ---- one record of a delivery

pub data Result : Type 0 where
  takes : View → Result
  refuses : Refusal → Result

pub record Recorded : Type 0 where
  pub result : Result
  pub state : State

-- the channel of a record in a state, found or created, and with the record's acks applied
abbrev pub record_channel : Bool → ℕ → Record → Protocol → Protocol
record_channel true a r s = put_on (on_at a (index_of r) (version_of r) s) s
record_channel false a r s = put_off (off_at a s) s

abbrev pub record_acks : Bool → ℕ → Record → Protocol → Protocol
record_acks true a r s = put_on (on_with (acked_on r (on_at a (index_of r) (version_of r) s).off) (on_at a (index_of r) (version_of r) s)) s
record_acks false a r s = put_off (off_with (acked_off r (off_at a s).off) (off_at a s)) s

-- the time was set where the delivery passed check 3: the state is the one that the earlier records left
abbrev pub record_stages : ℕ → Record → State → Stages State
record_stages a r s =
    record {
      nothing = s;
      time = s;
      prefix = with_protocol (with_prefix r.prefix s.protocol) s;
      channel = with_protocol (record_channel (is_set r.on) a r (with_prefix r.prefix s.protocol)) s;
      acks = with_protocol (record_acks (is_set r.on) a r (with_prefix r.prefix s.protocol)) s;
    }

abbrev pub refuse_record : Refusal → ℕ → Record → State → Recorded
refuse_record x a r s = record { result = refuses x; state = left x (record_stages a r s) }

-- 11: "Room is judged on the state the rule would end in"
abbrev pub room_record : Bool → ℕ → Record → Protocol → State → Recorded
room_record true a r p s = record { result = takes (rust.record_view a r p); state = with_protocol p s }
room_record false a r p s = refuse_record OverLimit a r s

-- the Rust's outcome; 10 where it panics at a fragment beyond its group, and "the port drops them" where it panics at a bare run
abbrev pub judge_record : Outcome Protocol → ℕ → Record → State → Recorded
judge_record (granted p) a r s = room_record (fits p) a r p s
judge_record (rejected x p) a r s = refuse_record x a r s
judge_record far_fragment a r s = refuse_record BeyondGroup a r s
judge_record (bare_run p) a r s = room_record (fits p) a r p s

-- 4: the channel is there, or there is a place for one more
abbrev pub has_place : Bool → ℕ → ℕ → Protocol → Bool
has_place true a i s = has_on a i s || on_room s
has_place false a i s = has_off a s || off_room s

abbrev pub place_record : Bool → ℕ → ℕ → Record → State → Recorded
place_record true t a r s = judge_record (rust.accept_record t a r s.protocol) a r s
place_record false t a r s = refuse_record TableFull a r s

-- 2: "a malformed earlier one is itself refused (2) and skipped"
abbrev pub made_record : Bool → ℕ → ℕ → Record → State → Recorded
made_record true t a r s = place_record (has_place (is_set r.on) a (index_of r) s.protocol) t a r s
made_record false t a r s = refuse_record OutOfRange a r s

unfoldable pub record_step : ℕ → ℕ → Record → State → Recorded
record_step t a r s = made_record (well_made r) t a r s

-- ---- a delivery: "A delivery is a lent list of 1 to 8 records, .. with one time"

pub record Played : Type 0 where
  pub results : List Result
  pub state : State

abbrev pub ahead : Result → Played → Played
ahead x p = record { results = x ∷ p.results; state = p.state }

-- each record by itself, in order
unfoldable pub play : ℕ → ℕ → List Record → State → Played
play t a [] s = record { results = []; state = s }
play t a (r ∷ rs) s = ahead (record_step t a r s).result (play t a rs (record_step t a r s).state)

-- "the count of records not refused"
abbrev pub count_one : Result → ℕ → ℕ
count_one (takes v) n = suc n
count_one (refuses x) n = n

unfoldable pub count : List Result → ℕ
count [] = 0
count (x ∷ xs) = count_one x (count xs)

-- "Earlier records' refusals are ignored; the answer is the last one's"
unfoldable pub last_result : List Result → Result
last_result [] = refuses OutOfRange
last_result (x ∷ []) = x
last_result (x ∷ (y ∷ ys)) = last_result (y ∷ ys)

abbrev pub delivery_answer : Result → ℕ → Answer
delivery_answer (takes v) n = delivered v n
delivery_answer (refuses x) n = undelivered x n

-- "A malformed last record refuses the whole delivery"; an empty or too long list too
unfoldable pub last_made : List Record → Bool
last_made [] = false
last_made (r ∷ []) = well_made r
last_made (r ∷ (q ∷ qs)) = last_made (q ∷ qs)

abbrev pub delivery_made : List Record → Bool
delivery_made rs = leb (length rs) 8 && last_made rs

abbrev pub refuse_delivery : Refusal → Stages State → Reply
refuse_delivery x w = record { answer = undelivered x 0; state = left x w }

abbrev pub played_reply : Played → Reply
played_reply p = grant (delivery_answer (last_result p.results) (count p.results)) p.state

-- the tests are: 2 passed, 3 passed
abbrev pub deliver : Bool → Bool → ℕ → ℕ → List Record → State → Reply
deliver false on_time t a rs s = refuse_delivery OutOfRange (untimed s)
deliver true false t a rs s = refuse_delivery TimeBelow (untimed s)
deliver true true t a rs s = played_reply (play t a rs (with_time t s))

-- 3: time below the latest
abbrev pub on_time : ℕ → State → Bool
on_time t s = leb s.latest t

unfoldable pub accept_s : ℕ → ℕ → List Record → State → Reply
accept_s t a rs s = deliver (delivery_made rs) (on_time t s) t a rs s

-- ---- forwarded out: the stages have no prefix, and a refusal by 6 leaves the channel

abbrev pub out_stages : ℕ → ℕ → Record → State → Stages State
out_stages t a r s =
    record {
      nothing = s;
      time = with_time t s;
      prefix = with_time t s;
      channel = with_protocol (record_channel (is_set r.on) a r s.protocol) (with_time t s);
      acks = with_protocol (record_channel (is_set r.on) a r s.protocol) (with_time t s);
    }

abbrev pub room_out : Bool → ℕ → ℕ → Record → Protocol → State → Reply
room_out true t a r p s = grant (found (rust.record_view a r p)) (with_protocol p (with_time t s))
room_out false t a r p s = refuse OverLimit (out_stages t a r s)

abbrev pub judge_out : Outcome Protocol → ℕ → ℕ → Record → State → Reply
judge_out (granted p) t a r s = room_out (fits p) t a r p s
judge_out (rejected x p) t a r s = refuse x (out_stages t a r s)
judge_out far_fragment t a r s = refuse BeyondGroup (out_stages t a r s)
judge_out (bare_run p) t a r s = room_out (fits p) t a r p s

-- the tests are: 2, 3, 4 passed
abbrev pub forward : Bool → Bool → Bool → ℕ → ℕ → Record → State → Reply
forward false on_time place t a r s = refuse OutOfRange (out_stages t a r s)
forward true false place t a r s = refuse TimeBelow (out_stages t a r s)
forward true true false t a r s = refuse TableFull (out_stages t a r s)
forward true true true t a r s = judge_out (rust.accept_out t a r s.protocol) t a r s

unfoldable pub accept_out_s : ℕ → ℕ → Record → State → Reply
accept_out_s t a r s = forward (well_made r) (on_time t s) (has_place (is_set r.on) a (index_of r) s.protocol) t a r s

-- ---- find or create

abbrev pub find : Bool → Bool → Key → State → Reply
find false place k s = refuse OutOfRange (untimed s)
find true false k s = refuse TableFull (untimed s)
find true true k s = grant (found (rust.key_view k (rust.made k s.protocol))) (with_protocol (rust.made k s.protocol) s)

unfoldable pub channel_s : Key → State → Reply
channel_s k s = find (key_made k) (has_place (is_set k.on) k.address (key_index k) s.protocol) k s

-- ---- next bundle

abbrev pub hand_out : Bool → Key → List ℕ → List (List ℕ) → State → Reply
hand_out true k b bs s = grant (bundle b) (with_protocol (rust.popped k bs s.protocol) s)
hand_out false k b bs s = refuse ListTooShort (untimed s)

-- next bundle without a bundle answers none, whatever the lent list's length (docs/DECISIONS.md, 12)
abbrev pub next : List (List ℕ) → Key → ℕ → State → Reply
next [] k places s = grant no_bundle s
next (b ∷ bs) k places s = hand_out (leb (length b) places) k b bs s

abbrev pub next_of : Bool → Bool → Key → ℕ → State → Reply
next_of false here k places s = refuse OutOfRange (untimed s)
next_of true false k places s = refuse ChannelAbsent (untimed s)
next_of true true k places s = next (rust.data_of k s.protocol).bundles k places s

unfoldable pub next_bundle_s : Key → ℕ → State → Reply
next_bundle_s k places s = next_of (key_made k) (rust.has_key k s.protocol) k places s

-- ---- send: "0 to 16 handles"

abbrev pub room_send : Bool → ℕ → Key → Bool → List ℕ → State → Reply
room_send true t k reliable hs s =
    grant (prepared (rust.prepared_answer k reliable hs s.protocol)) (with_protocol (rust.prepared t k reliable hs s.protocol) (with_time t s))
room_send false t k reliable hs s = refuse OverLimit (timed t s)

-- 2 where this is false of the key, the flag and the number of handles: "0 to 16 handles"
abbrev pub asked : Key → ℕ → ℕ → Bool
asked k reliable n = key_made k && is_flag reliable && leb n 16

-- the tests are: 2, 3, 13 passed
abbrev pub send : Bool → Bool → Bool → ℕ → Key → Bool → List ℕ → State → Reply
send false on_time here t k reliable hs s = refuse OutOfRange (timed t s)
send true false here t k reliable hs s = refuse TimeBelow (timed t s)
send true true false t k reliable hs s = refuse ChannelAbsent (timed t s)
send true true true t k reliable hs s = room_send (fits (rust.prepared t k reliable hs s.protocol)) t k reliable hs s

unfoldable pub prepare_s : ℕ → Key → ℕ → List ℕ → State → Reply
prepare_s t k reliable hs s = send (asked k reliable (length hs)) (on_time t s) (rust.has_key k s.protocol) t k (is_set reliable) hs s

-- ---- acks written: "An absent channel gives 2 for any name, 13 for an empty list"

abbrev pub queue_if : Bool → Key → State → List ℕ
queue_if true k s = (rust.data_of k s.protocol).acks
queue_if false k s = []

abbrev pub wrote_if : Bool → List ℕ → Key → State → Reply
wrote_if true qs k s = grant done (with_protocol (rust.put_data k (with_acks qs (rust.data_of k s.protocol)) s.protocol) s)
wrote_if false qs k s = refuse ChannelAbsent (untimed s)

abbrev pub wrote : Option (List ℕ) → Key → State → Reply
wrote None k s = refuse OutOfRange (untimed s)
wrote (Some qs) k s = wrote_if (rust.has_key k s.protocol) qs k s

abbrev pub wrote_of : Bool → Key → List ℕ → State → Reply
wrote_of false k ns s = refuse OutOfRange (untimed s)
wrote_of true k ns s = wrote (take_written ns (queue_if (rust.has_key k s.protocol) k s)) k s

unfoldable pub acks_written_s : Key → List ℕ → State → Reply
acks_written_s k ns s = wrote_of (key_made k) k ns s

-- ---- resends

-- the tests are: 3, 12 passed
abbrev pub resend : Bool → Bool → ℕ → ℕ → ℕ → State → Reply
resend false room t timeout give_up s = refuse TimeBelow (timed t s)
resend true false t timeout give_up s = refuse ListTooShort (timed t s)
resend true true t timeout give_up s =
    grant (resends (rust.all_rows t timeout give_up s.protocol)) (with_protocol (rust.resent t timeout give_up s.protocol) (with_time t s))

unfoldable pub take_resends_s : ℕ → ℕ → ℕ → ℕ → State → Reply
take_resends_s t timeout give_up places s = resend (on_time t s) (leb (length (flat (rust.all_rows t timeout give_up s.protocol))) places) t timeout give_up s

-- ---- every call on a well-formed table, and on any: 1 first

unfoldable pub reply : Call → State → Reply
reply (accept t a rs) s = accept_s t a rs s
reply (accept_out t a r) s = accept_out_s t a r s
reply (channel k) s = channel_s k s
reply (next_bundle k l) s = next_bundle_s k (length l) s
reply (prepare t k reliable hs) s = prepare_s t k reliable hs s
reply (acks_written k ns) s = acks_written_s k ns s
reply (take_resends t timeout give_up l) s = take_resends_s t timeout give_up (length l) s
reply (holds h) s = grant (held (rust.holds h s.protocol)) s
reply last_accepted_prefix s = grant (prefix_is s.protocol.prefix) s
reply reset_prefix_offset s = grant done (with_protocol (rust.reset s.protocol) s)
reply transfer_prefix_offset s = grant done (with_protocol (rust.transferred s.protocol) s)

-- the answer by refusal 1; a delivery's comes with its count
abbrev pub answer_one : Call → Answer
answer_one (accept t a rs) = undelivered NotWellFormed 0
answer_one (accept_out t a r) = refused NotWellFormed
answer_one (channel k) = refused NotWellFormed
answer_one (next_bundle k l) = refused NotWellFormed
answer_one (prepare t k reliable hs) = refused NotWellFormed
answer_one (acks_written k ns) = refused NotWellFormed
answer_one (take_resends t timeout give_up l) = refused NotWellFormed
answer_one (holds h) = refused NotWellFormed
answer_one last_accepted_prefix = refused NotWellFormed
answer_one reset_prefix_offset = refused NotWellFormed
answer_one transfer_prefix_offset = refused NotWellFormed

abbrev pub reply_if : Bool → Call → State → Reply
reply_if true e s = reply e s
reply_if false e s = record { answer = answer_one e; state = left NotWellFormed (untimed s) }
