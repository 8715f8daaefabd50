-- Demand 2: the port and the Rust agree, record by record, call by call, and along histories. Assumes nothing.
use mathlib.Core.Path.{◌≡◌, refl, ap, sym, ◌∙◌}
use mathlib.Core.Bool.{Bool, true, false, cond, not, ◌&&◌, true≢false, false≢true}
use mathlib.Core.List.{List, [], ◌∷◌}
use Rattle.std.specs.declared.option.Option.{Option}
use Rattle.std.specs.declared.option.Option.TheVariants.{None, Some}
use Prim.Native.Nat.{ℕ}
use lib.Dec.{leb}
use lib.ListN.{length}
use borrow.Author.Tests.{not-true}
use Rattle.list.proofs.Pad.{and_left, and_right}
use Rattle.packet.specs.declared.Record.{Record}
use Rattle.packet.specs.declared.Key.{Key}
use Rattle.packet.specs.Data.{is_set, index_of, key_index, well_made, key_made}
use Rattle.model.specs.State.{Protocol, State, new_protocol, new, with_time}
use Rattle.model.specs.Acks.{take_written}
use Rattle.model.specs.Record.{Outcome, granted, rejected, far_fragment, bare_run}
use Rattle.model.specs.Room.{fits}
use Rattle.model.specs.Rust as rust
use Rattle.model.specs.Calls.{Call, accept, accept_out, channel, next_bundle, prepare, acks_written, take_resends, holds, last_accepted_prefix, reset_prefix_offset, transfer_prefix_offset, refused, found, bundle, prepared, resends, flat, lent}
use Rattle.model.specs.Port as port
use Rattle.model.specs.Port.{Result, takes, refuses, record_stages, out_stages, record_step, play, delivery_made, asked, on_time, reply}
use Rattle.model.specs.History.{run, Rust, answers, RustRecord, gives, stops, rust_record_of, RustPlayed, played, broken, ahead_rust, then_rust, rust_play, rust_delivery, rust_out, rust_next, rust_wrote, rust_reply, rust_run, added_result, added_answer, any_added, results_of, panics_not, in_domain, all_in_domain}
use Rattle.agreement.specs.Demand2.{goes_on, rust_step, record_in_domain, records_inside, inside, rust_lent, Demand2}
use Rattle.agreement.proofs.Channels.{made-here}
use Rattle.agreement.proofs.Rejections.{Leaves, own_record, own_out, record_outcome, out_outcome}

-- ---- one record

-- the same result and the same protocol
abbrev SameRecord : RustRecord → port.Recorded → Type 0
SameRecord x w = x ≡ gives w.result w.state.protocol

module _ (t a : ℕ) (r : Record) (s : State) where
  record_room : (b : Bool) (p : Protocol) → added_result (port.room_record b a r p s).result ≡ false → SameRecord (gives (takes (rust.record_view a r p)) p) (port.room_record b a r p s)
  record_room true p n = refl
  record_room false p n = absurd (true≢false n)

  record_judged : (o : Outcome Protocol) → Leaves own_record (record_stages a r s) o → added_result (port.judge_record o a r s).result ≡ false → goes_on (rust_record_of o a r) ≡ true → SameRecord (rust_record_of o a r) (port.judge_record o a r s)
  record_judged (granted p) l n g = record_room (fits p) p n
  record_judged (rejected x p) l n g = ap (λ (q : Protocol). gives (refuses x) q) (sym l.0)
  record_judged far_fragment l n g = absurd (true≢false n)
  record_judged (bare_run p) l n g = absurd (false≢true g)

  record_placed : (b : Bool) → added_result (port.place_record b t a r s).result ≡ false → goes_on (rust_step t a r s) ≡ true → SameRecord (rust_step t a r s) (port.place_record b t a r s)
  record_placed true n g = record_judged (rust.accept_record t a r s.protocol) (record_outcome t a r s) n g
  record_placed false n g = absurd (true≢false n)

  record_made : (b : Bool) → added_result (port.made_record b t a r s).result ≡ false → goes_on (rust_step t a r s) ≡ true → SameRecord (rust_step t a r s) (port.made_record b t a r s)
  record_made true n g = record_placed (port.has_place (is_set r.on) a (index_of r) s.protocol) n g
  record_made false n g = absurd (true≢false n)

-- of every state and record: where the port adds no refusal and the Rust does not panic, result and protocol are the same
pub record_agrees : (t a : ℕ) (r : Record) (s : State) → added_result (record_step t a r s).result ≡ false → goes_on (rust_step t a r s) ≡ true → rust_step t a r s ≡ gives (record_step t a r s).result (record_step t a r s).state.protocol
unfolding record_step
record_agrees t a r s n g = record_made t a r s (well_made r) n g

-- ---- the records of a delivery

-- the Rust panics at none of them
abbrev pub unbroken : RustPlayed → Bool
unbroken (played xs p) = true
unbroken broken = false

unbroken_first : (x : RustRecord) (rest : Protocol → RustPlayed) → unbroken (then_rust x rest) ≡ true → goes_on x ≡ true
unbroken_first (gives x p) rest u = refl
unbroken_first stops rest u = u

ahead_agrees : (y : Result) (z : RustPlayed) (ys : List Result) (q : Protocol) → unbroken (ahead_rust y z) ≡ true → (unbroken z ≡ true → z ≡ played ys q) → ahead_rust y z ≡ played (y ∷ ys) q
ahead_agrees y (played xs p) ys q u k = ap (ahead_rust y) (k refl)
ahead_agrees y broken ys q u k = absurd (false≢true u)

then_agrees : (x : RustRecord) (rest : Protocol → RustPlayed) (y : Result) (p : Protocol) (ys : List Result) (q : Protocol) → unbroken (then_rust x rest) ≡ true → (goes_on x ≡ true → x ≡ gives y p) → (unbroken (rest p) ≡ true → rest p ≡ played ys q) → then_rust x rest ≡ played (y ∷ ys) q
then_agrees x rest y p ys q u h k =
    let e : x ≡ gives y p = h (unbroken_first x rest u) in
    rw e (ahead_agrees y (rest p) ys q (rw e at u) k)

added-first : (b c : Bool) → cond b true c ≡ false → b ≡ false
added-first true c n = n
added-first false c n = refl

added-rest : (b c : Bool) → cond b true c ≡ false → c ≡ false
added-rest true c n = absurd (true≢false n)
added-rest false c n = n

-- the same results and the same protocol
abbrev SamePlayed : ℕ → ℕ → List Record → State → Type 0
SamePlayed t a rs s = rust_play t a rs s.protocol ≡ played (play t a rs s).results (play t a rs s).state.protocol

-- each record in its turn
pub play_agrees : (t a : ℕ) (rs : List Record) (s : State) → any_added (play t a rs s).results ≡ false → unbroken (rust_play t a rs s.protocol) ≡ true → SamePlayed t a rs s
unfolding play rust_play any_added
play_agrees t a [] s n u = refl
play_agrees t a (r ∷ rs) s n u =
    let w = record_step t a r s in
    let later = play t a rs w.state in
    let n₁ : added_result w.result ≡ false = added-first (added_result w.result) (any_added later.results) n in
    let n₂ : any_added later.results ≡ false = added-rest (added_result w.result) (any_added later.results) n in
    then_agrees
    (rust_step t a r s)
    (λ q. rust_play t a rs q)
    w.result
    w.state.protocol
    later.results
    later.state.protocol
    u
    (record_agrees t a r s n₁)
    (play_agrees t a rs w.state n₂)

-- as far as they stay in the domain
recorded : (t a : ℕ) (r : Record) (s : State) → record_in_domain t a r s ≡ true → rust_step t a r s ≡ gives (record_step t a r s).result (record_step t a r s).state.protocol
unfolding record_in_domain
recorded t a r s h =
    let n : not (added_result (record_step t a r s).result) ≡ true = and_left (not (added_result (record_step t a r s).result)) (goes_on (rust_step t a r s)) h in
    let g : goes_on (rust_step t a r s) ≡ true = and_right (not (added_result (record_step t a r s).result)) (goes_on (rust_step t a r s)) h in
    record_agrees t a r s (not-true (added_result (record_step t a r s).result) n) g

delivered-inside : (t a : ℕ) (rs : List Record) (s : State) → SamePlayed t a (records_inside t a rs s) s
unfolding play rust_play records_inside
delivered-inside t a [] s = refl
delivered-inside t a (r ∷ rs) s = at (record_in_domain t a r s) refl (records_inside t a rs (record_step t a r s).state) (delivered-inside t a rs (record_step t a r s).state)
  where
    at : (b : Bool) → record_in_domain t a r s ≡ b → (qs : List Record) → SamePlayed t a qs (record_step t a r s).state → SamePlayed t a (cond b (r ∷ qs) []) s
    at true e qs ih = rw (recorded t a r s e, ih)
    at false e qs ih = refl

-- ---- each call

-- the same answer and the same protocol
abbrev Same : Rust → port.Reply → Type 0
Same x w = x ≡ answers w.answer w.state.protocol

panics_nowhere : (z : RustPlayed) → panics_not (rust_delivery z) ≡ true → unbroken z ≡ true
panics_nowhere (played xs p) g = refl
panics_nowhere broken g = g

-- the flags are those of the port's tests, in their order
delivery_agrees : (t a : ℕ) (rs : List Record) (s : State) (made in_time : Bool) → added_answer (port.deliver made in_time t a rs s).answer ≡ false → any_added (cond (made && in_time) (play t a rs (with_time t s)).results []) ≡ false → panics_not (rust_delivery (rust_play t a rs s.protocol)) ≡ true → Same (rust_delivery (rust_play t a rs s.protocol)) (port.deliver made in_time t a rs s)
delivery_agrees t a rs s true true n m g = ap rust_delivery (play_agrees t a rs (with_time t s) m (panics_nowhere (rust_play t a rs s.protocol) g))
delivery_agrees t a rs s true false n m g = absurd (true≢false n)
delivery_agrees t a rs s false in_time n m g = absurd (true≢false n)

module _ (t a : ℕ) (r : Record) (s : State) where
  out-room : (b : Bool) (p : Protocol) → added_answer (port.room_out b t a r p s).answer ≡ false → Same (answers (found (rust.record_view a r p)) p) (port.room_out b t a r p s)
  out-room true p n = refl
  out-room false p n = absurd (true≢false n)

  out_judged : (o : Outcome Protocol) → Leaves own_out (out_stages t a r s) o → added_answer (port.judge_out o t a r s).answer ≡ false → panics_not (rust_out o a r) ≡ true → Same (rust_out o a r) (port.judge_out o t a r s)
  out_judged (granted p) l n g = out-room (fits p) p n
  out_judged (rejected x p) l n g = ap (λ (q : Protocol). answers (refused x) q) (sym l.0)
  out_judged far_fragment l n g = absurd (true≢false n)
  out_judged (bare_run p) l n g = absurd (false≢true g)

  out_agrees : (made in_time place : Bool) → added_answer (port.forward made in_time place t a r s).answer ≡ false → panics_not (rust_out (rust.accept_out t a r s.protocol) a r) ≡ true → Same (rust_out (rust.accept_out t a r s.protocol) a r) (port.forward made in_time place t a r s)
  out_agrees true true true n g = out_judged (rust.accept_out t a r s.protocol) (out_outcome t a r s) n g
  out_agrees true true false n g = absurd (true≢false n)
  out_agrees true false place n g = absurd (true≢false n)
  out_agrees false in_time place n g = absurd (true≢false n)

find_agrees : (k : Key) (s : State) (made place : Bool) → added_answer (port.find made place k s).answer ≡ false → Same (answers (found (rust.key_view k (rust.made k s.protocol))) (rust.made k s.protocol)) (port.find made place k s)
find_agrees k s true true n = refl
find_agrees k s true false n = absurd (true≢false n)
find_agrees k s false place n = absurd (true≢false n)

-- next bundle, send and acks written: the channel is there, so that the Rust makes none
next_pops : (bs : List (List ℕ)) (k : Key) (places : ℕ) (s : State) → added_answer (port.next bs k places s).answer ≡ false → Same (rust_next bs k s.protocol) (port.next bs k places s)
next_pops [] k places s n = refl
next_pops (b ∷ bs) k places s n = room (leb (length b) places) n
  where
    room : (fit : Bool) → added_answer (port.hand_out fit k b bs s).answer ≡ false → Same (answers (bundle b) (rust.popped k bs s.protocol)) (port.hand_out fit k b bs s)
    room true m = refl
    room false m = absurd (true≢false m)

abbrev rust_next_of : Key → Protocol → Rust
rust_next_of k p = rust_next (rust.data_of k p).bundles k p

next_agrees : (k : Key) (places : ℕ) (s : State) (made here : Bool) → rust.has_key k s.protocol ≡ here → added_answer (port.next_of made here k places s).answer ≡ false → Same (rust_next_of k (rust.made k s.protocol)) (port.next_of made here k places s)
next_agrees k places s true true e n = ap (rust_next_of k) (made-here k s.protocol e) ∙ next_pops (rust.data_of k s.protocol).bundles k places s n
next_agrees k places s true false e n = absurd (true≢false n)
next_agrees k places s false here e n = absurd (true≢false n)

abbrev rust_send : ℕ → Key → Bool → List ℕ → Protocol → Rust
rust_send t k reliable hs p = answers (prepared (rust.prepared_answer k reliable hs p)) (rust.prepared t k reliable hs p)

module _ (t : ℕ) (k : Key) (reliable : Bool) (hs : List ℕ) (s : State) where
  send-room : (fit : Bool) → added_answer (port.room_send fit t k reliable hs s).answer ≡ false → Same (rust_send t k reliable hs s.protocol) (port.room_send fit t k reliable hs s)
  send-room true n = refl
  send-room false n = absurd (true≢false n)

  send_agrees : (made in_time here : Bool) → rust.has_key k s.protocol ≡ here → added_answer (port.send made in_time here t k reliable hs s).answer ≡ false → Same (rust_send t k reliable hs (rust.made k s.protocol)) (port.send made in_time here t k reliable hs s)
  send_agrees true true true e n = ap (rust_send t k reliable hs) (made-here k s.protocol e) ∙ send-room (fits (rust.prepared t k reliable hs s.protocol)) n
  send_agrees true true false e n = absurd (true≢false n)
  send_agrees true false here e n = absurd (true≢false n)
  send_agrees false in_time here e n = absurd (true≢false n)

abbrev rust_wrote_of : Key → List ℕ → Protocol → Rust
rust_wrote_of k ns p = rust_wrote (take_written ns (rust.data_of k p).acks) k p

-- the queue of a channel that is there; the answer on an absent one is an added refusal
module _ (k : Key) (ns : List ℕ) (s : State) where
  wrote-here : (o : Option (List ℕ)) → added_answer (port.wrote o k s).answer ≡ false → rust.has_key k s.protocol ≡ true → Same (rust_wrote o k s.protocol) (port.wrote o k s)
  wrote-here None n e = absurd (true≢false n)
  wrote-here (Some qs) n e = rw e

  wrote_absent : (o : Option (List ℕ)) → rust.has_key k s.protocol ≡ false → added_answer (port.wrote o k s).answer ≡ true
  wrote_absent None e = refl
  wrote_absent (Some qs) e = rw e

  wrote-queue : (here : Bool) → rust.has_key k s.protocol ≡ here → added_answer (port.wrote (take_written ns (port.queue_if here k s)) k s).answer ≡ false → Same (rust_wrote_of k ns (rust.made k s.protocol)) (port.wrote (take_written ns (port.queue_if here k s)) k s)
  wrote-queue true e n = ap (rust_wrote_of k ns) (made-here k s.protocol e) ∙ wrote-here (take_written ns (rust.data_of k s.protocol).acks) n e
  wrote-queue false e n = absurd (true≢false (sym (wrote_absent (take_written ns []) e) ∙ n))

  wrote_agrees : (made : Bool) → added_answer (port.wrote_of made k ns s).answer ≡ false → Same (rust_wrote_of k ns (rust.made k s.protocol)) (port.wrote_of made k ns s)
  wrote_agrees true n = wrote-queue (rust.has_key k s.protocol) refl n
  wrote_agrees false n = absurd (true≢false n)

resend_agrees : (t timeout give_up : ℕ) (s : State) (in_time room : Bool) → added_answer (port.resend in_time room t timeout give_up s).answer ≡ false → Same (answers (resends (rust.all_rows t timeout give_up s.protocol)) (rust.resent t timeout give_up s.protocol)) (port.resend in_time room t timeout give_up s)
resend_agrees t timeout give_up s true true n = refl
resend_agrees t timeout give_up s true false n = absurd (true≢false n)
resend_agrees t timeout give_up s false room n = absurd (true≢false n)

-- what it is to stay in the domain
module _ (e : Call) (s : State) (h : in_domain e s ≡ true) where
  unrefused : added_answer (reply e s).answer ≡ false
  unfolding in_domain
  unrefused = not-true (added_answer (reply e s).answer) (and_left (not (added_answer (reply e s).answer)) (not (any_added (results_of e s))) (and_left (not (added_answer (reply e s).answer) && not (any_added (results_of e s))) (panics_not (rust_reply e s.protocol)) h))

  unrefused_records : any_added (results_of e s) ≡ false
  unfolding in_domain
  unrefused_records = not-true (any_added (results_of e s)) (and_right (not (added_answer (reply e s).answer)) (not (any_added (results_of e s))) (and_left (not (added_answer (reply e s).answer) && not (any_added (results_of e s))) (panics_not (rust_reply e s.protocol)) h))

  unpanicked : panics_not (rust_reply e s.protocol) ≡ true
  unfolding in_domain
  unpanicked = and_right (not (added_answer (reply e s).answer) && not (any_added (results_of e s))) (panics_not (rust_reply e s.protocol)) h

replies : (e : Call) (s : State) → added_answer (reply e s).answer ≡ false → any_added (results_of e s) ≡ false → panics_not (rust_reply e s.protocol) ≡ true → Same (rust_reply e s.protocol) (reply e s)
unfolding reply rust_reply port.accept_s port.accept_out_s port.channel_s port.next_bundle_s port.prepare_s port.acks_written_s port.take_resends_s
replies (accept t a rs) s n m g = delivery_agrees t a rs s (delivery_made rs) (on_time t s) n m g
replies (accept_out t a r) s n m g = out_agrees t a r s (well_made r) (on_time t s) (port.has_place (is_set r.on) a (index_of r) s.protocol) n g
replies (channel k) s n m g = find_agrees k s (key_made k) (port.has_place (is_set k.on) k.address (key_index k) s.protocol) n
replies (next_bundle k l) s n m g = next_agrees k (length l) s (key_made k) (rust.has_key k s.protocol) refl n
replies (prepare t k reliable hs) s n m g = send_agrees t k (is_set reliable) hs s (asked k reliable (length hs)) (on_time t s) (rust.has_key k s.protocol) refl n
replies (acks_written k ns) s n m g = wrote_agrees k ns s (key_made k) n
replies (take_resends t timeout give_up l) s n m g = resend_agrees t timeout give_up s (on_time t s) (leb (length (flat (rust.all_rows t timeout give_up s.protocol))) (length l)) n
replies (holds h) s n m g = refl
replies last_accepted_prefix s n m g = refl
replies reset_prefix_offset s n m g = refl
replies transfer_prefix_offset s n m g = refl

-- a call that stays in the domain: the Rust gives the port's answer and leaves the port's protocol
pub reply_agrees : (e : Call) (s : State) → in_domain e s ≡ true → rust_reply e s.protocol ≡ answers (reply e s).answer (reply e s).state.protocol
reply_agrees e s h = replies e s (unrefused e s h) (unrefused_records e s h) (unpanicked e s h)

-- and the port writes the same to a lent list
pub lent_agrees : (e : Call) (s : State) (l : List ℕ) → in_domain e s ≡ true → rust_lent (rust_reply e s.protocol) l ≡ lent (reply e s).answer l
lent_agrees e s l h = ap (λ (x : Rust). rust_lent x l) (reply_agrees e s h)

-- ---- histories

agrees_from : (es : List Call) (s : State) → all_in_domain es s ≡ true → rust_run es s.protocol ≡ Some (record { answers = (run es s).answers; protocol = (run es s).state.protocol })
unfolding run rust_run all_in_domain
agrees_from [] s h = refl
agrees_from (e ∷ es) s h =
    let here : in_domain e s ≡ true = and_left (in_domain e s) (all_in_domain es (reply e s).state) h in
    let later : all_in_domain es (reply e s).state ≡ true = and_right (in_domain e s) (all_in_domain es (reply e s).state) h in
    rw (reply_agrees e s here, agrees_from es (reply e s).state later)

-- demand 2: along every history from a new table that stays in the domain, all answers and the protocol are the same
pub agrees : (f : Bool) (es : List Call) → all_in_domain es (new f) ≡ true → rust_run es (new_protocol f) ≡ Some (record { answers = (run es (new f)).answers; protocol = (run es (new f)).state.protocol })
agrees f es h = agrees_from es (new f) h

all-inside : (es : List Call) (s : State) → all_in_domain (inside es s) s ≡ true
unfolding inside all_in_domain
all-inside [] s = refl
all-inside (e ∷ es) s = at (in_domain e s) refl (all-inside es (reply e s).state)
  where
    at : (b : Bool) → in_domain e s ≡ b → all_in_domain (inside es (reply e s).state) (reply e s).state ≡ true → all_in_domain (cond b (e ∷ inside es (reply e s).state) []) s ≡ true
    at true h ih = rw (h, ih)
    at false h ih = refl

pub demand2 : Demand2
demand2 =
    record {
      records = recorded;
      deliveries = delivered-inside;
      calls = reply_agrees;
      lent_lists = lent_agrees;
      histories = agrees;
      up_to_the_first = λ f es. agrees f (inside es (new f)) (all-inside es (new f));
    }
