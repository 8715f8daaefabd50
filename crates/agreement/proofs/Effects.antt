-- What each refusal leaves, and which refusals a call can answer. Assumes nothing.
use mathlib.Core.Path.{◌≡◌, refl, ap, sym, ◌∙◌}
use mathlib.Core.Bool.{Bool, true, false, ◌||◌, true≢false, false≢true}
use mathlib.Core.List.{List, [], ◌∷◌, ◌++◌}
use Rattle.std.specs.declared.option.Option.{Option}
use Rattle.std.specs.declared.option.Option.TheVariants.{None, Some}
use Prim.Native.Nat.{ℕ}
use lib.Dec.{leb, eqb}
use lib.ListN.{length}
use borrow.Author.Tests.{eqb-true}
use Rattle.list.specs.Pad.{all_b}
use Rattle.list.specs.Find.{has}
use Rattle.list.proofs.Pad.{never, and_left, and_right}
use Rattle.packet.specs.declared.Record.{Record}
use Rattle.packet.specs.declared.Key.{Key}
use Rattle.packet.specs.Data.{is_set, index_of, key_index, well_made, key_made}
use Rattle.model.specs.State.{Protocol, State, with_time}
use Rattle.packet.specs.declared.Refusal.TheVariants.{NotWellFormed, OutOfRange, TimeBelow, ChannelAbsent, TableFull, OldVersion, CumulativeOff, LastOnReliable, LastNotExpected, LastOff, BeyondGroup, OverLimit, ListTooShort}
use Rattle.model.specs.Refusals.{Refusal, number, Change, nothing, time, prefix, channel, acks, Stages, stage, changes, left}
use Rattle.model.specs.Acks.{take_written}
use Rattle.model.specs.Record.{Outcome, granted, rejected, far_fragment, bare_run}
use Rattle.model.specs.Room.{fits}
use Rattle.model.specs.Rust as rust
use Rattle.model.specs.Calls as calls
use Rattle.model.specs.Calls.{Call, Answer, refused, delivered, undelivered, found, no_bundle, bundle, prepared, done, resends, held, prefix_is, flat}
use Rattle.model.specs.Port as port
use Rattle.model.specs.Port.{Reply, Result, takes, refuses, Recorded, untimed, timed, refuse, grant, refuse_record, record_stages, out_stages, record_step, play, count, last_result, last_made, delivery_made, delivery_answer, asked, on_time, reply}
use Rattle.agreement.specs.Effects.{among, stages_of, numbers_of, numbers_of_record, Refused, RecordRefused, CallEffects, RecordEffects, AlwaysEffects, Effects}
use Rattle.agreement.proofs.Rejections.{Leaves, own_record, own_out, record_outcome, out_outcome}

-- ---- numbers of refusals

-- among fewer, so among more
among_more : (ns ms : List ℕ) → all_b (λ (n : ℕ). has (λ (m : ℕ). eqb m n) ms) ns ≡ true → (x : Refusal) → among ns x ≡ true → among ms x ≡ true
unfolding all_b has
among_more [] ms c x h = absurd (false≢true h)
among_more (n ∷ ns) ms c x h = at (eqb n (number x)) refl h (λ k. among_more ns ms (and_right (has (λ (m : ℕ). eqb m n) ms) (all_b (λ (k : ℕ). has (λ (m : ℕ). eqb m k) ms) ns) c) x k)
  where
    here : has (λ (m : ℕ). eqb m n) ms ≡ true
    here = and_left (has (λ (m : ℕ). eqb m n) ms) (all_b (λ (k : ℕ). has (λ (m : ℕ). eqb m k) ms) ns) c

    at : (b : Bool) → eqb n (number x) ≡ b → (b || among ns x) ≡ true → (among ns x ≡ true → among ms x ≡ true) → among ms x ≡ true
    at true e k ih = rw (eqb-true n (number x) e) at here
    at false e k ih = ih k

-- a record's refusals, from 4 on, are not a whole delivery's
not_whole : (x : Refusal) → among (numbers_of_record true) x ≡ true → among (2 ∷ 3 ∷ []) x ≡ true → ⊥
unfolding has
not_whole NotWellFormed h g = absurd (false≢true h)
not_whole OutOfRange h g = absurd (false≢true h)
not_whole TimeBelow h g = absurd (false≢true h)
not_whole ChannelAbsent h g = absurd (false≢true h)
not_whole TableFull h g = absurd (false≢true g)
not_whole OldVersion h g = absurd (false≢true g)
not_whole CumulativeOff h g = absurd (false≢true g)
not_whole LastOnReliable h g = absurd (false≢true g)
not_whole LastNotExpected h g = absurd (false≢true g)
not_whole LastOff h g = absurd (false≢true g)
not_whole BeyondGroup h g = absurd (false≢true g)
not_whole OverLimit h g = absurd (false≢true g)
not_whole ListTooShort h g = absurd (false≢true h)

-- ---- the rows

left-nothing : (w : Stages State) (x : Refusal) → among (2 ∷ 3 ∷ []) x ≡ true → left x w ≡ w.nothing
unfolding has
left-nothing w NotWellFormed h = absurd (false≢true h)
left-nothing w OutOfRange h = refl
left-nothing w TimeBelow h = refl
left-nothing w ChannelAbsent h = absurd (false≢true h)
left-nothing w TableFull h = absurd (false≢true h)
left-nothing w OldVersion h = absurd (false≢true h)
left-nothing w CumulativeOff h = absurd (false≢true h)
left-nothing w LastOnReliable h = absurd (false≢true h)
left-nothing w LastNotExpected h = absurd (false≢true h)
left-nothing w LastOff h = absurd (false≢true h)
left-nothing w BeyondGroup h = absurd (false≢true h)
left-nothing w OverLimit h = absurd (false≢true h)
left-nothing w ListTooShort h = absurd (false≢true h)

left-time : (w : Stages State) (x : Refusal) → among (13 ∷ 4 ∷ 10 ∷ 11 ∷ 12 ∷ []) x ≡ true → left x w ≡ w.time
unfolding has
left-time w NotWellFormed h = absurd (false≢true h)
left-time w OutOfRange h = absurd (false≢true h)
left-time w TimeBelow h = absurd (false≢true h)
left-time w ChannelAbsent h = refl
left-time w TableFull h = refl
left-time w OldVersion h = absurd (false≢true h)
left-time w CumulativeOff h = absurd (false≢true h)
left-time w LastOnReliable h = absurd (false≢true h)
left-time w LastNotExpected h = absurd (false≢true h)
left-time w LastOff h = absurd (false≢true h)
left-time w BeyondGroup h = refl
left-time w OverLimit h = refl
left-time w ListTooShort h = refl

left-acks : (w : Stages State) (x : Refusal) → among (7 ∷ 8 ∷ 9 ∷ []) x ≡ true → left x w ≡ w.acks
unfolding has
left-acks w NotWellFormed h = absurd (false≢true h)
left-acks w OutOfRange h = absurd (false≢true h)
left-acks w TimeBelow h = absurd (false≢true h)
left-acks w ChannelAbsent h = absurd (false≢true h)
left-acks w TableFull h = absurd (false≢true h)
left-acks w OldVersion h = absurd (false≢true h)
left-acks w CumulativeOff h = absurd (false≢true h)
left-acks w LastOnReliable h = refl
left-acks w LastNotExpected h = refl
left-acks w LastOff h = refl
left-acks w BeyondGroup h = absurd (false≢true h)
left-acks w OverLimit h = absurd (false≢true h)
left-acks w ListTooShort h = absurd (false≢true h)

left-channel : (w : Stages State) (x : Refusal) → among own_out x ≡ true → left x w ≡ w.channel
unfolding has
left-channel w NotWellFormed h = absurd (false≢true h)
left-channel w OutOfRange h = absurd (false≢true h)
left-channel w TimeBelow h = absurd (false≢true h)
left-channel w ChannelAbsent h = absurd (false≢true h)
left-channel w TableFull h = absurd (false≢true h)
left-channel w OldVersion h = absurd (false≢true h)
left-channel w CumulativeOff h = refl
left-channel w LastOnReliable h = absurd (false≢true h)
left-channel w LastNotExpected h = absurd (false≢true h)
left-channel w LastOff h = absurd (false≢true h)
left-channel w BeyondGroup h = absurd (false≢true h)
left-channel w OverLimit h = absurd (false≢true h)
left-channel w ListTooShort h = absurd (false≢true h)

stage-untimed : (c : Change) (s : State) → stage c (untimed s) ≡ s
stage-untimed nothing s = refl
stage-untimed time s = refl
stage-untimed prefix s = refl
stage-untimed channel s = refl
stage-untimed acks s = refl

stages_nothing : (e : Call) (s : State) → (stages_of e s).nothing ≡ s
stages_nothing (calls.accept t a rs) s = refl
stages_nothing (calls.accept_out t a r) s = refl
stages_nothing (calls.channel k) s = refl
stages_nothing (calls.next_bundle k l) s = refl
stages_nothing (calls.prepare t k reliable hs) s = refl
stages_nothing (calls.acks_written k ns) s = refl
stages_nothing (calls.take_resends t timeout give_up l) s = refl
stages_nothing (calls.holds h) s = refl
stages_nothing calls.last_accepted_prefix s = refl
stages_nothing calls.reset_prefix_offset s = refl
stages_nothing calls.transfer_prefix_offset s = refl

-- ---- a reply that is refused by one of these numbers only, and leaves what the row says of these states

abbrev Regular : Stages State → List ℕ → Reply → Type 0
Regular w ns y = (x : Refusal) → y.answer ≡ refused x → (y.state ≡ left x w) × (among ns x ≡ true)

refusing : (y : Refusal) (w : Stages State) (ns : List ℕ) → among ns y ≡ true → Regular w ns (refuse y w)
refusing y w ns a x e = let same : y ≡ x = cc in rw (← same) (refl, a)

abbrev is_refused : Answer → Bool
is_refused (refused x) = true
is_refused (delivered v n) = false
is_refused (undelivered x n) = false
is_refused (found v) = false
is_refused no_bundle = false
is_refused (bundle b) = false
is_refused (prepared p) = false
is_refused done = false
is_refused (resends xs) = false
is_refused (held b) = false
is_refused (prefix_is p) = false

granting : (a : Answer) (s : State) (w : Stages State) (ns : List ℕ) → is_refused a ≡ false → Regular w ns (grant a s)
granting a s w ns n x e = absurd (true≢false (sym (ap is_refused e) ∙ n))

-- ---- each call

find_regular : (k : Key) (s : State) (made place : Bool) → Regular (untimed s) (2 ∷ 4 ∷ []) (port.find made place k s)
unfolding has
find_regular k s true true = granting _ _ (untimed s) (2 ∷ 4 ∷ []) refl
find_regular k s true false = refusing TableFull (untimed s) (2 ∷ 4 ∷ []) refl
find_regular k s false place = refusing OutOfRange (untimed s) (2 ∷ 4 ∷ []) refl

module _ (k : Key) (places : ℕ) (s : State) where
  abbrev next_numbers : List ℕ
  next_numbers = 2 ∷ 13 ∷ 12 ∷ []

  hand_regular : (fit : Bool) (b : List ℕ) (bs : List (List ℕ)) → Regular (untimed s) next_numbers (port.hand_out fit k b bs s)
  unfolding has
  hand_regular true b bs = granting _ _ (untimed s) next_numbers refl
  hand_regular false b bs = refusing ListTooShort (untimed s) next_numbers refl

  pop_regular : (bs : List (List ℕ)) → Regular (untimed s) next_numbers (port.next bs k places s)
  pop_regular [] = granting no_bundle s (untimed s) next_numbers refl
  pop_regular (b ∷ bs) = hand_regular (leb (length b) places) b bs

  next_regular : (made here : Bool) → Regular (untimed s) next_numbers (port.next_of made here k places s)
  unfolding has
  next_regular true true = pop_regular (rust.data_of k s.protocol).bundles
  next_regular true false = refusing ChannelAbsent (untimed s) next_numbers refl
  next_regular false here = refusing OutOfRange (untimed s) next_numbers refl

module _ (t : ℕ) (k : Key) (reliable : Bool) (hs : List ℕ) (s : State) where
  abbrev send_numbers : List ℕ
  send_numbers = 2 ∷ 3 ∷ 13 ∷ 11 ∷ []

  send-room : (fit : Bool) → Regular (timed t s) send_numbers (port.room_send fit t k reliable hs s)
  unfolding has
  send-room true = granting _ _ (timed t s) send_numbers refl
  send-room false = refusing OverLimit (timed t s) send_numbers refl

  send_regular : (made in_time here : Bool) → Regular (timed t s) send_numbers (port.send made in_time here t k reliable hs s)
  unfolding has
  send_regular true true true = send-room (fits (rust.prepared t k reliable hs s.protocol))
  send_regular true true false = refusing ChannelAbsent (timed t s) send_numbers refl
  send_regular true false here = refusing TimeBelow (timed t s) send_numbers refl
  send_regular false in_time here = refusing OutOfRange (timed t s) send_numbers refl

module _ (k : Key) (s : State) where
  abbrev wrote_numbers : List ℕ
  wrote_numbers = 2 ∷ 13 ∷ []

  wrote-here : (here : Bool) (qs : List ℕ) → Regular (untimed s) wrote_numbers (port.wrote_if here qs k s)
  unfolding has
  wrote-here true qs = granting _ _ (untimed s) wrote_numbers refl
  wrote-here false qs = refusing ChannelAbsent (untimed s) wrote_numbers refl

  wrote-left : (o : Option (List ℕ)) → Regular (untimed s) wrote_numbers (port.wrote o k s)
  unfolding has
  wrote-left None = refusing OutOfRange (untimed s) wrote_numbers refl
  wrote-left (Some qs) = wrote-here (rust.has_key k s.protocol) qs

  wrote_regular : (ns : List ℕ) (made : Bool) → Regular (untimed s) wrote_numbers (port.wrote_of made k ns s)
  unfolding has
  wrote_regular ns true = wrote-left (take_written ns (port.queue_if (rust.has_key k s.protocol) k s))
  wrote_regular ns false = refusing OutOfRange (untimed s) wrote_numbers refl

resend_regular : (t timeout give_up : ℕ) (s : State) (in_time room : Bool) → Regular (timed t s) (3 ∷ 12 ∷ []) (port.resend in_time room t timeout give_up s)
unfolding has
resend_regular t timeout give_up s true true = granting _ _ (timed t s) (3 ∷ 12 ∷ []) refl
resend_regular t timeout give_up s true false = refusing ListTooShort (timed t s) (3 ∷ 12 ∷ []) refl
resend_regular t timeout give_up s false room = refusing TimeBelow (timed t s) (3 ∷ 12 ∷ []) refl

module _ (t a : ℕ) (r : Record) (s : State) where
  abbrev out_numbers : List ℕ
  out_numbers = 2 ∷ 3 ∷ 4 ∷ 6 ∷ 11 ∷ []

  out-room : (fit : Bool) (p : Protocol) → Regular (out_stages t a r s) out_numbers (port.room_out fit t a r p s)
  unfolding has
  out-room true p = granting _ _ (out_stages t a r s) out_numbers refl
  out-room false p = refusing OverLimit (out_stages t a r s) out_numbers refl

  out_judged : (o : Outcome Protocol) → Leaves own_out (out_stages t a r s) o → Regular (out_stages t a r s) out_numbers (port.judge_out o t a r s)
  unfolding has all_b
  out_judged (granted p) l = out-room (fits p) p
  out_judged (rejected x p) l = refusing x (out_stages t a r s) out_numbers (among_more own_out out_numbers refl x l.1)
  out_judged far_fragment l = absurd (false≢true l)
  out_judged (bare_run p) l = out-room (fits p) p

  out_regular : (made in_time place : Bool) → Regular (out_stages t a r s) out_numbers (port.forward made in_time place t a r s)
  unfolding has
  out_regular true true true = out_judged (rust.accept_out t a r s.protocol) (out_outcome t a r s)
  out_regular true true false = refusing TableFull (out_stages t a r s) out_numbers refl
  out_regular true false place = refusing TimeBelow (out_stages t a r s) out_numbers refl
  out_regular false in_time place = refusing OutOfRange (out_stages t a r s) out_numbers refl

-- a delivery answers `undelivered`
delivery-answer : (x : Result) (n : ℕ) → is_refused (delivery_answer x n) ≡ false
delivery-answer (takes v) n = refl
delivery-answer (refuses x) n = refl

delivery_regular : (t a : ℕ) (rs : List Record) (s : State) (ns : List ℕ) (made in_time : Bool) → Regular (timed t s) ns (port.deliver made in_time t a rs s)
delivery_regular t a rs s ns true true =
    let y = play t a rs (with_time t s) in
    granting (delivery_answer (last_result y.results) (count y.results)) y.state (timed t s) ns (delivery-answer (last_result y.results) (count y.results))
delivery_regular t a rs s ns true false = λ x e. absurd (false≢true (ap is_refused e))
delivery_regular t a rs s ns false in_time = λ x e. absurd (false≢true (ap is_refused e))

regular : (e : Call) (s : State) → Regular (stages_of e s) (numbers_of e) (reply e s)
unfolding reply port.accept_s port.accept_out_s port.channel_s port.next_bundle_s port.prepare_s port.acks_written_s port.take_resends_s
regular (calls.accept t a rs) s = delivery_regular t a rs s (numbers_of (calls.accept t a rs)) (delivery_made rs) (on_time t s)
regular (calls.accept_out t a r) s = out_regular t a r s (well_made r) (on_time t s) (port.has_place (is_set r.on) a (index_of r) s.protocol)
regular (calls.channel k) s = find_regular k s (key_made k) (port.has_place (is_set k.on) k.address (key_index k) s.protocol)
regular (calls.next_bundle k l) s = next_regular k (length l) s (key_made k) (rust.has_key k s.protocol)
regular (calls.prepare t k reliable hs) s = send_regular t k (is_set reliable) hs s (asked k reliable (length hs)) (on_time t s) (rust.has_key k s.protocol)
regular (calls.acks_written k ns) s = wrote_regular k s ns (key_made k)
regular (calls.take_resends t timeout give_up l) s = resend_regular t timeout give_up s (on_time t s) (leb (length (flat (rust.all_rows t timeout give_up s.protocol))) (length l))
regular (calls.holds h) s = granting (held (rust.holds h s.protocol)) s (untimed s) [] refl
regular calls.last_accepted_prefix s = granting (prefix_is s.protocol.prefix) s (untimed s) [] refl
regular calls.reset_prefix_offset s = granting done _ (untimed s) [] refl
regular calls.transfer_prefix_offset s = granting done _ (untimed s) [] refl

-- ---- each record

module _ (t a : ℕ) (r : Record) (s : State) where
  abbrev RecordRegular : List ℕ → Recorded → Type 0
  RecordRegular ns y = (x : Refusal) → y.result ≡ refuses x → (y.state ≡ left x (record_stages a r s)) × (among ns x ≡ true)

  abbrev made : List ℕ
  made = numbers_of_record true

  record_refusing : (y : Refusal) (ns : List ℕ) → among ns y ≡ true → RecordRegular ns (refuse_record y a r s)
  record_refusing y ns m x e = let same : y ≡ x = cc in rw (← same) (refl, m)

  record_room : (fit : Bool) (p : Protocol) → RecordRegular made (port.room_record fit a r p s)
  unfolding has
  record_room true p = λ x e. never (cc)
  record_room false p = record_refusing OverLimit made refl

  record_judged : (o : Outcome Protocol) → Leaves own_record (record_stages a r s) o → RecordRegular made (port.judge_record o a r s)
  unfolding has all_b
  record_judged (granted p) l = record_room (fits p) p
  record_judged (rejected x p) l = record_refusing x made (among_more own_record made refl x l.1)
  record_judged far_fragment l = record_refusing BeyondGroup made refl
  record_judged (bare_run p) l = record_room (fits p) p

  record_placed : (place : Bool) → RecordRegular made (port.place_record place t a r s)
  unfolding has
  record_placed true = record_judged (rust.accept_record t a r s.protocol) (record_outcome t a r s)
  record_placed false = record_refusing TableFull made refl

  record_made : (b : Bool) → RecordRegular (numbers_of_record b) (port.made_record b t a r s)
  unfolding has
  record_made true = record_placed (port.has_place (is_set r.on) a (index_of r) s.protocol)
  record_made false = record_refusing OutOfRange (2 ∷ []) refl

  record_regular : RecordRegular (numbers_of_record (well_made r)) (record_step t a r s)
  unfolding record_step
  record_regular = record_made (well_made r)

-- ---- the records of a delivery

-- the answer is the last one's
refused_last : (y : Result) (m n : ℕ) (x : Refusal) → delivery_answer y m ≡ undelivered x n → y ≡ refuses x
refused_last (takes v) m n x e = never (cc)
refused_last (refuses y) m n x e = let same : y ≡ x = cc in ap refuses same

-- which is well made, so that it is refused from 4 on
last_numbers : (t a : ℕ) (rs : List Record) (s : State) (x : Refusal) → last_made rs ≡ true → last_result (play t a rs s).results ≡ refuses x → among (numbers_of_record true) x ≡ true
unfolding last_made play last_result
last_numbers t a [] s x m e = absurd (false≢true m)
last_numbers t a (r ∷ []) s x m e = rw m at (record_regular t a r s x e).1
last_numbers t a (r ∷ (q ∷ qs)) s x m e = last_numbers t a (q ∷ qs) (record_step t a r s).state x m e

last_result_lem : (t a : ℕ) (qs : List Record) (r : Record) (s : State) → last_result (play t a (qs ++ (r ∷ [])) s).results ≡ (record_step t a r (play t a qs s).state).result
unfolding play last_result
last_result_lem t a [] r s = refl
last_result_lem t a (q ∷ []) r s = refl
last_result_lem t a (q ∷ (p ∷ ps)) r s = last_result_lem t a (p ∷ ps) r (record_step t a q s).state

last_state : (t a : ℕ) (qs : List Record) (r : Record) (s : State) → (play t a (qs ++ (r ∷ [])) s).state ≡ (record_step t a r (play t a qs s).state).state
unfolding play
last_state t a [] r s = refl
last_state t a (q ∷ qs) r s = last_state t a qs r (record_step t a q s).state

module _ (t a : ℕ) (rs : List Record) (s : State) (x : Refusal) (n : ℕ) where
  -- past 2 and 3 the refusal is the last record's
  played-numbers : delivery_made rs ≡ true → (port.played_reply (play t a rs (with_time t s))).answer ≡ undelivered x n → among (numbers_of_record true) x ≡ true
  played-numbers m e =
      let y = play t a rs (with_time t s) in
      last_numbers t a rs (with_time t s) x (and_right (leb (length rs) 8) (last_made rs) m) (refused_last (last_result y.results) (count y.results) n x e)

  whole : (made in_time : Bool) → delivery_made rs ≡ made → (port.deliver made in_time t a rs s).answer ≡ undelivered x n → among (2 ∷ 3 ∷ []) x ≡ true → ((port.deliver made in_time t a rs s).state ≡ s) × (n ≡ 0)
  whole true true m e h = absurd (not_whole x (played-numbers m e) h)
  whole true false m e h = (refl, cc)
  whole false in_time m e h = (refl, cc)

  numbers : (made in_time : Bool) → delivery_made rs ≡ made → (port.deliver made in_time t a rs s).answer ≡ undelivered x n → among (numbers_of (calls.accept t a rs)) x ≡ true
  unfolding has all_b
  numbers true true m e = among_more (numbers_of_record true) (numbers_of (calls.accept t a rs)) refl x (played-numbers m e)
  numbers true false m e = let same : TimeBelow ≡ x = cc in rw (← same)
  numbers false in_time m e = let same : OutOfRange ≡ x = cc in rw (← same)

module _ (t a : ℕ) (qs : List Record) (r : Record) (s : State) (x : Refusal) (n : ℕ) where
  abbrev these : List Record
  these = qs ++ (r ∷ [])

  -- the state that the earlier records left
  abbrev earlier : State
  earlier = (play t a qs (with_time t s)).state

  own_record_lem : (made in_time : Bool) → (port.deliver made in_time t a these s).answer ≡ undelivered x n → among (2 ∷ 3 ∷ []) x ≡ false → (port.deliver made in_time t a these s).state ≡ left x (record_stages a r earlier)
  unfolding has
  own_record_lem true true e h =
      let y = play t a these (with_time t s) in
      let res : last_result y.results ≡ refuses x = refused_last (last_result y.results) (count y.results) n x e in
      last_state t a qs r (with_time t s) ∙ (record_regular t a r earlier x (sym (last_result_lem t a qs r (with_time t s)) ∙ res)).0
  own_record_lem true false e h = let same : TimeBelow ≡ x = cc in absurd (true≢false (rw (← same) at h))
  own_record_lem false in_time e h = let same : OutOfRange ≡ x = cc in absurd (true≢false (rw (← same) at h))

-- ---- the latest time

stage-latest : (c : Change) (a : ℕ) (r : Record) (s : State) → (stage c (record_stages a r s)).latest ≡ s.latest
stage-latest nothing a r s = refl
stage-latest time a r s = refl
stage-latest prefix a r s = refl
stage-latest channel a r s = refl
stage-latest acks a r s = refl

module _ (t a : ℕ) (r : Record) (s : State) where
  room-latest : (fit : Bool) (p : Protocol) → (port.room_record fit a r p s).state.latest ≡ s.latest
  room-latest true p = refl
  room-latest false p = refl

  judge_latest : (o : Outcome Protocol) → (port.judge_record o a r s).state.latest ≡ s.latest
  judge_latest (granted p) = room-latest (fits p) p
  judge_latest (rejected x p) = stage-latest (changes x) a r s
  judge_latest far_fragment = refl
  judge_latest (bare_run p) = room-latest (fits p) p

  place-latest : (place : Bool) → (port.place_record place t a r s).state.latest ≡ s.latest
  place-latest true = judge_latest (rust.accept_record t a r s.protocol)
  place-latest false = refl

  made-latest : (b : Bool) → (port.made_record b t a r s).state.latest ≡ s.latest
  made-latest true = place-latest (port.has_place (is_set r.on) a (index_of r) s.protocol)
  made-latest false = refl

  record_latest : (record_step t a r s).state.latest ≡ s.latest
  unfolding record_step
  record_latest = made-latest (well_made r)

  out-room-latest : (fit : Bool) (p : Protocol) → (port.room_out fit t a r p s).state.latest ≡ t
  out-room-latest true p = refl
  out-room-latest false p = refl

  out_judge_latest : (o : Outcome Protocol) → Leaves own_out (out_stages t a r s) o → (port.judge_out o t a r s).state.latest ≡ t
  out_judge_latest (granted p) l = out-room-latest (fits p) p
  out_judge_latest (rejected x p) l = ap (λ (w : State). w.latest) (left-channel (out_stages t a r s) x l.1)
  out_judge_latest far_fragment l = refl
  out_judge_latest (bare_run p) l = out-room-latest (fits p) p

  out-latest : (place : Bool) → (port.forward true true place t a r s).state.latest ≡ t
  out-latest true = out_judge_latest (rust.accept_out t a r s.protocol) (out_outcome t a r s)
  out-latest false = refl

play-latest : (t a : ℕ) (rs : List Record) (s : State) → (play t a rs s).state.latest ≡ s.latest
unfolding play
play-latest t a [] s = refl
play-latest t a (r ∷ rs) s = play-latest t a rs (record_step t a r s).state ∙ record_latest t a r s

send-latest : (t : ℕ) (k : Key) (reliable : Bool) (hs : List ℕ) (s : State) (here : Bool) → (port.send true true here t k reliable hs s).state.latest ≡ t
send-latest t k reliable hs s true = at (fits (rust.prepared t k reliable hs s.protocol))
  where
    at : (fit : Bool) → (port.room_send fit t k reliable hs s).state.latest ≡ t
    at true = refl
    at false = refl
send-latest t k reliable hs s false = refl

resend-latest : (t timeout give_up : ℕ) (s : State) (room : Bool) → (port.resend true room t timeout give_up s).state.latest ≡ t
resend-latest t timeout give_up s true = refl
resend-latest t timeout give_up s false = refl

-- ---- the table

call_effect : (e : Call) (s : State) (x : Refusal) → Refused e s x → (reply e s).state ≡ left x (stages_of e s)
call_effect e s x h = (regular e s x h).0

record_effect : (t a : ℕ) (r : Record) (s : State) (x : Refusal) → RecordRefused t a r s x → (record_step t a r s).state ≡ left x (record_stages a r s)
record_effect t a r s x h = (record_regular t a r s x h).0

-- among a call's fewer, so among the row's
at-time : (ns : List ℕ) → all_b (λ (n : ℕ). has (λ (m : ℕ). eqb m n) (13 ∷ 4 ∷ 10 ∷ 11 ∷ 12 ∷ [])) ns ≡ true → (w : Stages State) (x : Refusal) → among ns x ≡ true → left x w ≡ w.time
at-time ns c w x h = left-time w x (among_more ns (13 ∷ 4 ∷ 10 ∷ 11 ∷ 12 ∷ []) c x h)

at_record : (a : ℕ) (r : Record) (s : State) (x : Refusal) → among (2 ∷ 4 ∷ 10 ∷ 11 ∷ []) x ≡ true → left x (record_stages a r s) ≡ s
unfolding has
at_record a r s NotWellFormed h = absurd (false≢true h)
at_record a r s OutOfRange h = refl
at_record a r s TimeBelow h = absurd (false≢true h)
at_record a r s ChannelAbsent h = absurd (false≢true h)
at_record a r s TableFull h = refl
at_record a r s OldVersion h = absurd (false≢true h)
at_record a r s CumulativeOff h = absurd (false≢true h)
at_record a r s LastOnReliable h = absurd (false≢true h)
at_record a r s LastNotExpected h = absurd (false≢true h)
at_record a r s LastOff h = absurd (false≢true h)
at_record a r s BeyondGroup h = refl
at_record a r s OverLimit h = refl
at_record a r s ListTooShort h = absurd (false≢true h)

of_calls : CallEffects
unfolding has all_b
of_calls =
    record {
      calls = call_effect;
      call_numbers = λ e s x h. (regular e s x h).1;
      not_well_formed_lem = λ e s. refl;
      finds = λ k s x h. call_effect (calls.channel k) s x h ∙ stage-untimed (changes x) s;
      next_bundles = λ k l s x h. call_effect (calls.next_bundle k l) s x h ∙ stage-untimed (changes x) s;
      written_acks = λ k ns s x h. call_effect (calls.acks_written k ns) s x h ∙ stage-untimed (changes x) s;
      nothing = λ e s x h m. call_effect e s x h ∙ left-nothing (stages_of e s) x m ∙ stages_nothing e s;
      forwards_time = λ t a r s x h m. call_effect (calls.accept_out t a r) s x h ∙ at-time (4 ∷ 11 ∷ []) refl (out_stages t a r s) x m;
      sends_time = λ t k reliable hs s x h m. call_effect (calls.prepare t k reliable hs) s x h ∙ at-time (13 ∷ 11 ∷ []) refl (timed t s) x m;
      resends_time = λ t timeout give_up l s x h m. call_effect (calls.take_resends t timeout give_up l) s x h ∙ at-time (12 ∷ []) refl (timed t s) x m;
      forwards_6 = λ t a r s h. call_effect (calls.accept_out t a r) s CumulativeOff h;
    }

of_records : RecordEffects
unfolding reply port.accept_s
of_records =
    record {
      records = record_effect;
      record_numbers = λ t a r s x h. (record_regular t a r s x h).1;
      deliveries = λ t a rs s x n e h. whole t a rs s x n (delivery_made rs) (on_time t s) refl e h;
      last_records = λ t a qs r s x n e h. own_record_lem t a qs r s x n (delivery_made (qs ++ (r ∷ []))) (on_time t s) e h;
      delivery_numbers = λ t a rs s x n e. numbers t a rs s x n (delivery_made rs) (on_time t s) refl e;
      record_nothing = λ t a r s x h m. record_effect t a r s x h ∙ at_record a r s x m;
      record_5 = λ t a r s h. record_effect t a r s OldVersion h;
      record_6 = λ t a r s h. record_effect t a r s CumulativeOff h;
      record_7_8_9 = λ t a r s x h m. record_effect t a r s x h ∙ left-acks (record_stages a r s) x m;
    }

always : AlwaysEffects
unfolding reply port.accept_s port.accept_out_s port.prepare_s port.take_resends_s
always =
    record {
      delivery_sets_time = λ t a rs s m o. rw (m, o) (play-latest t a rs (with_time t s));
      forward_sets_time = λ t a r s m o. rw (m, o) (out-latest t a r s (port.has_place (is_set r.on) a (index_of r) s.protocol));
      send_sets_time = λ t k reliable hs s m o. rw (m, o) (send-latest t k (is_set reliable) hs s (rust.has_key k s.protocol));
      resends_set_time = λ t timeout give_up l s o. rw o (resend-latest t timeout give_up s (leb (length (flat (rust.all_rows t timeout give_up s.protocol))) (length l)));
      lent_lists = λ x l. refl;
      lent_lists_delivery = λ x n l. refl;
    }

pub effects : Effects
effects = record { of_calls = of_calls; of_records = of_records; always = always }
