-- Each refusal is answered exactly when its condition holds and no earlier one does. Assumes nothing.
use mathlib.Core.Path.{◌≡◌, refl, ap, sym, ◌∙◌}
use mathlib.Core.Bool.{Bool, true, false, not, cond, ◌&&◌}
use mathlib.Core.List.{List, [], ◌∷◌}
use mathlib.Core.Logic.{◌⊎◌, inl, inr}
use Rattle.std.specs.declared.option.Option.{Option}
use Rattle.std.specs.declared.option.Option.TheVariants.{None, Some}
use Prim.Native.Nat.{ℕ}
use lib.Dec.{ltb, leb, eqb}
use lib.ListN.{length}
use Rattle.list.specs.Find.{has}
use Rattle.list.proofs.Pad.{never, and_right}
use Rattle.seq.specs.Num.{sub, dist}
use Rattle.packet.specs.declared.Record.{Record}
use Rattle.packet.specs.declared.Packet.{Packet}
use Rattle.packet.specs.declared.Key.{Key}
use Rattle.packet.specs.Data.{Range, no_range, range, range_of, packet, is_set, index_of, version_of, key_index, well_made, key_made}
use Rattle.model.specs.State.{Group, OffData, OffChannel, OnChannel, Protocol, State, off_with, on_with, with_source, with_prefix, with_time, off_at, on_at}
use Rattle.packet.specs.declared.Refusal.TheVariants.{OutOfRange, TimeBelow, ChannelAbsent, TableFull, OldVersion, CumulativeOff, LastOnReliable, LastNotExpected, LastOff, BeyondGroup, OverLimit, ListTooShort}
use Rattle.model.specs.Refusals.{Refusal}
use Rattle.model.specs.Acks.{take_written}
use Rattle.model.specs.Group.{Stored, beyond, span, is_first, stale, is_beyond, group_at, present, create, in_group, placed, add_in_packet, panics}
use Rattle.model.specs.Group as group
use Rattle.model.specs.Reorder.{reorder, regroup}
use Rattle.model.specs.Record.{Outcome, acked_on, acked_off, queued, observed_if, reliable_of, with_reliable, run_of, reliable_in, stored_on, stored_off, loose_on, loose_off, last_given, rules_on, rules_off, current, on_record, cumulative_given, off_record}
use Rattle.model.specs.Room.{fits}
use Rattle.model.specs.Rust as rust
use Rattle.model.specs.Calls as calls
use Rattle.model.specs.Calls.{Call, flat}
use Rattle.model.specs.Port as port
use Rattle.model.specs.Port.{Result, takes, refuses, record_step, play, last_result, count, last_made, delivery_made, delivery_answer, asked, on_time, has_place, queue_if, reply}
use Rattle.agreement.specs.When.{Row, row, Decides, Passes, far_in, far_of, far, too_much, own_rows, record_rows, last_rows, rows_of, too_short, lacking, refusal_in, ExactlyWhen}

-- ---- the first row whose condition holds

unfoldable first : List Row → Option Refusal
first [] = None
first (w ∷ ws) = cond w.holds (Some w.refusal) (first ws)

decides : (x : Refusal) (ws : List Row) → first ws ≡ Some x → Decides x ws
unfolding first Decides
decides x [] e = never (cc)
decides x (w ∷ ws) e = at w.holds refl e (λ q. decides x ws q)
  where
    at : (b : Bool) → w.holds ≡ b → cond b (Some w.refusal) (first ws) ≡ Some x → (first ws ≡ Some x → Decides x ws) → ((w.holds ≡ true) × (w.refusal ≡ x)) ⊎ ((w.holds ≡ false) × Decides x ws)
    at true p q ih = inl (p, cc)
    at false p q ih = inr (p, ih q)

decided : (x : Refusal) (ws : List Row) → Decides x ws → first ws ≡ Some x
unfolding first Decides
decided x [] d = absurd d
decided x (w ∷ ws) (inl d) = ap (λ (b : Bool). cond b (Some w.refusal) (first ws)) d.0 ∙ ap (λ (y : Refusal). Some y) d.1
decided x (w ∷ ws) (inr d) = ap (λ (b : Bool). cond b (Some w.refusal) (first ws)) d.0 ∙ decided x ws d.1

passes : (ws : List Row) → first ws ≡ None → Passes ws
unfolding first Passes
passes [] e = record {}
passes (w ∷ ws) e = at w.holds refl e (λ q. passes ws q)
  where
    at : (b : Bool) → w.holds ≡ b → cond b (Some w.refusal) (first ws) ≡ None → (first ws ≡ None → Passes ws) → (w.holds ≡ false) × Passes ws
    at true p q ih = never (cc)
    at false p q ih = (p, ih q)

passed : (ws : List Row) → Passes ws → first ws ≡ None
unfolding first Passes
passed [] d = refl
passed (w ∷ ws) d = ap (λ (b : Bool). cond b (Some w.refusal) (first ws)) d.0 ∙ passed ws d.1

-- ---- 10: a fragment that is stored beyond its group

abbrev is_far : Stored → Bool
is_far (group.done d) = false
is_far beyond = true

present-far : (old out : Bool) (i h t : ℕ) (g : Group) (d : OffData) → is_far (present old out i h t g d) ≡ not old && out
present-far true out i h t g d = refl
present-far false true i h t g d = refl
present-far false false i h t g d = refl

create-far : (out : Bool) (i h t : ℕ) (g : Group) (d : OffData) → is_far (create out i h t g d) ≡ out
create-far true i h t g d = refl
create-far false i h t g d = refl

in_far : (here : Bool) (i h t : ℕ) (g : Group) (d : OffData) → is_far (in_group here i h t g d) ≡ far_in here i t g
in_far true i h t g d = present-far (stale t g) (is_beyond i g) i h t g d
in_far false i h t g d = create-far (is_beyond i g) i h t g d

placed-far : (f : Range) (t : ℕ) (p : Packet) (d : OffData) → is_far (placed f t p d) ≡ far_of f t p.number d.groups
placed-far no_range t p d = refl
placed-far (range f l) t p d = in_far (has (is_first f) d.groups) (dist p.number f) p.handle t (group_at f (span f l) t d) d

stored_far : (t : ℕ) (r : Record) (d : OffData) → is_far (add_in_packet t (packet r) d) ≡ far t r d.groups
unfolding add_in_packet
stored_far t r d = placed-far (range_of (packet r)) t (packet r) d

-- ---- one record

abbrev refusal_of : Result → Option Refusal
refusal_of (takes v) = None
refusal_of (refuses x) = Some x

module _ (t a : ℕ) (r : Record) (s : State) where
  abbrev p : Protocol
  p = s.protocol

  abbrev base : Protocol
  base = with_prefix r.prefix p

  -- what a record is refused by, of its outcome
  abbrev judged : Outcome Protocol → Option Refusal
  judged o = refusal_of (port.judge_record o a r s).result

  abbrev kept_on : Outcome OnChannel → Outcome Protocol
  kept_on o = rust.outcome_map (rust.keep_on base) o

  abbrev kept_off : Outcome OffChannel → Outcome Protocol
  kept_off o = rust.outcome_map (rust.keep_off base) o

  -- 11 alone, and 10 before it
  abbrev limit : Outcome Protocol → List Row
  limit o = row OverLimit (too_much o p) ∷ []

  abbrev limits : Bool → Outcome Protocol → List Row
  limits out o = row BeyondGroup out ∷ limit o

  room : (b : Bool) (q : Protocol) → refusal_of (port.room_record b a r q s).result ≡ first (row OverLimit (not b) ∷ [])
  unfolding first
  room true q = refl
  room false q = refl

  on_stored : (c : OnChannel) (w : Stored) → judged (kept_on (stored_on c w)) ≡ first (limits (is_far w) (kept_on (stored_on c w)))
  unfolding first
  on_stored c (group.done d) = room (fits (rust.keep_on base (on_with d c))) (rust.keep_on base (on_with d c))
  on_stored c beyond = refl

  off_stored : (c : OffChannel) (w : Stored) → judged (kept_off (stored_off c w)) ≡ first (limits (is_far w) (kept_off (stored_off c w)))
  unfolding first
  off_stored c (group.done d) = room (fits (rust.keep_off base (off_with d c))) (rust.keep_off base (off_with d c))
  off_stored c beyond = refl

  on_loose : (c : OnChannel) → judged (kept_on (loose_on t r c)) ≡ first (limits (far t r c.off.groups) (kept_on (loose_on t r c)))
  unfolding loose_on
  on_loose c =
      on_stored c (add_in_packet t (packet r) c.off)
      ∙ ap (λ (b : Bool). first (limits b (kept_on (stored_on c (add_in_packet t (packet r) c.off))))) (stored_far t r c.off)

  off_loose : (c : OffChannel) → judged (kept_off (loose_off t r c)) ≡ first (limits (far t r c.off.groups) (kept_off (loose_off t r c)))
  unfolding loose_off
  off_loose c =
      off_stored c (add_in_packet t (packet r) c.off)
      ∙ ap (λ (b : Bool). first (limits b (kept_off (stored_off c (add_in_packet t (packet r) c.off))))) (stored_far t r c.off)

  on-run : (b : Bool) (c : OnChannel) → judged (kept_on (run_of b c)) ≡ first (limit (kept_on (run_of b c)))
  on-run true c = room (fits (rust.keep_on base c)) (rust.keep_on base c)
  on-run false c = room (fits (rust.keep_on base c)) (rust.keep_on base c)

  on_reliable : (f : Bool) (c : OnChannel) → judged (kept_on (reliable_in f r c)) ≡ first (limit (kept_on (reliable_in f r c)))
  unfolding reliable_in
  on_reliable f c =
      on-run
      (panics (reorder (reliable_of c) (packet r)).queue)
      (with_reliable (regroup (reorder (reliable_of c) (packet r))) (with_source (observed_if f c.source r.number) (on_with (queued r c.off) c)))

  abbrev on_for : OnChannel
  on_for = on_at a (index_of r) (version_of r) p

  abbrev off_for : OffChannel
  off_for = off_at a p

  abbrev on_acked : OnChannel
  on_acked = on_with (acked_on r on_for.off) on_for

  abbrev off_acked : OffChannel
  off_acked = off_with (acked_off r off_for.off) off_for

  -- 7, 8, 10, 11 by the flags: reliable, last reliable number given, and that it is the expected one
  abbrev on_after : Bool → Bool → Bool → Outcome Protocol → List Row
  on_after reliable last same o =
      row LastOnReliable (reliable && last)
      ∷ row LastNotExpected (not reliable && last && not same)
      ∷ limits (not reliable && far t r on_for.off.groups) o

  abbrev off_after : Bool → Bool → Outcome Protocol → List Row
  off_after reliable last o = row LastOnReliable (reliable && last) ∷ row LastOff (not reliable && last) ∷ limits (far t r off_for.off.groups) o

  abbrev expects : Bool
  expects = eqb r.lastreliable (sub on_for.expected 1)

  on_last : (same : Bool) → judged (kept_on (last_given same t r on_acked)) ≡ first (on_after false true same (kept_on (last_given same t r on_acked)))
  unfolding first
  on_last true = on_loose on_acked
  on_last false = refl

  on_rules : (reliable last f : Bool) → judged (kept_on (rules_on reliable last f t r on_acked)) ≡ first (on_after reliable last expects (kept_on (rules_on reliable last f t r on_acked)))
  unfolding first
  on_rules true true f = refl
  on_rules true false f = on_reliable f on_acked
  on_rules false true f = on_last expects
  on_rules false false f = on_loose on_acked

  on-current : (old f : Bool) → judged (kept_on (current old f t r on_for)) ≡ first (row OldVersion old ∷ on_after (is_set r.reliable) (is_set r.haslast) expects (kept_on (current old f t r on_for)))
  unfolding first
  on-current true f = refl
  on-current false f = on_rules (is_set r.reliable) (is_set r.haslast) f

  off_rules : (reliable last : Bool) → judged (kept_off (rules_off reliable last t r off_acked)) ≡ first (off_after reliable last (kept_off (rules_off reliable last t r off_acked)))
  unfolding first
  off_rules true true = refl
  off_rules true false = off_loose (off_with (queued r off_acked.off) off_acked)
  off_rules false true = refl
  off_rules false false = off_loose off_acked

  off-cumulative : (given : Bool) → judged (kept_off (cumulative_given given t r off_for)) ≡ first (row CumulativeOff given ∷ off_after (is_set r.reliable) (is_set r.haslast) (kept_off (cumulative_given given t r off_for)))
  unfolding first
  off-cumulative true = refl
  off-cumulative false = off_rules (is_set r.reliable) (is_set r.haslast)

  own : (on : Bool) → judged (rust.record_of on t a r p) ≡ first (own_rows on t a r p)
  unfolding on_record off_record
  own true = on-current (ltb (version_of r) on_for.version) p.forwarding
  own false = off-cumulative (is_set r.hascumulative)

  placed_row : (place : Bool) → refusal_of (port.place_record place t a r s).result ≡ first (row TableFull (not place) ∷ own_rows (is_set r.on) t a r p)
  unfolding first rust.accept_record
  placed_row true = own (is_set r.on)
  placed_row false = refl

  made_row : (b : Bool) → refusal_of (port.made_record b t a r s).result ≡ first (row OutOfRange (not b) ∷ row TableFull (not (has_place (is_set r.on) a (index_of r) p)) ∷ own_rows (is_set r.on) t a r p)
  unfolding first
  made_row true = placed_row (has_place (is_set r.on) a (index_of r) p)
  made_row false = refl

  record_first : refusal_of (record_step t a r s).result ≡ first (record_rows t a r s)
  unfolding record_step record_rows
  record_first = made_row (well_made r)

-- ---- a delivery

last_first : (t a : ℕ) (rs : List Record) (s : State) → last_made rs ≡ true → refusal_of (last_result (play t a rs s).results) ≡ first (last_rows t a rs s)
unfolding last_made play last_result last_rows
last_first t a [] s m = never (cc)
last_first t a (r ∷ []) s m = record_first t a r s
last_first t a (r ∷ (q ∷ qs)) s m = last_first t a (q ∷ qs) (record_step t a r s).state m

answered : (x : Result) (n : ℕ) → refusal_in (delivery_answer x n) ≡ refusal_of x
answered (takes v) n = refl
answered (refuses x) n = refl

delivery-first : (t a : ℕ) (rs : List Record) (s : State) (made in_time : Bool) → delivery_made rs ≡ made → refusal_in (port.deliver made in_time t a rs s).answer ≡ first (row OutOfRange (not made) ∷ row TimeBelow (not in_time) ∷ last_rows t a rs (with_time t s))
unfolding first
delivery-first t a rs s true true m =
    let y = play t a rs (with_time t s) in
    answered (last_result y.results) (count y.results) ∙ last_first t a rs (with_time t s) (and_right (leb (length rs) 8) (last_made rs) m)
delivery-first t a rs s true false m = refl
delivery-first t a rs s false in_time m = refl

-- ---- the other calls

module _ (t a : ℕ) (r : Record) (s : State) where
  abbrev out_limit : Outcome Protocol → List Row
  out_limit o = row OverLimit (too_much o s.protocol) ∷ []

  out-room : (b : Bool) (q : Protocol) → refusal_in (port.room_out b t a r q s).answer ≡ first (row OverLimit (not b) ∷ [])
  unfolding first
  out-room true q = refl
  out-room false q = refl

  out-off : (given : Bool) (o : Outcome Protocol) → o ≡ rust.outcome_map (rust.keep_off s.protocol) (rust.forward_off given t r (off_at a s.protocol)) → refusal_in (port.judge_out o t a r s).answer ≡ first (row CumulativeOff given ∷ out_limit o)
  unfolding first
  out-off true o e = rw e
  out-off false o e = rw e (out-room (fits _) _)

  out_own : (on : Bool) → refusal_in (port.judge_out (rust.forward_of on t a r s.protocol) t a r s).answer ≡ first (row CumulativeOff (not on && is_set r.hascumulative) ∷ out_limit (rust.forward_of on t a r s.protocol))
  unfolding first
  out_own true = out-room (fits _) _
  out_own false = out-off (is_set r.hascumulative) _ refl

  out_first : (made in_time place : Bool) → refusal_in (port.forward made in_time place t a r s).answer ≡ first (row OutOfRange (not made) ∷ row TimeBelow (not in_time) ∷ row TableFull (not place) ∷ row CumulativeOff (not (is_set r.on) && is_set r.hascumulative) ∷ out_limit (rust.accept_out t a r s.protocol))
  unfolding first rust.accept_out
  out_first true true true = out_own (is_set r.on)
  out_first true true false = refl
  out_first true false place = refl
  out_first false in_time place = refl

find_first : (k : Key) (s : State) (made place : Bool) → refusal_in (port.find made place k s).answer ≡ first (row OutOfRange (not made) ∷ row TableFull (not place) ∷ [])
unfolding first
find_first k s true true = refl
find_first k s true false = refl
find_first k s false place = refl

module _ (k : Key) (places : ℕ) (s : State) where
  hand_first : (fit : Bool) (b : List ℕ) (bs : List (List ℕ)) → refusal_in (port.hand_out fit k b bs s).answer ≡ first (row ListTooShort (not fit) ∷ [])
  unfolding first
  hand_first true b bs = refl
  hand_first false b bs = refl

  pop_first : (bs : List (List ℕ)) → refusal_in (port.next bs k places s).answer ≡ first (row ListTooShort (too_short places bs) ∷ [])
  unfolding first
  pop_first [] = refl
  pop_first (b ∷ bs) = hand_first (leb (length b) places) b bs

  next-first : (made here : Bool) → refusal_in (port.next_of made here k places s).answer ≡ first (row OutOfRange (not made) ∷ row ChannelAbsent (not here) ∷ row ListTooShort (too_short places (rust.data_of k s.protocol).bundles) ∷ [])
  unfolding first
  next-first true true = pop_first (rust.data_of k s.protocol).bundles
  next-first true false = refl
  next-first false here = refl

module _ (t : ℕ) (k : Key) (reliable : Bool) (hs : List ℕ) (s : State) where
  send-room : (fit : Bool) → refusal_in (port.room_send fit t k reliable hs s).answer ≡ first (row OverLimit (not fit) ∷ [])
  unfolding first
  send-room true = refl
  send-room false = refl

  send-first : (made in_time here : Bool) → refusal_in (port.send made in_time here t k reliable hs s).answer ≡ first (row OutOfRange (not made) ∷ row TimeBelow (not in_time) ∷ row ChannelAbsent (not here) ∷ row OverLimit (not (fits (rust.prepared t k reliable hs s.protocol))) ∷ [])
  unfolding first
  send-first true true true = send-room (fits (rust.prepared t k reliable hs s.protocol))
  send-first true true false = refl
  send-first true false here = refl
  send-first false in_time here = refl

module _ (k : Key) (s : State) where
  wrote-here : (here : Bool) (qs : List ℕ) → refusal_in (port.wrote_if here qs k s).answer ≡ first (row ChannelAbsent (not here) ∷ [])
  unfolding first
  wrote-here true qs = refl
  wrote-here false qs = refl

  wrote-left : (o : Option (List ℕ)) → refusal_in (port.wrote o k s).answer ≡ first (row OutOfRange (lacking o) ∷ row ChannelAbsent (not (rust.has_key k s.protocol)) ∷ [])
  unfolding first
  wrote-left None = refl
  wrote-left (Some qs) = wrote-here (rust.has_key k s.protocol) qs

  wrote-first : (ns : List ℕ) (made : Bool) → refusal_in (port.wrote_of made k ns s).answer ≡ first (row OutOfRange (not made) ∷ row OutOfRange (lacking (take_written ns (queue_if (rust.has_key k s.protocol) k s))) ∷ row ChannelAbsent (not (rust.has_key k s.protocol)) ∷ [])
  unfolding first
  wrote-first ns true = wrote-left (take_written ns (queue_if (rust.has_key k s.protocol) k s))
  wrote-first ns false = refl

resend-first : (t timeout give_up : ℕ) (s : State) (in_time fit : Bool) → refusal_in (port.resend in_time fit t timeout give_up s).answer ≡ first (row TimeBelow (not in_time) ∷ row ListTooShort (not fit) ∷ [])
unfolding first
resend-first t timeout give_up s true true = refl
resend-first t timeout give_up s true false = refl
resend-first t timeout give_up s false fit = refl

call_first : (e : Call) (s : State) → refusal_in (reply e s).answer ≡ first (rows_of e s)
unfolding first rows_of reply port.accept_s port.accept_out_s port.channel_s port.next_bundle_s port.prepare_s port.acks_written_s port.take_resends_s
call_first (calls.accept t a rs) s = delivery-first t a rs s (delivery_made rs) (on_time t s) refl
call_first (calls.accept_out t a r) s = out_first t a r s (well_made r) (on_time t s) (has_place (is_set r.on) a (index_of r) s.protocol)
call_first (calls.channel k) s = find_first k s (key_made k) (has_place (is_set k.on) k.address (key_index k) s.protocol)
call_first (calls.next_bundle k l) s = next-first k (length l) s (key_made k) (rust.has_key k s.protocol)
call_first (calls.prepare t k reliable hs) s = send-first t k (is_set reliable) hs s (asked k reliable (length hs)) (on_time t s) (rust.has_key k s.protocol)
call_first (calls.acks_written k ns) s = wrote-first k s ns (key_made k)
call_first (calls.take_resends t timeout give_up l) s = resend-first t timeout give_up s (on_time t s) (leb (length (flat (rust.all_rows t timeout give_up s.protocol))) (length l))
call_first (calls.holds h) s = refl
call_first calls.last_accepted_prefix s = refl
call_first calls.reset_prefix_offset s = refl
call_first calls.transfer_prefix_offset s = refl

-- ---- the whole

some_refuses : (y : Result) (x : Refusal) → refusal_of y ≡ Some x → y ≡ refuses x
some_refuses (takes v) x e = never (cc)
some_refuses (refuses z) x e = let same : z ≡ x = cc in ap refuses same

pub exactly_when : ExactlyWhen
exactly_when =
    record {
      records = λ t a r s x. (
        (λ h. decides x (record_rows t a r s) (sym (record_first t a r s) ∙ ap refusal_of h)),
        (λ d. some_refuses (record_step t a r s).result x (record_first t a r s ∙ decided x (record_rows t a r s) d)),
      );
      calls = λ e s x. ((λ h. decides x (rows_of e s) (sym (call_first e s) ∙ h)), (λ d. call_first e s ∙ decided x (rows_of e s) d));
      grants = λ e s. ((λ h. passes (rows_of e s) (sym (call_first e s) ∙ h)), (λ d. call_first e s ∙ passed (rows_of e s) d));
    }
