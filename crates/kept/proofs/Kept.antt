-- Every call leaves a well-formed table, whatever its arguments (01, "A table is well formed if ..", and "Room"), and so does every run
-- of calls from a new one. Assumes nothing.
use mathlib.Core.Path.{◌≡◌, refl}
use mathlib.Core.Bool.{Bool, true, false, ◌&&◌}
use mathlib.Core.List.{List, [], ◌∷◌}
use Rattle.std.specs.declared.option.Option.{Option}
use Rattle.std.specs.declared.option.Option.TheVariants.{None, Some}
use Prim.Native.Nat.{ℕ, ◌≤◌}
use native.Mathlib.Omega.{arith}
use lib.Dec.{leb}
use lib.ListN.{length}
use borrow.Author.Tests.{leb-true}
use Rattle.list.specs.Pad.{all_b}
use Rattle.list.proofs.Pad.{and_left}
use Rattle.seq.specs.Num.{legal}
use Rattle.packet.specs.declared.Record.{Record}
use Rattle.packet.specs.declared.Key.{Key}
use Rattle.packet.specs.Data.{is_set, is_flag, index_of, key_index, well_made, key_made}
use Rattle.model.specs.State.{Protocol, State, new, with_acks, with_bundles, with_time, with_protocol}
use Rattle.model.specs.Acks.{take_written}
use Rattle.model.specs.Record.{Outcome, granted, rejected, far_fragment, bare_run}
use Rattle.model.specs.Room.{fits}
use Rattle.model.specs.Rust as rust
use Rattle.model.specs.Calls.{Call, accept, accept_out, channel, next_bundle, prepare, acks_written, take_resends, holds, last_accepted_prefix, reset_prefix_offset, transfer_prefix_offset, flat}
use Rattle.model.specs.Port.{record_channel, has_place, play, delivery_made, deliver, on_time, accept_s, out_stages, room_out, judge_out, forward, accept_out_s, find, channel_s, hand_out, next, next_of, next_bundle_s, room_send, send, prepare_s, queue_if, wrote, wrote_of, acks_written_s, resend, take_resends_s, reply}
use Rattle.model.specs.History.{run}
use Rattle.model.specs.Wellformed.{good, well_formed}
use Rattle.model.proofs.Room.{DataFits, fits_facts, fits_test}
use Rattle.model.proofs.Wellformed.{DataGood, Good, Well, well_facts, well_test}
use Rattle.kept.proofs.Data.{data_acks, data_bundles, taken-legal}
use Rattle.kept.proofs.Room.{acks-fits, popped-fits, taken-short}
use Rattle.kept.proofs.Channel.{Leaves}
use Rattle.kept.proofs.Table.{well_later, well_numbers, well_resent, well_new}
use Rattle.kept.proofs.Record.{EachStage, left-has, At, played, well_channel, forwarded-out}
use Rattle.kept.proofs.Named.{well_made_lem, data_of_good, data_of_fits, well_put, prepared-good}

abbrev Sound : State → Type 0
Sound s = well_formed s ≡ true

-- a new table is well formed
pub new-good : (f : Bool) → well_formed (new f) ≡ true
new-good f = well_test (new f) (well_new 0 f)

-- a table that is well formed is so when its time moves on
timed_well : (t : ℕ) (s : State) → Sound s → on_time t s ≡ true → Well t s.protocol
timed_well t s h o = well_later s.latest t (leb-true s.latest t o) s.protocol (well_facts s h)

module _ (s : State) (h : Sound s) where
  -- ---- a delivery

  delivered-good : (made on : Bool) (t a : ℕ) (rs : List Record) → on_time t s ≡ on → Sound (deliver made on t a rs s).state
  delivered-good false on t a rs o = h
  delivered-good true false t a rs o = h
  delivered-good true true t a rs o =
      let q : State = (play t a rs (with_time t s)).state in
      let x : At t q = played t a rs (with_time t s) (record { now = refl; well = timed_well t s h o }) in
      well_test q (rw x.now x.well)

  accept-good : (t a : ℕ) (rs : List Record) → Sound (accept_s t a rs s).state
  unfolding accept_s
  accept-good t a rs = delivered-good (delivery_made rs) (on_time t s) t a rs refl

  -- ---- forwarded out

  module _ (t a : ℕ) (r : Record) (made : well_made r ≡ true) (w : Well t s.protocol) (place : has_place (is_set r.on) a (index_of r) s.protocol ≡ true) where
    out_stages_lem : EachStage Sound (out_stages t a r s)
    out_stages_lem =
        let c : Well t (record_channel (is_set r.on) a r s.protocol) = well_channel t a r made (is_set r.on) refl s.protocol w place in
        record {
          nothing = h;
          time = well_test (with_time t s) w;
          prefix = well_test (with_time t s) w;
          channel = well_test (with_protocol (record_channel (is_set r.on) a r s.protocol) (with_time t s)) c;
          acks = well_test (with_protocol (record_channel (is_set r.on) a r s.protocol) (with_time t s)) c;
        }

    room_out_lem : (b : Bool) (p : Protocol) → fits p ≡ b → Good t p → Sound (room_out b t a r p s).state
    room_out_lem true p f g = well_test (with_protocol p (with_time t s)) (record { fits = fits_facts p f; good = g })
    room_out_lem false p f g = well_test (with_time t s) w

    judge_out_lem : (x : Outcome Protocol) → Leaves (Good t) x → Sound (judge_out x t a r s).state
    judge_out_lem (granted p) g = room_out_lem (fits p) p refl g
    judge_out_lem (rejected x p) g = left-has Sound (out_stages t a r s) out_stages_lem x
    judge_out_lem far_fragment g = well_test (with_time t s) w
    judge_out_lem (bare_run p) g = room_out_lem (fits p) p refl g

  forward-good : (made on place : Bool) (t a : ℕ) (r : Record) → well_made r ≡ made → on_time t s ≡ on → has_place (is_set r.on) a (index_of r) s.protocol ≡ place → Sound (forward made on place t a r s).state
  forward-good false on place t a r m o q = h
  forward-good true false place t a r m o q = h
  forward-good true true false t a r m o q = well_test (with_time t s) (timed_well t s h o)
  forward-good true true true t a r m o q =
      judge_out_lem t a r m (timed_well t s h o) q (rust.accept_out t a r s.protocol) (forwarded-out t a r m s.protocol (timed_well t s h o))

  accept-out-good : (t a : ℕ) (r : Record) → Sound (accept_out_s t a r s).state
  unfolding accept_out_s
  accept-out-good t a r = forward-good (well_made r) (on_time t s) (has_place (is_set r.on) a (index_of r) s.protocol) t a r refl refl refl

  -- ---- find or create

  find-good : (made place : Bool) (k : Key) → key_made k ≡ made → has_place (is_set k.on) k.address (key_index k) s.protocol ≡ place → Sound (find made place k s).state
  find-good false place k m q = h
  find-good true false k m q = h
  find-good true true k m q = well_test (with_protocol (rust.made k s.protocol) s) (well_made_lem s.latest k m s.protocol (well_facts s h) q)

  channel-good : (k : Key) → Sound (channel_s k s).state
  unfolding channel_s
  channel-good k = find-good (key_made k) (has_place (is_set k.on) k.address (key_index k) s.protocol) k refl refl

  -- ---- next bundle

  hand_out_lem : (b : Bool) (k : Key) (x : List ℕ) (xs : List (List ℕ)) → key_made k ≡ true → rust.has_key k s.protocol ≡ true → (rust.data_of k s.protocol).bundles ≡ x ∷ xs → Sound (hand_out b k x xs s).state
  hand_out_lem true k x xs m q e =
      let p = s.protocol in
      let d = rust.data_of k p in
      let w : Well s.latest p = well_facts s h in
      let g : DataGood s.latest d = data_of_good s.latest k m p w.good in
      let f : DataFits d = data_of_fits s.latest k m p w in
      well_test (with_protocol (rust.popped k xs p) s) (well_put s.latest k m p (with_bundles xs d) w q (data_bundles s.latest d g xs) (popped-fits d f x xs e))
  hand_out_lem false k x xs m q e = h

  next-good : (l : List (List ℕ)) (k : Key) (n : ℕ) → key_made k ≡ true → rust.has_key k s.protocol ≡ true → (rust.data_of k s.protocol).bundles ≡ l → Sound (next l k n s).state
  next-good [] k n m q e = h
  next-good (x ∷ xs) k n m q e = hand_out_lem (leb (length x) n) k x xs m q e

  next_of_lem : (made here : Bool) (k : Key) (n : ℕ) → key_made k ≡ made → rust.has_key k s.protocol ≡ here → Sound (next_of made here k n s).state
  next_of_lem false here k n m q = h
  next_of_lem true false k n m q = h
  next_of_lem true true k n m q = next-good (rust.data_of k s.protocol).bundles k n m q refl

  next-bundle-good : (k : Key) (n : ℕ) → Sound (next_bundle_s k n s).state
  unfolding next_bundle_s
  next-bundle-good k n = next_of_lem (key_made k) (rust.has_key k s.protocol) k n refl refl

  -- ---- send

  room-send : (b : Bool) (t : ℕ) (k : Key) (reliable : Bool) (hs : List ℕ) → key_made k ≡ true → Well t s.protocol → fits (rust.prepared t k reliable hs s.protocol) ≡ b → Sound (room_send b t k reliable hs s).state
  room-send true t k reliable hs m w f =
      let p = rust.prepared t k reliable hs s.protocol in
      well_test (with_protocol p (with_time t s)) (record { fits = fits_facts p f; good = prepared-good t k m reliable hs s.protocol w.good })
  room-send false t k reliable hs m w f = well_test (with_time t s) w

  send-good : (made on here : Bool) (t : ℕ) (k : Key) (reliable : Bool) (hs : List ℕ) → (made ≡ true → key_made k ≡ true) → on_time t s ≡ on → Sound (send made on here t k reliable hs s).state
  send-good false on here t k reliable hs m o = h
  send-good true false here t k reliable hs m o = h
  send-good true true false t k reliable hs m o = well_test (with_time t s) (timed_well t s h o)
  send-good true true true t k reliable hs m o = room-send (fits (rust.prepared t k reliable hs s.protocol)) t k reliable hs (m refl) (timed_well t s h o) refl

  prepare-good : (t : ℕ) (k : Key) (reliable : ℕ) (hs : List ℕ) → Sound (prepare_s t k reliable hs s).state
  unfolding prepare_s
  prepare-good t k reliable hs =
      send-good (key_made k && is_flag reliable && leb (length hs) 16) (on_time t s) (rust.has_key k s.protocol) t k (is_set reliable) hs
      (λ e. and_left (key_made k) (is_flag reliable) (and_left (key_made k && is_flag reliable) (leb (length hs) 16) e)) refl

  -- ---- acks written

  wrote_if_lem : (b : Bool) (k : Key) (ns : List ℕ) → key_made k ≡ true → rust.has_key k s.protocol ≡ b → (o : Option (List ℕ)) → take_written ns (queue_if b k s) ≡ o → Sound (wrote o k s).state
  wrote_if_lem b k ns m q None e = h
  wrote_if_lem false k ns m q (Some qs) e = rw q h
  wrote_if_lem true k ns m q (Some qs) e =
      let p = s.protocol in
      let d = rust.data_of k p in
      let w : Well s.latest p = well_facts s h in
      let g : DataGood s.latest d = data_of_good s.latest k m p w.good in
      let f : DataFits d = data_of_fits s.latest k m p w in
      let l : all_b legal qs ≡ true = rw e at (taken-legal ns d.acks g.acks) in
      let n : length qs ≤ length d.acks = rw e at (taken-short (length d.acks) ns d.acks (omega arith)) in
      rw q (well_test (with_protocol (rust.put_data k (with_acks qs d) p) s) (well_put s.latest k m p (with_acks qs d) w q (data_acks s.latest d g qs l) (acks-fits d f qs n)))

  wrote_of_lem : (made : Bool) (k : Key) (ns : List ℕ) → key_made k ≡ made → Sound (wrote_of made k ns s).state
  wrote_of_lem false k ns m = h
  wrote_of_lem true k ns m = wrote_if_lem (rust.has_key k s.protocol) k ns m refl (take_written ns (queue_if (rust.has_key k s.protocol) k s)) refl

  acks-written-good : (k : Key) (ns : List ℕ) → Sound (acks_written_s k ns s).state
  unfolding acks_written_s
  acks-written-good k ns = wrote_of_lem (key_made k) k ns refl

  -- ---- resends

  resend-good : (on room : Bool) (t timeout give_up : ℕ) → on_time t s ≡ on → Sound (resend on room t timeout give_up s).state
  resend-good false room t timeout give_up o = h
  resend-good true false t timeout give_up o = well_test (with_time t s) (timed_well t s h o)
  resend-good true true t timeout give_up o =
      well_test (with_protocol (rust.resent t timeout give_up s.protocol) (with_time t s)) (well_resent t timeout give_up s.protocol (timed_well t s h o))

  resends-good : (t timeout give_up n : ℕ) → Sound (take_resends_s t timeout give_up n s).state
  unfolding take_resends_s
  resends-good t timeout give_up n = resend-good (on_time t s) (leb (length (flat (rust.all_rows t timeout give_up s.protocol))) n) t timeout give_up refl

-- every call keeps a table well formed, whatever its arguments
pub kept : (e : Call) (s : State) → well_formed s ≡ true → well_formed (reply e s).state ≡ true
unfolding reply
kept (accept t a rs) s h = accept-good s h t a rs
kept (accept_out t a r) s h = accept-out-good s h t a r
kept (channel k) s h = channel-good s h k
kept (next_bundle k l) s h = next-bundle-good s h k (length l)
kept (prepare t k reliable hs) s h = prepare-good s h t k reliable hs
kept (acks_written k ns) s h = acks-written-good s h k ns
kept (take_resends t timeout give_up l) s h = resends-good s h t timeout give_up (length l)
kept (holds x) s h = h
kept last_accepted_prefix s h = h
kept reset_prefix_offset s h = well_test (with_protocol (rust.reset s.protocol) s) (well_numbers s.latest s.protocol.prefix 0 s.protocol (well_facts s h))
kept transfer_prefix_offset s h =
    well_test (with_protocol (rust.transferred s.protocol) s) (well_numbers s.latest s.protocol.prefix s.protocol.prefix s.protocol (well_facts s h))

-- a run from a table that is well formed ends in one
pub kept_from : (es : List Call) (s : State) → well_formed s ≡ true → well_formed (run es s).state ≡ true
unfolding run
kept_from [] s h = h
kept_from (e ∷ es) s h = kept_from es (reply e s).state (kept e s h)

-- and so does every run from a new one
pub kept_run : (es : List Call) (f : Bool) → well_formed (run es (new f)).state ≡ true
kept_run es f = kept_from es (new f) (new-good f)

-- the counts never exceed the limits in a state that a call leaves ..
within : (s : State) → well_formed s ≡ true → fits s.protocol ≡ true
within s h = fits_test s.protocol (well_facts s h).fits

pub limits : (e : Call) (s : State) → well_formed s ≡ true → fits (reply e s).state.protocol ≡ true
limits e s h = within (reply e s).state (kept e s h)

-- .. or that a run from a new table ends in
pub limits_run : (es : List Call) (f : Bool) → fits (run es (new f)).state.protocol ≡ true
limits_run es f = within (run es (new f)).state (kept_run es f)
