-- A send in a table, at the place of the channel that the key names: what it leaves and answers is the model's reply.
use Rattle.std.proofs.Common.{◌≡◌, ℕ, ◌+◌, ◌≤◌, ◌<◌, arith, List, length, get_or, set, Bool, true, false, refl, ap, sym, ◌∙◌, subst, leb, ltb, le-leb, lt-ltb, le-ltb}
use Rattle.std.proofs.lemmas.Bool.{lt-leb}
use Rattle.std.specs.Prelude.{Ok, Err}
use Rattle.std.specs.declared.option.Option.TheVariants.{Some}
use Rattle.seq.specs.declared.SeqAlloc.{SeqAlloc}
use Rattle.seq.specs.Num.{add}
use Rattle.list.specs.Find.{position}
use Rattle.packet.specs.declared.Key.{Key}
use Rattle.packet.specs.declared.View.{View}
use Rattle.packet.specs.declared.Prepared.{Prepared}
use Rattle.packet.specs.declared.Refusal.TheVariants.{ChannelAbsent, OverLimit}
use Rattle.packet.specs.Data.{is_set, key_index}
use Rattle.model.specs.State.{OffChannel, OnChannel, Protocol, State, with_shared, with_time, with_protocol, is_off, is_on, off_view, on_view, put_off, put_on}
use Rattle.model.specs.Rust.{first_version, key_on, key_off, has_key, key_view, answer_of}
use Rattle.model.specs.Calls as calls
use Rattle.model.specs.Port.{Reply, asked, timed, refuse, grant, on_time, prepare_s}
use Rattle.chan.specs.declared.OffChannel.{OffChannel as OffStruct}
use Rattle.chan.specs.declared.OnChannel.{OnChannel as OnStruct}
use Rattle.chan.specs.Channels as chan
use Rattle.chan.specs.Sends.{sent_on, joined_off}
use Rattle.chan.proofs.Fits.{on_fits_as, off_fits_as}
use Rattle.tab.specs.declared.Table.{Table}
use Rattle.tab.specs.Tables.{IsTable, state_of}
use Rattle.tab.specs.Keyed.{key_position, position_if, key_count}
use Rattle.tab.specs.Calls as table
use Rattle.tab.specs.Loose.{loosed}
use Rattle.tab.proofs.Steps.{on_address, on_index, off_address, on_seen, off_seen, on_put, off_put, on_kept, off_kept}
use Rattle.tab.proofs.Named.{key_there}
use Rattle.tab.proofs.Put.{table_fits}
use Rattle.tab.proofs.Sending.{sent_absent, sent_loose, sent_on_granted, sent_on_over, sent_off_granted, sent_off_over, entries_beyond}

-- ---- in a table: the channel that the key names

module _ (t : Table) (h : IsTable t) (k : Key) (i : ℕ) (q : key_position k (state_of t).protocol ≡ Some i) where
  here_now : has_key k (state_of t).protocol ≡ true
  here_now = key_there k (state_of t).protocol (Some i) i (sym q) refl

  module _ (o : is_set k.on ≡ true) where
    on_place : position (is_on k.address (key_index k)) (state_of t).protocol.ons ≡ Some i
    on_place = (λ j. position_if (sym o j) k (state_of t).protocol) ∙ q

    pub on_in : i < key_count k t → i < t.oncount
    on_in lt = rw o at lt

    pub on_here : i < t.oncount → (z : OnStruct) → chan.on_of (get_or t.ons i z) ≡ key_on k (state_of t).protocol
    on_here lt z = on_seen t h i lt k.address (key_index k) (first_version k) z on_place

    pub on_viewed : i < t.oncount → (z : OnStruct) → on_view (chan.on_of (get_or t.ons i z)) ≡ key_view k (state_of t).protocol
    on_viewed lt z = rw o (ap (λ (c : OnChannel). on_view c) (on_here lt z))

  module _ (o : is_set k.on ≡ false) where
    off_place : position (is_off k.address) (state_of t).protocol.offs ≡ Some i
    off_place = (λ j. position_if (sym o j) k (state_of t).protocol) ∙ q

    pub off_in : i < key_count k t → i < t.offcount
    off_in lt = rw o at lt

    pub off_here : i < t.offcount → (z : OffStruct) → chan.off_of (get_or t.offs i z) ≡ key_off k (state_of t).protocol
    off_here lt z = off_seen t h i lt k.address z off_place

    pub off_viewed : i < t.offcount → (z : OffStruct) → off_view (chan.off_of (get_or t.offs i z)) ≡ key_view k (state_of t).protocol
    off_viewed lt z = rw o (ap (λ (c : OffChannel). off_view c) (off_here lt z))

  -- ---- a reliable send on it, its time set

  module _ (time : ℕ) (hs : List ℕ) (m : asked k 1 (length hs) ≡ true) (now : t.latest ≡ time) where
    due_now : on_time time (state_of t) ≡ true
    unfolding state_of
    due_now = le-leb t.latest time (omega arith)

    time_is : (p : Protocol) → with_protocol p (state_of t) ≡ with_protocol p (with_time time (state_of t))
    unfolding state_of
    time_is p = λ j. record { latest = now j; protocol = p }

    module _ (o : is_set k.on ≡ true) (lt : i < t.oncount) (z c : OnStruct) where
      on_reply : chan.on_of c ≡ sent_on time hs (chan.on_of (get_or t.ons i z)) → chan.IsOnChannel c
          → prepare_s time k 1 hs (state_of t) ≡ grant (calls.prepared (answer_of (key_view k (state_of t).protocol) (state_of t).protocol.offset true (key_on k (state_of t).protocol).source)) (with_protocol (put_on (sent_on time hs (key_on k (state_of t).protocol)) (state_of t).protocol) (with_time time (state_of t)))
      on_reply e good =
          sent_on_granted time k 1 hs (state_of t) m due_now refl (table_fits t h) here_now o
          (on_fits_as c (sent_on time hs (key_on k (state_of t).protocol)) good (e ∙ ap (λ x. sent_on time hs x) (on_here o lt z)))

      pub on_granted_state : chan.on_of c ≡ sent_on time hs (chan.on_of (get_or t.ons i z)) → chan.IsOnChannel c
          → state_of (record t { ons = set t.ons i c }) ≡ (prepare_s time k 1 hs (state_of t)).state
      on_granted_state e good =
          on_put t h i lt k.address (key_index k) c (sent_on time hs (key_on k (state_of t).protocol)) (on_place o) (e ∙ ap (λ x. sent_on time hs x) (on_here o lt z)) (on_address k.address (key_index k) (state_of t).protocol (first_version k)) (on_index k.address (key_index k) (state_of t).protocol (first_version k))
          ∙ (time_is (put_on (sent_on time hs (key_on k (state_of t).protocol)) (state_of t).protocol) ∙ sym (ap (λ (r : Reply). r.state) (on_reply e good)))

      pub on_granted_answer : chan.on_of c ≡ sent_on time hs (chan.on_of (get_or t.ons i z)) → chan.IsOnChannel c → (p : Prepared) (v : View) (n : ℕ)
          → p ≡ answer_of v t.offset true n → v ≡ on_view (chan.on_of (get_or t.ons i z)) → n ≡ (get_or t.ons i z).source.next
          → Ok p ≡ table.answer_of table.prepared_in (prepare_s time k 1 hs (state_of t)).answer
      unfolding table.answer_of state_of
      on_granted_answer e good p v n is see first =
          let a : p ≡ answer_of (key_view k (state_of t).protocol) t.offset true (key_on k (state_of t).protocol).source =
          is ∙ (λ j. answer_of ((see ∙ on_viewed o lt z) j) t.offset true ((first ∙ ap (λ (x : OnChannel). x.source) (on_here o lt z)) j)) in
          ap (λ (x : Prepared). Ok x) a ∙ sym (ap (λ (r : Reply). table.answer_of table.prepared_in r.answer) (on_reply e good))

      on_full : 32 < length (chan.on_of (get_or t.ons i z)).off.out + length hs → prepare_s time k 1 hs (state_of t) ≡ refuse OverLimit (timed time (state_of t))
      on_full over =
          let x = key_on k (state_of t).protocol in
          let beyond : 32 < length x.off.out + length hs = subst (λ (y : OnChannel). 32 < length y.off.out + length hs) (on_here o lt z) over in
          sent_on_over time k 1 hs (state_of t) m due_now refl (table_fits t h) here_now o (rw (entries_beyond time x.source hs x.off.out x.off beyond) refl)

      pub on_full_state : 32 < length (chan.on_of (get_or t.ons i z)).off.out + length hs → c ≡ get_or t.ons i z
          → state_of (record t { ons = set t.ons i c }) ≡ (prepare_s time k 1 hs (state_of t)).state
      on_full_state over same =
          let p = (state_of t).protocol in
          on_put t h i lt k.address (key_index k) c (key_on k p) (on_place o) (ap chan.on_of same ∙ on_here o lt z) (on_address k.address (key_index k) p (first_version k)) (on_index k.address (key_index k) p (first_version k))
          ∙ (ap (λ (y : Protocol). with_protocol y (state_of t)) (on_kept k.address (key_index k) p (first_version k) (rw o at here_now))
          ∙ (time_is p ∙ sym (ap (λ (r : Reply). r.state) (on_full over))))

      pub on_full_answer : 32 < length (chan.on_of (get_or t.ons i z)).off.out + length hs
          → Err OverLimit ≡ table.answer_of table.prepared_in (prepare_s time k 1 hs (state_of t)).answer
      unfolding table.answer_of
      on_full_answer over = sym (ap (λ (r : Reply). table.answer_of table.prepared_in r.answer) (on_full over))

    module _ (o : is_set k.on ≡ false) (lt : i < t.offcount) (z c : OffStruct) (n : ℕ) (first : n ≡ t.source.next) where
      source_is : n ≡ (state_of t).protocol.source
      unfolding state_of
      source_is = first

      off_is : chan.off_of c ≡ joined_off time n hs (chan.off_of (get_or t.offs i z)) → chan.off_of c ≡ joined_off time (state_of t).protocol.source hs (key_off k (state_of t).protocol)
      off_is e = e ∙ (λ j. joined_off time (source_is j) hs (off_here o lt z j))

      off_reply : chan.off_of c ≡ joined_off time n hs (chan.off_of (get_or t.offs i z)) → chan.IsOffChannel c
          → prepare_s time k 1 hs (state_of t) ≡ grant (calls.prepared (answer_of (key_view k (state_of t).protocol) (state_of t).protocol.offset true (state_of t).protocol.source)) (with_protocol (put_off (joined_off time (state_of t).protocol.source hs (key_off k (state_of t).protocol)) (with_shared (add (state_of t).protocol.source (length hs)) (state_of t).protocol)) (with_time time (state_of t)))
      off_reply e good =
          sent_off_granted time k 1 hs (state_of t) m due_now refl (table_fits t h) here_now o
          (off_fits_as c (joined_off time (state_of t).protocol.source hs (key_off k (state_of t).protocol)) good (off_is e))

      moved_on : (y : SeqAlloc) (x : OffChannel) → state_of (record t { offs = set t.offs i c }) ≡ with_protocol (put_off x (state_of t).protocol) (state_of t)
          → state_of (record t { offs = set t.offs i c; source = y }) ≡ with_protocol (put_off x (with_shared y.next (state_of t).protocol)) (state_of t)
      unfolding state_of
      moved_on y x e = ap (λ (u : State). with_protocol (with_shared y.next u.protocol) u) e

      pub off_granted_state : chan.off_of c ≡ joined_off time n hs (chan.off_of (get_or t.offs i z)) → chan.IsOffChannel c → (y : SeqAlloc) → y.next ≡ add t.source.next (length hs)
          → state_of (record t { offs = set t.offs i c; source = y }) ≡ (prepare_s time k 1 hs (state_of t)).state
      off_granted_state e good y next =
          let x = joined_off time (state_of t).protocol.source hs (key_off k (state_of t).protocol) in
          let here = off_put t h i lt k.address c x (off_place o) (off_is e) (off_address k.address (state_of t).protocol) in
          let on_from : add t.source.next (length hs) ≡ add (state_of t).protocol.source (length hs) = ap (λ a. add a (length hs)) (sym first ∙ source_is) in
          moved_on y x here
          ∙ (ap (λ a. with_protocol (put_off x (with_shared a (state_of t).protocol)) (state_of t)) (next ∙ on_from)
          ∙ (time_is (put_off x (with_shared (add (state_of t).protocol.source (length hs)) (state_of t).protocol)) ∙ sym (ap (λ (r : Reply). r.state) (off_reply e good))))

      pub off_granted_answer : chan.off_of c ≡ joined_off time n hs (chan.off_of (get_or t.offs i z)) → chan.IsOffChannel c → (p : Prepared) (v : View)
          → p ≡ answer_of v t.offset true n → v ≡ off_view (chan.off_of (get_or t.offs i z))
          → Ok p ≡ table.answer_of table.prepared_in (prepare_s time k 1 hs (state_of t)).answer
      unfolding table.answer_of state_of
      off_granted_answer e good p v is see =
          let a : p ≡ answer_of (key_view k (state_of t).protocol) t.offset true t.source.next =
          is ∙ (λ j. answer_of ((see ∙ off_viewed o lt z) j) t.offset true (first j)) in
          ap (λ (x : Prepared). Ok x) a ∙ sym (ap (λ (r : Reply). table.answer_of table.prepared_in r.answer) (off_reply e good))

      off_full : 32 < length (chan.off_of (get_or t.offs i z)).off.out + length hs → prepare_s time k 1 hs (state_of t) ≡ refuse OverLimit (timed time (state_of t))
      off_full over =
          let x = key_off k (state_of t).protocol in
          let beyond : 32 < length x.off.out + length hs = subst (λ (y : OffChannel). 32 < length y.off.out + length hs) (off_here o lt z) over in
          sent_off_over time k 1 hs (state_of t) m due_now refl (table_fits t h) here_now o (entries_beyond time (state_of t).protocol.source hs x.off.out x.off beyond)

      pub off_full_state : 32 < length (chan.off_of (get_or t.offs i z)).off.out + length hs → c ≡ get_or t.offs i z
          → state_of (record t { offs = set t.offs i c }) ≡ (prepare_s time k 1 hs (state_of t)).state
      off_full_state over same =
          let p = (state_of t).protocol in
          off_put t h i lt k.address c (key_off k p) (off_place o) (ap chan.off_of same ∙ off_here o lt z) (off_address k.address p)
          ∙ (ap (λ (y : Protocol). with_protocol y (state_of t)) (off_kept k.address p (rw o at here_now))
          ∙ (time_is p ∙ sym (ap (λ (r : Reply). r.state) (off_full over))))

      pub off_full_answer : 32 < length (chan.off_of (get_or t.offs i z)).off.out + length hs
          → Err OverLimit ≡ table.answer_of table.prepared_in (prepare_s time k 1 hs (state_of t)).answer
      unfolding table.answer_of
      off_full_answer over = sym (ap (λ (r : Reply). table.answer_of table.prepared_in r.answer) (off_full over))

-- ---- no channel of the key, and packets that are not reliable

module _ (t : Table) (h : IsTable t) (k : Key) (time reliable : ℕ) (hs : List ℕ) (m : asked k reliable (length hs) ≡ true) (now : t.latest ≡ time) where
  due_at : on_time time (state_of t) ≡ true
  unfolding state_of
  due_at = le-leb t.latest time (omega arith)

  set_is : (p : Protocol) → with_protocol p (state_of t) ≡ with_protocol p (with_time time (state_of t))
  unfolding state_of
  set_is p = λ j. record { latest = now j; protocol = p }

  pub absent_state : has_key k (state_of t).protocol ≡ false → state_of t ≡ (prepare_s time k reliable hs (state_of t)).state
  absent_state none = set_is (state_of t).protocol ∙ sym (ap (λ (r : Reply). r.state) (sent_absent time k reliable hs (state_of t) m due_at none))

  pub absent_answer : has_key k (state_of t).protocol ≡ false → Err ChannelAbsent ≡ table.answer_of table.prepared_in (prepare_s time k reliable hs (state_of t)).answer
  unfolding table.answer_of
  absent_answer none = sym (ap (λ (r : Reply). table.answer_of table.prepared_in r.answer) (sent_absent time k reliable hs (state_of t) m due_at none))

  module _ (here : has_key k (state_of t).protocol ≡ true) (r : is_set reliable ≡ false) where
    loose_reply : prepare_s time k reliable hs (state_of t) ≡ grant (calls.prepared (answer_of (key_view k (state_of t).protocol) (state_of t).protocol.offset (ltb 1 (length hs)) (state_of t).protocol.source)) (with_protocol (loosed (ltb 1 (length hs)) (length hs) (state_of t).protocol) (with_time time (state_of t)))
    loose_reply = sent_loose time k reliable hs (state_of t) (table_fits t h) m due_at here r

    pub loose_state : (u : State) → u ≡ with_protocol (loosed (ltb 1 (length hs)) (length hs) (state_of t).protocol) (state_of t) → u ≡ (prepare_s time k reliable hs (state_of t)).state
    loose_state u e = e ∙ (set_is (loosed (ltb 1 (length hs)) (length hs) (state_of t).protocol) ∙ sym (ap (λ (x : Reply). x.state) loose_reply))

    pub loose_answer : (p : Prepared) (v : View) → p ≡ answer_of v (state_of t).protocol.offset (ltb 1 (length hs)) (state_of t).protocol.source → v ≡ key_view k (state_of t).protocol
        → Ok p ≡ table.answer_of table.prepared_in (prepare_s time k reliable hs (state_of t)).answer
    unfolding table.answer_of
    loose_answer p v e see =
        ap (λ (x : Prepared). Ok x) (e ∙ ap (λ (x : View). answer_of x (state_of t).protocol.offset (ltb 1 (length hs)) (state_of t).protocol.source) see)
        ∙ sym (ap (λ (x : Reply). table.answer_of table.prepared_in x.answer) loose_reply)

-- what packets that are not reliable leave, one or more
module _ (t : Table) (v : View) (n : ℕ) where
  pub one_answer : n ≤ 1 → answer_of v t.offset false 0 ≡ answer_of v (state_of t).protocol.offset (ltb 1 n) (state_of t).protocol.source
  unfolding state_of
  one_answer le = rw (le-ltb 1 n le) refl

  pub one_state : n ≤ 1 → state_of t ≡ with_protocol (loosed (ltb 1 n) n (state_of t).protocol) (state_of t)
  unfolding state_of
  one_state le = rw (le-ltb 1 n le) refl

  pub more_answer : (p : Prepared) (first : ℕ) → p ≡ answer_of v t.offset true first → first ≡ t.source.next → 1 < n
      → p ≡ answer_of v (state_of t).protocol.offset (ltb 1 n) (state_of t).protocol.source
  unfolding state_of
  more_answer p first e f lt = e ∙ (λ j. answer_of v t.offset (sym (lt-ltb 1 n lt) j) (f j))

  pub more_state : (y : SeqAlloc) → y.next ≡ add t.source.next n → 1 < n → state_of (record t { source = y }) ≡ with_protocol (loosed (ltb 1 n) n (state_of t).protocol) (state_of t)
  unfolding state_of
  more_state y e lt = (λ j. with_protocol (with_shared (e j) (state_of t).protocol) (state_of t)) ∙ ap (λ b. with_protocol (loosed b n (state_of t).protocol) (state_of t)) (sym (lt-ltb 1 n lt))

-- ---- the time of a call, below the latest or not

pub late_is : (t : Table) (time : ℕ) → time < t.latest → on_time time (state_of t) ≡ false
unfolding state_of
late_is t time lt = lt-leb t.latest time lt

pub due_is : (t : Table) (time : ℕ) → t.latest ≤ time → on_time time (state_of t) ≡ true
unfolding state_of
due_is t time le = le-leb t.latest time le
