-- Send, by its channel alone: the model's reply on the whole state is the channel with its new entries and the source moved on, put back
-- at the new time. Assumes nothing.
use Rattle.std.proofs.Common.{◌≡◌, ℕ, ◌+◌, ◌≤◌, ◌<◌, arith, List, ◌++◌, length, length-append, Bool, true, false, ◌||◌, refl, ap, sym, ◌∙◌, eq-eqb, ne_eqb, leb, ltb, le-leb}
use Rattle.std.proofs.lemmas.Bool.{lt-leb}
use Rattle.list.specs.Find.{find_by, put_by}
use Rattle.list.proofs.Find.{put_put, find_put}
use Rattle.list.proofs.Tests.{or_left}
use Rattle.seq.specs.Num.{add}
use Rattle.packet.specs.declared.Key.{Key}
use Rattle.packet.specs.declared.OutEntry.{OutEntry}
use Rattle.packet.specs.declared.Refusal.TheVariants.{OutOfRange, TimeBelow, ChannelAbsent, OverLimit}
use Rattle.packet.specs.Data.{is_set, key_index}
use Rattle.model.specs.State.{OffData, OffChannel, OnChannel, Protocol, State, with_out, off_with, on_with, with_source, with_shared, with_time, with_protocol, is_on, new_on, has_on, has_off, on_at, put_off, put_on}
use Rattle.model.specs.Room.{fits_data, fits_off, fits_on, fits, on_room, off_room}
use Rattle.model.specs.Rust as rust
use Rattle.model.specs.Rust.{first_version, key_on, key_off, has_key, sent_entries, key_view, answer_of}
use Rattle.model.specs.Calls as calls
use Rattle.model.specs.Port.{Reply, asked, timed, refuse, grant, room_send, send, on_time, prepare_s, reply}
use Rattle.chan.specs.Sends.{sent_on, joined_off}
use Rattle.chan.proofs.Sent.{length_sent}
use Rattle.chan.proofs.Acked.{out_beyond}
use Rattle.tab.specs.Loose.{loosed}
use Rattle.tab.proofs.Whole.{fits_put_on, fits_put_off}
use Rattle.tab.proofs.Steps.{on_address, on_index, off_address}

on_found : (a i v : ℕ) (x : OnChannel) (p : Protocol) → x.address ≡ a → x.index ≡ i → on_at a i v (put_on x p) ≡ x
on_found a i v x p ka ki =
    (λ j. find_by (is_on a i) (new_on a i v) (put_by (is_on (ka j) (ki j)) x p.ons))
    ∙ find_put (is_on a i) (new_on a i v) x p.ons (rw (eq-eqb x.address a ka, eq-eqb x.index i ki))

-- ---- the tests in front: 2, 3, 13

module _ (t : ℕ) (k : Key) (reliable : ℕ) (hs : List ℕ) (s : State) where
  abbrev made : Bool
  made = asked k reliable (length hs)

  pub sent_malformed : made ≡ false → reply (calls.prepare t k reliable hs) s ≡ refuse OutOfRange (timed t s)
  unfolding reply prepare_s
  sent_malformed m = λ j. send (m j) (on_time t s) (has_key k s.protocol) t k (is_set reliable) hs s

  pub sent_late : made ≡ true → on_time t s ≡ false → reply (calls.prepare t k reliable hs) s ≡ refuse TimeBelow (timed t s)
  unfolding reply prepare_s
  sent_late m h = λ j. send (m j) (h j) (has_key k s.protocol) t k (is_set reliable) hs s

  -- with its time set it goes on
  pub sent_on_time : made ≡ true → on_time t s ≡ true → prepare_s t k reliable hs (with_time t s) ≡ reply (calls.prepare t k reliable hs) s
  unfolding reply prepare_s
  sent_on_time m h =
      let now : on_time t (with_time t s) ≡ true = le-leb t t (omega arith) in
      (λ j. send (m j) (now j) (has_key k s.protocol) t k (is_set reliable) hs (with_time t s))
      ∙ at (has_key k s.protocol)
      ∙ sym (λ j. send (m j) (h j) (has_key k s.protocol) t k (is_set reliable) hs s)
    where
      room : (b : Bool) → room_send b t k (is_set reliable) hs (with_time t s) ≡ room_send b t k (is_set reliable) hs s
      room true = refl
      room false = refl

      at : (here : Bool) → send true true here t k (is_set reliable) hs (with_time t s) ≡ send true true here t k (is_set reliable) hs s
      at false = refl
      at true = room (fits (rust.prepared t k (is_set reliable) hs s.protocol))

  pub sent_absent : made ≡ true → on_time t s ≡ true → has_key k s.protocol ≡ false → prepare_s t k reliable hs s ≡ refuse ChannelAbsent (timed t s)
  unfolding prepare_s
  sent_absent m h p = λ j. send (m j) (h j) (p j) t k (is_set reliable) hs s

  -- past them the state that the rule would end in is judged
  sent_judged : (r : Bool) → made ≡ true → on_time t s ≡ true → has_key k s.protocol ≡ true → is_set reliable ≡ r → prepare_s t k reliable hs s ≡ room_send (fits (rust.prepared t k r hs s.protocol)) t k r hs s
  unfolding prepare_s
  sent_judged r m h p q = λ j. send (m j) (h j) (p j) t k (q j) hs s

  -- the state, and the answer from the channel's view
  answer_is : (r : Bool) → rust.prepared_answer k r hs s.protocol ≡ answer_of (key_view k s.protocol) s.protocol.offset (rust.allocates r hs) (rust.source_of (is_set k.on) r k s.protocol)
  unfolding rust.prepared_answer
  answer_is r = refl

  -- granted, with the state p, the answer's number n and the view v
  granted : (r : Bool) (p : Protocol) (n : ℕ) → made ≡ true → on_time t s ≡ true → has_key k s.protocol ≡ true → is_set reliable ≡ r → rust.prepared t k r hs s.protocol ≡ p → fits p ≡ true
      → rust.source_of (is_set k.on) r k s.protocol ≡ n
      → prepare_s t k reliable hs s ≡ grant (calls.prepared (answer_of (key_view k s.protocol) s.protocol.offset (rust.allocates r hs) n)) (with_protocol p (with_time t s))
  granted r p n m h e q w f z =
      let g : fits (rust.prepared t k r hs s.protocol) ≡ true = ap (λ (x : Protocol). fits x) w ∙ f in
      let a : rust.prepared_answer k r hs s.protocol ≡ answer_of (key_view k s.protocol) s.protocol.offset (rust.allocates r hs) n = answer_is r ∙ ap (λ (x : ℕ). answer_of (key_view k s.protocol) s.protocol.offset (rust.allocates r hs) x) z in
      sent_judged r m h e q
      ∙ ap (λ (b : Bool). room_send b t k r hs s) g
      ∙ (λ j. grant (calls.prepared (a j)) (with_protocol (w j) (with_time t s)))

  over : (r : Bool) → made ≡ true → on_time t s ≡ true → has_key k s.protocol ≡ true → is_set reliable ≡ r → fits (rust.prepared t k r hs s.protocol) ≡ false → prepare_s t k reliable hs s ≡ refuse OverLimit (timed t s)
  over r m h e q f = sent_judged r m h e q ∙ ap (λ (b : Bool). room_send b t k r hs s) f

  -- ---- not reliable: the channel stays, and the shared source moves on where there is more than one

  spread : (b : Bool) → rust.advanced_if b false hs k s.protocol ≡ loosed b (length hs) s.protocol
  spread true = at (is_set k.on)
    where
      at : (on : Bool) → rust.advanced on false (length hs) k s.protocol ≡ loosed true (length hs) s.protocol
      at true = refl
      at false = refl
  spread false = refl

  loose_state : rust.prepared t k false hs s.protocol ≡ loosed (ltb 1 (length hs)) (length hs) s.protocol
  unfolding rust.prepared
  loose_state = spread (ltb 1 (length hs))

  loose_fits : (b : Bool) → fits s.protocol ≡ true → fits (loosed b (length hs) s.protocol) ≡ true
  unfolding fits
  loose_fits true f = f
  loose_fits false f = f

  loose_source : rust.source_of (is_set k.on) false k s.protocol ≡ s.protocol.source
  loose_source = at (is_set k.on)
    where
      at : (on : Bool) → rust.source_of on false k s.protocol ≡ s.protocol.source
      at true = refl
      at false = refl

  pub sent_loose : fits s.protocol ≡ true → made ≡ true → on_time t s ≡ true → has_key k s.protocol ≡ true → is_set reliable ≡ false
      → prepare_s t k reliable hs s ≡ grant (calls.prepared (answer_of (key_view k s.protocol) s.protocol.offset (ltb 1 (length hs)) s.protocol.source)) (with_protocol (loosed (ltb 1 (length hs)) (length hs) s.protocol) (with_time t s))
  sent_loose f m h e q = granted false (loosed (ltb 1 (length hs)) (length hs) s.protocol) s.protocol.source m h e q loose_state (loose_fits (ltb 1 (length hs)) f) loose_source

  -- ---- reliable: the entries join the out list, and the source moves on, on-channel its own, off-channel the shared one

  abbrev joined_at : Bool → Protocol
  joined_at on =
      rust.put_data_if on k (with_out ((rust.data_if on k (rust.advanced on true (length hs) k s.protocol)).out ++ sent_entries t (rust.source_of on true k s.protocol) hs) (rust.data_if on k (rust.advanced on true (length hs) k s.protocol))) (rust.advanced on true (length hs) k s.protocol)

  joined_state : (on : Bool) → is_set k.on ≡ on → rust.prepared t k true hs s.protocol ≡ joined_at on
  unfolding rust.prepared
  joined_state on o = ap (λ (b : Bool). joined_at b) o

  abbrev pub on_sent : OnChannel
  on_sent = sent_on t hs (key_on k s.protocol)

  on_state : is_set k.on ≡ true → rust.prepared t k true hs s.protocol ≡ put_on on_sent s.protocol
  on_state o =
      let p = s.protocol in
      let x = with_source (add (key_on k p).source (length hs)) (key_on k p) in
      let is : is_on x.address x.index x ≡ true = rw (eq-eqb x.address x.address refl, eq-eqb x.index x.index refl) in
      let twice = put_put (is_on x.address x.index) x on_sent p.ons is in
      joined_state true o
      ∙ ap (λ (c : OnChannel). put_on (on_with (with_out (c.off.out ++ sent_entries t (key_on k p).source hs) c.off) c) (put_on x p)) (on_found k.address (key_index k) (first_version k) x p (on_address k.address (key_index k) p (first_version k)) (on_index k.address (key_index k) p (first_version k)))
      ∙ (λ j. record { offs = p.offs; ons = twice j; source = p.source; prefix = p.prefix; offset = p.offset; forwarding = p.forwarding })

  abbrev pub moved : Protocol
  moved = with_shared (add s.protocol.source (length hs)) s.protocol

  abbrev pub off_sent : OffChannel
  off_sent = joined_off t s.protocol.source hs (key_off k s.protocol)

  -- ---- the replies

  module _ (m : made ≡ true) (h : on_time t s ≡ true) (r : is_set reliable ≡ true) (f : fits s.protocol ≡ true) (here : has_key k s.protocol ≡ true) where
    module _ (o : is_set k.on ≡ true) where
      on_has : has_on (key_on k s.protocol).address (key_on k s.protocol).index s.protocol ≡ true
      on_has = (λ j. has_on (on_address k.address (key_index k) s.protocol (first_version k) j) (on_index k.address (key_index k) s.protocol (first_version k) j) s.protocol) ∙ rw o at here

      on_judged : fits (put_on on_sent s.protocol) ≡ fits_on on_sent
      on_judged = fits_put_on s.protocol on_sent f (or_left (on_room s.protocol) on_has)

      pub sent_on_granted : fits_on on_sent ≡ true
          → prepare_s t k reliable hs s ≡ grant (calls.prepared (answer_of (key_view k s.protocol) s.protocol.offset true (key_on k s.protocol).source)) (with_protocol (put_on on_sent s.protocol) (with_time t s))
      sent_on_granted e =
          granted true (put_on on_sent s.protocol) (key_on k s.protocol).source m h here r (on_state o) (on_judged ∙ e) (ap (λ (b : Bool). rust.source_of b true k s.protocol) o)

      pub sent_on_over : fits_on on_sent ≡ false → prepare_s t k reliable hs s ≡ refuse OverLimit (timed t s)
      sent_on_over e = over true m h here r (ap (λ (p : Protocol). fits p) (on_state o) ∙ on_judged ∙ e)

    module _ (o : is_set k.on ≡ false) where
      off_has : has_off (key_off k s.protocol).address s.protocol ≡ true
      off_has = (λ j. has_off (off_address k.address s.protocol j) s.protocol) ∙ rw o at here

      moved_fits : fits moved ≡ true
      unfolding fits
      moved_fits = f

      off_judged : fits (put_off off_sent moved) ≡ fits_off off_sent
      off_judged = fits_put_off moved off_sent moved_fits (or_left (off_room s.protocol) off_has)

      pub sent_off_granted : fits_off off_sent ≡ true
          → prepare_s t k reliable hs s ≡ grant (calls.prepared (answer_of (key_view k s.protocol) s.protocol.offset true s.protocol.source)) (with_protocol (put_off off_sent moved) (with_time t s))
      sent_off_granted e =
          granted true (put_off off_sent moved) s.protocol.source m h here r (joined_state false o) (off_judged ∙ e) (ap (λ (b : Bool). rust.source_of b true k s.protocol) o)

      pub sent_off_over : fits_off off_sent ≡ false → prepare_s t k reliable hs s ≡ refuse OverLimit (timed t s)
      sent_off_over e = over true m h here r (ap (λ (p : Protocol). fits p) (joined_state false o) ∙ off_judged ∙ e)

-- ---- entries beyond the out list's limit

module _ (t n : ℕ) (hs : List ℕ) (es : List OutEntry) (d : OffData) (e : 32 < length d.out + length hs) where
  pub entries_beyond : fits_data (with_out (d.out ++ sent_entries t n hs) d) ≡ false
  entries_beyond = out_beyond (with_out (d.out ++ sent_entries t n hs) d) (omega (arith, length-append d.out (sent_entries t n hs), length_sent t n hs))
