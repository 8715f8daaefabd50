-- One record on its channel, by the parts that the code takes one by one: what is settled of each. Assumes nothing.
use mathlib.Core.Path.{◌≡◌, refl, sym, ap, ◌∙◌}
use mathlib.Core.Bool.{Bool, true, false}
use mathlib.Core.List.{List, [], ◌∷◌}
use Prim.Native.Nat.{ℕ, ◌+◌, ◌≤◌, ◌<◌}
use native.Mathlib.Omega.{arith}
use lib.Dec.{ltb, eqb}
use lib.ListN.{length, length-append}
use Rattle.std.specs.Prelude.{Result, Ok, Err, ⊤}
use Rattle.list.proofs.Pad.{never}
use Rattle.seq.specs.Num.{sub}
use Rattle.packet.specs.declared.Record.{Record}
use Rattle.packet.specs.Data.{is_set, packet, version_of}
use Rattle.packet.specs.declared.Refusal.{Refusal}
use Rattle.packet.specs.declared.Refusal.TheVariants.{OldVersion, CumulativeOff, OverLimit}
use Rattle.model.specs.State.{OffData, OffChannel, OnChannel, with_out, with_acks, with_source, off_with, on_with}
use Rattle.model.specs.Group.{Stored, add_in_packet, panics}
use Rattle.model.specs.Reorder.{reorder, arrive}
use Rattle.model.specs.Record.{acked_on, acked_off, queued, observed_if, reliable_of, with_reliable, run_of, reliable_in, stored_on, stored_off, loose_on, loose_off, last_given, rules_on, rules_off, current, on_record, off_record}
use Rattle.model.specs.Room.{fits_off, fits_on}
use Rattle.model.proofs.Room.{DataFits, fits_data_facts, OnFits, fits-on_facts, fits-on_test}
use Rattle.chan.specs.Settled.{Settled, kept, refused, within, settled, settled_data}
use Rattle.chan.specs.Rules.{on_acked, off_acked, last_on_if, last_on, last_off_if, last_off}
use Rattle.chan.proofs.Frame.{beside, added_same, added_beside, granted_too, refused_too, full_then, acks_over, stays, lifted_on, lifted_off, is_err}
use Rattle.chan.proofs.Shorter.{acked_on_le, acked_off_le}

-- ---- rules in their order

abbrev all_on : Bool → ℕ → Record → OnChannel → Settled OnChannel
all_on f t r m = settled fits_on (on_record f t r m) m

module _ (f : Bool) (t : ℕ) (r : Record) (m : OnChannel) where
  pub on_old : ltb (version_of r) m.version ≡ true → settled fits_on (on_record f t r m) m ≡ refused OldVersion m
  unfolding settled on_record
  on_old h = rw h

  abbrev ruled : Bool → Bool → Settled OnChannel
  ruled reliable last = settled fits_on (rules_on reliable last f t r (on_acked r m)) m

  past_version : ltb (version_of r) m.version ≡ false → settled fits_on (on_record f t r m) m ≡ ruled (is_set r.reliable) (is_set r.haslast)
  unfolding on_record
  past_version h = rw h

  pub on_last : (e : Refusal) → ltb (version_of r) m.version ≡ false → last_on r m ≡ Err e → settled fits_on (on_record f t r m) m ≡ refused e (on_acked r m)
  unfolding settled
  on_last e h q = past_version h ∙ at (is_set r.reliable) (is_set r.haslast) q
    where
      same : Bool
      same = eqb r.lastreliable (sub m.expected 1)

      given : (b : Bool) → last_on_if false true b ≡ Err e → settled fits_on (last_given b t r (on_acked r m)) m ≡ refused e (on_acked r m)
      given true q = absurd (is_err e q)
      given false q = ap (λ (x : Result ⊤ Refusal). record { result = x; channel = on_acked r m }) q

      at : (reliable last : Bool) → last_on_if reliable last same ≡ Err e → ruled reliable last ≡ refused e (on_acked r m)
      at true false q = absurd (is_err e q)
      at false false q = absurd (is_err e q)
      at true true q = ap (λ (x : Result ⊤ Refusal). record { result = x; channel = on_acked r m }) q
      at false true q = given same q

  pub on_reliable : ltb (version_of r) m.version ≡ false → last_on r m ≡ Ok tt → is_set r.reliable ≡ true
      → settled fits_on (on_record f t r m) m ≡ settled fits_on (reliable_in f r (on_acked r m)) m
  on_reliable h q s = past_version h ∙ ap (λ (b : Bool). ruled b (is_set r.haslast)) s ∙ at (is_set r.haslast) (ap (λ (b : Bool). last_on_if b (is_set r.haslast) same) (sym s) ∙ q)
    where
      same : Bool
      same = eqb r.lastreliable (sub m.expected 1)

      at : (last : Bool) → last_on_if true last same ≡ Ok tt → ruled true last ≡ settled fits_on (reliable_in f r (on_acked r m)) m
      at false q = refl
      at true q = absurd (is_err _ (sym q))

  pub on_loose : ltb (version_of r) m.version ≡ false → last_on r m ≡ Ok tt → is_set r.reliable ≡ false
      → settled fits_on (on_record f t r m) m ≡ settled fits_on (loose_on t r (on_acked r m)) m
  on_loose h q s = past_version h ∙ ap (λ (b : Bool). ruled b (is_set r.haslast)) s ∙ at (is_set r.haslast) same (ap (λ (b : Bool). last_on_if b (is_set r.haslast) same) (sym s) ∙ q) refl
    where
      same : Bool
      same = eqb r.lastreliable (sub m.expected 1)

      given : (b : Bool) → last_on_if false true b ≡ Ok tt → settled fits_on (last_given b t r (on_acked r m)) m ≡ settled fits_on (loose_on t r (on_acked r m)) m
      given true q = refl
      given false q = absurd (is_err _ (sym q))

      at : (last b : Bool) → last_on_if false last b ≡ Ok tt → same ≡ b → ruled false last ≡ settled fits_on (loose_on t r (on_acked r m)) m
      at false b q e = refl
      at true b q e = given same (ap (λ (c : Bool). last_on_if false true c) e ∙ q)

module _ (t : ℕ) (r : Record) (m : OffChannel) where
  pub off_cumulative : is_set r.hascumulative ≡ true → settled fits_off (off_record t r m) m ≡ refused CumulativeOff m
  unfolding settled off_record
  off_cumulative h = rw h

  abbrev off_ruled : Bool → Bool → Settled OffChannel
  off_ruled reliable last = settled fits_off (rules_off reliable last t r (off_acked r m)) m

  past_cumulative : is_set r.hascumulative ≡ false → settled fits_off (off_record t r m) m ≡ off_ruled (is_set r.reliable) (is_set r.haslast)
  unfolding off_record
  past_cumulative h = rw h

  pub off_last : (e : Refusal) → is_set r.hascumulative ≡ false → last_off r ≡ Err e → settled fits_off (off_record t r m) m ≡ refused e (off_acked r m)
  unfolding settled
  off_last e h q = past_cumulative h ∙ at (is_set r.reliable) (is_set r.haslast) q
    where
      at : (reliable last : Bool) → last_off_if reliable last ≡ Err e → off_ruled reliable last ≡ refused e (off_acked r m)
      at true false q = absurd (is_err e q)
      at false false q = absurd (is_err e q)
      at true true q = ap (λ (x : Result ⊤ Refusal). record { result = x; channel = off_acked r m }) q
      at false true q = ap (λ (x : Result ⊤ Refusal). record { result = x; channel = off_acked r m }) q

  pub off_reliable : is_set r.hascumulative ≡ false → last_off r ≡ Ok tt → is_set r.reliable ≡ true
      → settled fits_off (off_record t r m) m ≡ settled fits_off (loose_off t r (off_with (queued r (off_acked r m).off) (off_acked r m))) m
  off_reliable h q s = past_cumulative h ∙ at (is_set r.reliable) (is_set r.haslast) s q
    where
      at : (reliable last : Bool) → reliable ≡ true → last_off_if reliable last ≡ Ok tt → off_ruled reliable last ≡ settled fits_off (loose_off t r (off_with (queued r (off_acked r m).off) (off_acked r m))) m
      at true false s q = refl
      at true true s q = absurd (is_err _ (sym q))
      at false last s q = never s

  pub off_loose : is_set r.hascumulative ≡ false → last_off r ≡ Ok tt → is_set r.reliable ≡ false
      → settled fits_off (off_record t r m) m ≡ settled fits_off (loose_off t r (off_acked r m)) m
  off_loose h q s = past_cumulative h ∙ at (is_set r.reliable) (is_set r.haslast) s q
    where
      at : (reliable last : Bool) → reliable ≡ false → last_off_if reliable last ≡ Ok tt → off_ruled reliable last ≡ settled fits_off (loose_off t r (off_acked r m)) m
      at false false s q = refl
      at false true s q = absurd (is_err _ (sym q))
      at true last s q = never (sym s)

-- ---- forwarding plays no part in what a record is refused with

module _ (f : Bool) (t : ℕ) (r : Record) (m : OnChannel) where
  room_same : (b : Bool) (x y : OnChannel) → (within b x m).result ≡ (within b y m).result
  room_same true x y = refl
  room_same false x y = refl

  run_same : (b : Bool) (x y : OnChannel) → fits_on x ≡ fits_on y → (settled fits_on (run_of b x) m).result ≡ (settled fits_on (run_of b y) m).result
  unfolding settled
  run_same true x y e = ap (λ (z : Bool). (within z x m).result) e ∙ room_same (fits_on y) x y
  run_same false x y e = ap (λ (z : Bool). (within z x m).result) e ∙ room_same (fits_on y) x y

  reliable_same : (c : OnChannel) → (settled fits_on (reliable_in false r c) m).result ≡ (settled fits_on (reliable_in f r c) m).result
  unfolding reliable_in
  reliable_same c = run_same (panics (reorder (reliable_of c) (packet r)).queue) _ _ refl

  rules_same : (a b : Bool) (c : OnChannel) → (settled fits_on (rules_on a b false t r c) m).result ≡ (settled fits_on (rules_on a b f t r c) m).result
  rules_same true true c = refl
  rules_same true false c = reliable_same c
  rules_same false true c = refl
  rules_same false false c = refl

  pub code_forwarded : (settled fits_on (on_record false t r m) m).result ≡ (settled fits_on (on_record f t r m) m).result
  unfolding on_record
  code_forwarded = at (ltb (version_of r) m.version)
    where
      at : (b : Bool) → (settled fits_on (current b false t r m) m).result ≡ (settled fits_on (current b f t r m) m).result
      at true = refl
      at false = rules_same (is_set r.reliable) (is_set r.haslast) (on_acked r m)

-- ---- a packet off the reliable path, with these acks beside

module _ (t : ℕ) (r : Record) (m : OnChannel) (w : fits_on m ≡ true) where
  abbrev fit : OnFits m
  fit = fits-on_facts m w

  abbrev lone : Stored
  lone = add_in_packet t (packet r) m.off

  abbrev with_lone : Stored → Settled OnChannel
  with_lone s = record { result = (settled_data s m.off).result; channel = on_with (settled_data s m.off).channel m }

  abbrev lift : Settled OffData → Settled OnChannel
  lift s = record { result = s.result; channel = on_with s.channel m }

  lone_on : settled fits_on (loose_on t r (on_acked r m)) m ≡ with_lone (beside (acked_on r m.off).out m.off.acks lone)
  unfolding loose_on
  lone_on =
      ap (λ (s : Stored). settled fits_on (stored_on m s) m) (added_beside m.off (acked_on r m.off).out m.off.acks t (packet r))
      ∙ lifted_on m (beside (acked_on r m.off).out m.off.acks lone) fit.buffer fit.queue

  pub loose_on_err : (e : Refusal) → (settled_data (add_in_packet t (packet r) m.off) m.off).result ≡ Err e → settled fits_on (loose_on t r (on_acked r m)) m ≡ refused e m
  loose_on_err e q =
      lone_on
      ∙ ap lift (refused_too m.off fit.common (acked_on r m.off).out m.off.acks lone (added_same m.off t (packet r)) e q)

  pub loose_on_ok : (settled_data (add_in_packet t (packet r) m.off) m.off).result ≡ Ok tt
      → settled fits_on (loose_on t r (on_acked r m)) m ≡ kept (on_with (acked_on r (settled_data (add_in_packet t (packet r) m.off) m.off).channel) m)
  loose_on_ok q =
      let same = added_same m.off t (packet r) in
      let o = (acked_on r m.off).out in
      lone_on
      ∙ ap lift (granted_too m.off fit.common o m.off.acks (omega (arith, acked_on_le r m.off, fit.common.out)) fit.common.acks lone same q)
      ∙ ap (λ (d : OffData). kept (on_with d m)) (on_last_acked (settled_data lone m.off).channel (stays m.off lone same))
    where
      on_last_acked : (x : OffData) → (x.out ≡ m.off.out) × (x.acks ≡ m.off.acks) → with_out (acked_on r m.off).out (with_acks m.off.acks x) ≡ acked_on r x
      on_last_acked x e = λ i. with_out (acked_on r (with_out (sym e.0 i) x)).out (with_acks (sym e.1 i) x)

module _ (t : ℕ) (r : Record) (m : OffChannel) (w : fits_off m ≡ true) (a : List ℕ) where
  abbrev fit_off : DataFits m.off
  fit_off = fits_data_facts m.off w

  abbrev lone_for : Stored
  lone_for = add_in_packet t (packet r) m.off

  abbrev acked_with : OffChannel
  acked_with = off_with (with_acks a (acked_off r m.off)) m

  lone_off : settled fits_off (loose_off t r acked_with) m
      ≡ record { result = (settled_data (beside (acked_off r m.off).out a lone_for) m.off).result; channel = off_with (settled_data (beside (acked_off r m.off).out a lone_for) m.off).channel m }
  unfolding loose_off
  lone_off =
      ap (λ (s : Stored). settled fits_off (stored_off m s) m) (added_beside m.off (acked_off r m.off).out a t (packet r))
      ∙ lifted_off m (beside (acked_off r m.off).out a lone_for)

  abbrev lifted : Settled OffData → Settled OffChannel
  lifted s = record { result = s.result; channel = off_with s.channel m }

  pub loose_off_err : (e : Refusal) → (settled_data (add_in_packet t (packet r) m.off) m.off).result ≡ Err e
      → settled fits_off (loose_off t r (off_with (with_acks a (acked_off r m.off)) m)) m ≡ refused e m
  loose_off_err e q = lone_off ∙ ap lifted (refused_too m.off fit_off (acked_off r m.off).out a lone_for (added_same m.off t (packet r)) e q)

  pub loose_off_full : 64 < length a → (settled_data (add_in_packet t (packet r) m.off) m.off).result ≡ Ok tt
      → settled fits_off (loose_off t r (off_with (with_acks a (acked_off r m.off)) m)) m ≡ refused OverLimit m
  loose_off_full la q = lone_off ∙ ap lifted (full_then m.off fit_off (acked_off r m.off).out a la lone_for q)

  pub loose_off_ok : length a ≤ 64 → (settled_data (add_in_packet t (packet r) m.off) m.off).result ≡ Ok tt
      → settled fits_off (loose_off t r (off_with (with_acks a (acked_off r m.off)) m)) m ≡ kept (off_with (with_acks a (acked_off r (settled_data (add_in_packet t (packet r) m.off) m.off).channel)) m)
  loose_off_ok la q =
      let same = added_same m.off t (packet r) in
      lone_off
      ∙ ap lifted (granted_too m.off fit_off (acked_off r m.off).out a (omega (arith, acked_off_le r m.off, fit_off.out)) la lone_for same q)
      ∙ ap (λ (d : OffData). kept (off_with d m)) (acked_last (settled_data lone_for m.off).channel (stays m.off lone_for same).0)
    where
      acked_last : (x : OffData) → x.out ≡ m.off.out → with_out (acked_off r m.off).out (with_acks a x) ≡ with_acks a (acked_off r x)
      acked_last x e = λ i. with_out (acked_off r (with_out (sym e i) x)).out (with_acks a x)

-- the acks stay through what is settled
pub acks_stay : (t : ℕ) (r : Record) (d : OffData) → (settled_data (add_in_packet t (packet r) d) d).channel.acks ≡ d.acks
acks_stay t r d = (stays d (add_in_packet t (packet r) d) (added_same d t (packet r))).1

-- ---- a reliable packet on-channel

module _ (f : Bool) (r : Record) (m : OnChannel) (w : fits_on m ≡ true) where
  abbrev facts : OnFits m
  facts = fits-on_facts m w

  -- what the reliable side ends in, on the channel as it was, and with all else that the record changes
  abbrev came : OnChannel
  came = with_reliable (arrive (reliable_of m) (packet r)) m

  abbrev taken : OnChannel
  taken = with_reliable (arrive (reliable_of m) (packet r)) (with_source (observed_if f m.source r.number) (on_with (queued r (on_acked r m).off) (on_acked r m)))

  is_within : settled fits_on (reliable_in f r (on_acked r m)) m ≡ within (fits_on taken) taken m
  unfolding settled reliable_in arrive
  is_within = at (panics (reorder (reliable_of m) (packet r)).queue)
    where
      at : (b : Bool) → settled fits_on (run_of b taken) m ≡ within (fits_on taken) taken m
      at true = refl
      at false = refl

  taken_more : length taken.off.acks ≡ length m.off.acks + 1
  taken_more = omega (arith, length-append m.off.acks (r.number ∷ []))

  full_over : 64 < length taken.off.acks → fits_on taken ≡ false
  full_over h = rw (acks_over taken.off h) refl

  pub reliable_full : 64 ≤ length m.off.acks → settled fits_on (reliable_in f r (on_acked r m)) m ≡ refused OverLimit m
  reliable_full h = is_within ∙ ap (λ (b : Bool). within b taken m) (full_over (omega (arith, taken_more)))

  over_too : fits_on came ≡ false → fits_on taken ≡ false
  over_too h = at (fits_on taken) refl
    where
      at : (b : Bool) → fits_on taken ≡ b → fits_on taken ≡ false
      at false q = q
      at true q =
          let x = fits-on_facts taken q in
          let c = facts.common in
          let y : OnFits came = record {
            common = record { out = c.out; acks = c.acks; groups = c.groups; places = c.places; bundles = x.common.bundles; handles = x.common.handles };
            buffer = x.buffer;
            queue = x.queue;
          } in
          never (sym h ∙ fits-on_test came y)

  pub reliable_over : fits_on (with_reliable (arrive (reliable_of m) (packet r)) m) ≡ false → settled fits_on (reliable_in f r (on_acked r m)) m ≡ refused OverLimit m
  reliable_over h = is_within ∙ ap (λ (b : Bool). within b taken m) (over_too h)

  pub reliable_ok : length m.off.acks < 64 → fits_on (with_reliable (arrive (reliable_of m) (packet r)) m) ≡ true
      → settled fits_on (reliable_in f r (on_acked r m)) m ≡ kept (with_reliable (arrive (reliable_of m) (packet r)) (with_source (observed_if f m.source r.number) (on_with (queued r (on_acked r m).off) (on_acked r m))))
  reliable_ok h q =
      let x = fits-on_facts came q in
      let c = facts.common in
      let y : OnFits taken = record {
        common = record { out = omega (arith, acked_on_le r m.off, c.out); acks = omega (arith, taken_more); groups = c.groups; places = c.places; bundles = x.common.bundles; handles = x.common.handles };
        buffer = x.buffer;
        queue = x.queue;
      } in
      is_within ∙ ap (λ (b : Bool). within b taken m) (fits-on_test taken y)

  -- the changes one after the other
  pub reliable_items : (m1 m4 : OnChannel) (d2 d3 : OffData)
      → m1 ≡ with_reliable (arrive (reliable_of m) (packet r)) m → d2 ≡ acked_on r m1.off → d3 ≡ queued r d2 → m4 ≡ with_source (observed_if f m1.source r.number) (on_with d3 m1)
      → m4 ≡ with_reliable (arrive (reliable_of m) (packet r)) (with_source (observed_if f m.source r.number) (on_with (queued r (on_acked r m).off) (on_acked r m)))
  reliable_items m1 m4 d2 d3 e1 e2 e3 e4 =
      let last : OnChannel → OnChannel = λ c. with_source (observed_if f c.source r.number) (on_with (queued r (acked_on r c.off)) c) in
      let d : d3 ≡ queued r (acked_on r m1.off) = e3 ∙ ap (λ (x : OffData). queued r x) e2 in
      e4 ∙ ap (λ (x : OffData). with_source (observed_if f m1.source r.number) (on_with x m1)) d ∙ ap last e1
