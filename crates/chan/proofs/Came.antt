-- What each way through a record's code owes, over plain variables. Assumes nothing.
use mathlib.Core.Path.{◌≡◌, refl, sym, ap, ◌∙◌}
use mathlib.Core.Bool.{Bool, true, false, cond, ◌&&◌}
use mathlib.Core.List.{List, [], ◌∷◌, ◌++◌}
use Prim.Native.Nat.{ℕ, ◌+◌, ◌≤◌, ◌<◌}
use native.Mathlib.Omega.{arith}
use borrow.Author.Tests.{le-leb, leb-true, leb-false, lt-ltb, le-ltb}
use lib.Dec.{leb, ltb}
use lib.ListN.{length, length-append}
use Rattle.std.specs.Prelude.{Result, Ok, Err, ⊤}
use Rattle.packet.specs.declared.Packet.{Packet}
use Rattle.packet.specs.declared.Record.{Record}
use Rattle.packet.specs.Data.{is_set, packet}
use Rattle.packet.specs.declared.Refusal.{Refusal}
use Rattle.packet.specs.declared.Refusal.TheVariants.{CumulativeOff, OverLimit}
use Rattle.model.specs.State.{OffData, OffChannel, OnChannel, with_acks, with_source, off_with, on_with}
use Rattle.model.specs.Group.{Stored, done, beyond, add_in_packet}
use Rattle.model.specs.Reorder.{arrive}
use Rattle.model.specs.Record.{granted, acked_on, acked_off, queued, observed_if, reliable_of, with_reliable, reliable_in, loose_on, loose_off}
use Rattle.model.specs.Rust as rust
use Rattle.model.specs.Room.{fits_data, fits_off, fits_on}
use Rattle.model.proofs.Room.{fits_data_facts, fits-on_facts}
use Rattle.chan.specs.Settled.{Settled, kept, refused, within, settled, settled_data}
use Rattle.chan.specs.Rules.{on_acked, off_acked}
use Rattle.std.specs.declared.option.Option.TheVariants.{None, Some}
use Rattle.list.proofs.Pad.{never}
use Rattle.list.proofs.Edits.{length_items}
use Rattle.packet.specs.Views.{cumulative_of}
use Rattle.chan.specs.declared.OffData as lent
use Rattle.chan.specs.Channels.{data_of, IsOffData}
use Rattle.chan.proofs.Frame.{is_err}
use Rattle.chan.proofs.Ruled.{loose_on_err, loose_on_ok, loose_off_err, loose_off_ok, loose_off_full, acks_stay, reliable_full, reliable_over, reliable_ok, reliable_items}

-- by what is settled, its result and its channel
module _ {X : Type 0} (w : Settled X) where
  pub refused_result : (e : Refusal) (x : X) → w ≡ refused e x → Err e ≡ w.result
  refused_result e x q = ap (λ (s : Settled X). s.result) (sym q)

  pub refused_channel : (e : Refusal) (x : X) → w ≡ refused e x → x ≡ w.channel
  refused_channel e x q = ap (λ (s : Settled X). s.channel) (sym q)

  pub kept_result : (x : X) → w ≡ kept x → Ok tt ≡ w.result
  kept_result x q = ap (λ (s : Settled X). s.result) (sym q)

  pub kept_channel : (x : X) → w ≡ kept x → x ≡ w.channel
  kept_channel x q = ap (λ (s : Settled X). s.channel) (sym q)

  -- and by what is settled of one part
  pub by_result : (v : Settled X) (y : Result ⊤ Refusal) → w ≡ v → y ≡ v.result → y ≡ w.result
  by_result v y q e = e ∙ ap (λ (s : Settled X). s.result) (sym q)

  pub by_channel : (v : Settled X) (y : X) → w ≡ v → y ≡ v.channel → y ≡ w.channel
  by_channel v y q e = e ∙ ap (λ (s : Settled X). s.channel) (sym q)

pub ltb_yes : (x y a : ℕ) → x ≡ a → x < y → ltb a y ≡ true
ltb_yes x y a e h = lt-ltb a y (omega (arith, e))

pub ltb_no : (x y a : ℕ) → x ≡ a → y ≤ x → ltb a y ≡ false
ltb_no x y a e h = le-ltb a y (omega (arith, e))

-- refused, what both kinds have stays
err_same : (s : Stored) (d : OffData) (e : Refusal) → Err e ≡ (settled_data s d).result → (settled_data s d).channel ≡ d
unfolding settled_data
err_same beyond d e q = refl
err_same (done x) d e q = at (fits_data x) q
  where
    at : (b : Bool) → Err e ≡ (within b x d).result → (within b x d).channel ≡ d
    at true q = absurd (is_err e (sym q))
    at false q = refl

-- ---- off the reliable path

module _ (t : ℕ) (r : Record) (m : OnChannel) (w : fits_on m ≡ true) (p : Packet) (pe : p ≡ packet r) (n : OffData) (q : n ≡ (settled_data (add_in_packet t p m.off) m.off).channel) where
  of_record : (settled_data (add_in_packet t p m.off) m.off) ≡ (settled_data (add_in_packet t (packet r) m.off) m.off)
  of_record = ap (λ (x : Packet). settled_data (add_in_packet t x m.off) m.off) pe

  on_err : (e : Refusal) → Err e ≡ (settled_data (add_in_packet t p m.off) m.off).result → settled fits_on (loose_on t r (on_acked r m)) m ≡ refused e m
  on_err e h = loose_on_err t r m w e (ap (λ (s : Settled OffData). s.result) (sym of_record) ∙ sym h)

  on_ok : Ok tt ≡ (settled_data (add_in_packet t p m.off) m.off).result → settled fits_on (loose_on t r (on_acked r m)) m ≡ kept (on_with (acked_on r n) m)
  on_ok h =
      loose_on_ok t r m w (ap (λ (s : Settled OffData). s.result) (sym of_record) ∙ sym h)
      ∙ ap (λ (x : OffData). kept (on_with (acked_on r x) m)) (ap (λ (s : Settled OffData). s.channel) (sym of_record) ∙ sym q)

  pub on_err_result : (e : Refusal) → Err e ≡ (settled_data (add_in_packet t p m.off) m.off).result → Err e ≡ (settled fits_on (loose_on t r (on_acked r m)) m).result
  on_err_result e h = refused_result (settled fits_on (loose_on t r (on_acked r m)) m) e m (on_err e h)

  pub on_err_items : (e : Refusal) → Err e ≡ (settled_data (add_in_packet t p m.off) m.off).result → on_with n m ≡ (settled fits_on (loose_on t r (on_acked r m)) m).channel
  on_err_items e h =
      ap (λ (x : OffData). on_with x m) (q ∙ err_same (add_in_packet t p m.off) m.off e h)
      ∙ refused_channel (settled fits_on (loose_on t r (on_acked r m)) m) e m (on_err e h)

  pub on_ok_result : Ok tt ≡ (settled_data (add_in_packet t p m.off) m.off).result → Ok tt ≡ (settled fits_on (loose_on t r (on_acked r m)) m).result
  on_ok_result h = kept_result (settled fits_on (loose_on t r (on_acked r m)) m) (on_with (acked_on r n) m) (on_ok h)

  pub on_ok_items : Ok tt ≡ (settled_data (add_in_packet t p m.off) m.off).result → (x : OffData) → x ≡ acked_on r n → on_with x m ≡ (settled fits_on (loose_on t r (on_acked r m)) m).channel
  on_ok_items h x e = ap (λ (y : OffData). on_with y m) e ∙ kept_channel (settled fits_on (loose_on t r (on_acked r m)) m) (on_with (acked_on r n) m) (on_ok h)

module _ (t : ℕ) (r : Record) (m : OffChannel) (w : fits_off m ≡ true) (p : Packet) (pe : p ≡ packet r) (n : OffData) (q : n ≡ (settled_data (add_in_packet t p m.off) m.off).channel) where
  of_record_off : (settled_data (add_in_packet t p m.off) m.off) ≡ (settled_data (add_in_packet t (packet r) m.off) m.off)
  of_record_off = ap (λ (x : Packet). settled_data (add_in_packet t x m.off) m.off) pe

  result_off : {x : Result ⊤ Refusal} → x ≡ (settled_data (add_in_packet t p m.off) m.off).result → (settled_data (add_in_packet t (packet r) m.off) m.off).result ≡ x
  result_off h = ap (λ (s : Settled OffData). s.result) (sym of_record_off) ∙ sym h

  same_n : (e : Refusal) → Err e ≡ (settled_data (add_in_packet t p m.off) m.off).result → off_with n m ≡ m
  same_n e h = ap (λ (x : OffData). off_with x m) (q ∙ err_same (add_in_packet t p m.off) m.off e h)

  fit_acks : length m.off.acks ≤ 64
  fit_acks = (fits_data_facts m.off w).acks

  channel_is : (settled_data (add_in_packet t (packet r) m.off) m.off).channel ≡ n
  channel_is = ap (λ (s : Settled OffData). s.channel) (sym of_record_off) ∙ sym q

  -- the acks of what the packet left are those that were there
  pub acks_kept : n.acks ≡ m.off.acks
  acks_kept = ap (λ (x : OffData). x.acks) (sym channel_is) ∙ acks_stay t r m.off

  -- not reliable
  abbrev plain : Settled OffChannel
  plain = settled fits_off (loose_off t r (off_acked r m)) m

  plain_ok : Ok tt ≡ (settled_data (add_in_packet t p m.off) m.off).result → plain ≡ kept (off_with (acked_off r n) m)
  plain_ok h =
      loose_off_ok t r m w m.off.acks fit_acks (result_off h)
      ∙ ap (λ (x : OffData). kept (off_with (with_acks m.off.acks (acked_off r x)) m)) channel_is
      ∙ ap (λ (l : List ℕ). kept (off_with (with_acks l (acked_off r n)) m)) (sym acks_kept)

  pub off_err_result : (e : Refusal) → Err e ≡ (settled_data (add_in_packet t p m.off) m.off).result → Err e ≡ (settled fits_off (loose_off t r (off_acked r m)) m).result
  off_err_result e h = refused_result plain e m (loose_off_err t r m w m.off.acks e (result_off h))

  pub off_err_items : (e : Refusal) → Err e ≡ (settled_data (add_in_packet t p m.off) m.off).result → off_with n m ≡ (settled fits_off (loose_off t r (off_acked r m)) m).channel
  off_err_items e h = same_n e h ∙ refused_channel plain e m (loose_off_err t r m w m.off.acks e (result_off h))

  pub off_ok_result : Ok tt ≡ (settled_data (add_in_packet t p m.off) m.off).result → Ok tt ≡ (settled fits_off (loose_off t r (off_acked r m)) m).result
  off_ok_result h = kept_result plain (off_with (acked_off r n) m) (plain_ok h)

  pub off_ok_items : Ok tt ≡ (settled_data (add_in_packet t p m.off) m.off).result → (x : OffData) → x ≡ acked_off r n → off_with x m ≡ (settled fits_off (loose_off t r (off_acked r m)) m).channel
  off_ok_items h x e = ap (λ (y : OffData). off_with y m) e ∙ kept_channel plain (off_with (acked_off r n) m) (plain_ok h)

  -- reliable
  abbrev more : List ℕ
  more = m.off.acks ++ r.number ∷ []

  abbrev reliably : Settled OffChannel
  reliably = settled fits_off (loose_off t r (off_with (queued r (off_acked r m).off) (off_acked r m))) m

  more_long : length more ≡ length m.off.acks + 1
  more_long = omega (arith, length-append m.off.acks (r.number ∷ []))

  pub reliable_err_result : (e : Refusal) → Err e ≡ (settled_data (add_in_packet t p m.off) m.off).result → Err e ≡ (settled fits_off (loose_off t r (off_with (queued r (off_acked r m).off) (off_acked r m))) m).result
  reliable_err_result e h = refused_result reliably e m (loose_off_err t r m w more e (result_off h))

  pub reliable_err_channel : (e : Refusal) → Err e ≡ (settled_data (add_in_packet t p m.off) m.off).result → m ≡ (settled fits_off (loose_off t r (off_with (queued r (off_acked r m).off) (off_acked r m))) m).channel
  reliable_err_channel e h = refused_channel reliably e m (loose_off_err t r m w more e (result_off h))

  pub reliable_err_items : (e : Refusal) → Err e ≡ (settled_data (add_in_packet t p m.off) m.off).result → off_with n m ≡ (settled fits_off (loose_off t r (off_with (queued r (off_acked r m).off) (off_acked r m))) m).channel
  reliable_err_items e h = same_n e h ∙ reliable_err_channel e h

  is_full : 64 ≤ length m.off.acks → Ok tt ≡ (settled_data (add_in_packet t p m.off) m.off).result → reliably ≡ refused OverLimit m
  is_full f h = loose_off_full t r m w more (omega (arith, more_long)) (result_off h)

  pub reliable_full_result : 64 ≤ length m.off.acks → Ok tt ≡ (settled_data (add_in_packet t p m.off) m.off).result → Err OverLimit ≡ (settled fits_off (loose_off t r (off_with (queued r (off_acked r m).off) (off_acked r m))) m).result
  reliable_full_result f h = refused_result reliably OverLimit m (is_full f h)

  pub reliable_full_channel : 64 ≤ length m.off.acks → Ok tt ≡ (settled_data (add_in_packet t p m.off) m.off).result → m ≡ (settled fits_off (loose_off t r (off_with (queued r (off_acked r m).off) (off_acked r m))) m).channel
  reliable_full_channel f h = refused_channel reliably OverLimit m (is_full f h)

  reliable_kept : length m.off.acks < 64 → Ok tt ≡ (settled_data (add_in_packet t p m.off) m.off).result → reliably ≡ kept (off_with (queued r (acked_off r n)) m)
  reliable_kept f h =
      loose_off_ok t r m w more (omega (arith, more_long)) (result_off h)
      ∙ ap (λ (x : OffData). kept (off_with (with_acks more (acked_off r x)) m)) channel_is
      ∙ ap (λ (l : List ℕ). kept (off_with (with_acks (l ++ r.number ∷ []) (acked_off r n)) m)) (sym acks_kept)

  pub reliable_ok_result : length m.off.acks < 64 → Ok tt ≡ (settled_data (add_in_packet t p m.off) m.off).result → Ok tt ≡ (settled fits_off (loose_off t r (off_with (queued r (off_acked r m).off) (off_acked r m))) m).result
  reliable_ok_result f h = kept_result reliably (off_with (queued r (acked_off r n)) m) (reliable_kept f h)

  pub reliable_ok_items : length m.off.acks < 64 → Ok tt ≡ (settled_data (add_in_packet t p m.off) m.off).result → (x y : OffData) → x ≡ acked_off r n → y ≡ queued r x
      → off_with y m ≡ (settled fits_off (loose_off t r (off_with (queued r (off_acked r m).off) (off_acked r m))) m).channel
  reliable_ok_items f h x y ex ey =
      ap (λ (z : OffData). off_with z m) (ey ∙ ap (λ (z : OffData). queued r z) ex) ∙ kept_channel reliably (off_with (queued r (acked_off r n)) m) (reliable_kept f h)

-- ---- a reliable record on-channel

module _ (f : Bool) (r : Record) (m : OnChannel) (w : fits_on m ≡ true) (p : Packet) (pe : p ≡ packet r) where
  abbrev on_reliably : Settled OnChannel
  on_reliably = settled fits_on (reliable_in f r (on_acked r m)) m

  pub on_full_result : 64 ≤ length m.off.acks → Err OverLimit ≡ (settled fits_on (reliable_in f r (on_acked r m)) m).result
  on_full_result h = refused_result on_reliably OverLimit m (reliable_full f r m w h)

  pub on_full_items : 64 ≤ length m.off.acks → m ≡ (settled fits_on (reliable_in f r (on_acked r m)) m).channel
  on_full_items h = refused_channel on_reliably OverLimit m (reliable_full f r m w h)

  is_over : fits_on (with_reliable (arrive (reliable_of m) p) m) ≡ false → on_reliably ≡ refused OverLimit m
  is_over h = reliable_over f r m w (ap (λ (x : Packet). fits_on (with_reliable (arrive (reliable_of m) x) m)) (sym pe) ∙ h)

  pub on_over_result : fits_on (with_reliable (arrive (reliable_of m) p) m) ≡ false → Err OverLimit ≡ (settled fits_on (reliable_in f r (on_acked r m)) m).result
  on_over_result h = refused_result on_reliably OverLimit m (is_over h)

  pub on_over_items : fits_on (with_reliable (arrive (reliable_of m) p) m) ≡ false → m ≡ (settled fits_on (reliable_in f r (on_acked r m)) m).channel
  on_over_items h = refused_channel on_reliably OverLimit m (is_over h)

  abbrev end : OnChannel
  end = with_reliable (arrive (reliable_of m) (packet r)) (with_source (observed_if f m.source r.number) (on_with (queued r (on_acked r m).off) (on_acked r m)))

  in_room : length m.off.acks < 64 → fits_on (with_reliable (arrive (reliable_of m) p) m) ≡ true → on_reliably ≡ kept end
  in_room l h = reliable_ok f r m w l (ap (λ (x : Packet). fits_on (with_reliable (arrive (reliable_of m) x) m)) (sym pe) ∙ h)

  pub on_taken_result : length m.off.acks < 64 → fits_on (with_reliable (arrive (reliable_of m) p) m) ≡ true → Ok tt ≡ (settled fits_on (reliable_in f r (on_acked r m)) m).result
  on_taken_result l h = kept_result on_reliably end (in_room l h)

  pub on_taken_items : length m.off.acks < 64 → fits_on (with_reliable (arrive (reliable_of m) p) m) ≡ true → (m1 m4 : OnChannel) (d2 d3 : OffData)
      → m1 ≡ with_reliable (arrive (reliable_of m) p) m → d2 ≡ acked_on r m1.off → d3 ≡ queued r d2 → m4 ≡ with_source (observed_if f m1.source r.number) (on_with d3 m1)
      → m4 ≡ (settled fits_on (reliable_in f r (on_acked r m)) m).channel
  on_taken_items l h m1 m4 d2 d3 e1 e2 e3 e4 =
      reliable_items f r m w m1 m4 d2 d3 (e1 ∙ ap (λ (x : Packet). with_reliable (arrive (reliable_of m) x) m) pe) e2 e3 e4 ∙ kept_channel on_reliably end (in_room l h)

-- ---- forwarded out

module _ (t : ℕ) (r : Record) (m : OnChannel) (w : fits_on m ≡ true) where
  abbrev sent : OffData
  sent = rust.forwarded (is_set r.hascumulative) t r m.off

  out_within : settled fits_on (granted (rust.forward_on t r m)) m ≡ within (fits_data sent) (rust.forward_on t r m) m
  unfolding settled
  out_within = let x = fits-on_facts m w in rw (le-leb (length m.buffer) 32 x.buffer, le-leb (length m.queue) 32 x.queue) (at (fits_data sent))
    where
      at : (b : Bool) → within (b && true && true) (rust.forward_on t r m) m ≡ within b (rust.forward_on t r m) m
      at true = refl
      at false = refl

  pub out_over : fits_data sent ≡ false → settled fits_on (granted (rust.forward_on t r m)) m ≡ refused OverLimit m
  out_over h = out_within ∙ ap (λ (b : Bool). within b (rust.forward_on t r m) m) h

  pub out_kept : fits_data sent ≡ true → settled fits_on (granted (rust.forward_on t r m)) m ≡ kept (rust.forward_on t r m)
  out_kept h = out_within ∙ ap (λ (b : Bool). within b (rust.forward_on t r m) m) h

module _ (t : ℕ) (r : Record) (m : OffChannel) where
  pub off_out_cumulative : is_set r.hascumulative ≡ true → settled fits_off (rust.forward_off (is_set r.hascumulative) t r m) m ≡ refused CumulativeOff m
  unfolding settled
  off_out_cumulative h = ap (λ (b : Bool). settled fits_off (rust.forward_off b t r m) m) h

  pub off_out_over : is_set r.hascumulative ≡ false → fits_data (rust.forwarded false t r m.off) ≡ false → settled fits_off (rust.forward_off (is_set r.hascumulative) t r m) m ≡ refused OverLimit m
  unfolding settled
  off_out_over h f = ap (λ (b : Bool). settled fits_off (rust.forward_off b t r m) m) h ∙ ap (λ (b : Bool). within b (off_with (rust.forwarded false t r m.off) m) m) f

  pub off_out_kept : is_set r.hascumulative ≡ false → fits_data (rust.forwarded false t r m.off) ≡ true
      → settled fits_off (rust.forward_off (is_set r.hascumulative) t r m) m ≡ kept (off_with (rust.forwarded false t r m.off) m)
  unfolding settled
  off_out_kept h f = ap (λ (b : Bool). settled fits_off (rust.forward_off b t r m) m) h ∙ ap (λ (b : Bool). within b (off_with (rust.forwarded false t r m.off) m) m) f

-- ---- the length of the ack queue

pub acks_len : (d : lent.OffData) → IsOffData d → length (data_of d).acks ≡ d.acks.len
acks_len d w = length_items 64 d.acks.len 0 d.acks.numbers w.acks

pub is_full_by : (d : lent.OffData) → IsOffData d → (b : Bool) → b ≡ leb 64 d.acks.len → b ≡ true → 64 ≤ length (data_of d).acks
is_full_by d w b e t = omega (arith, acks_len d w, leb-true 64 d.acks.len (sym e ∙ t))

pub has_room_by : (d : lent.OffData) → IsOffData d → (b : Bool) → b ≡ leb 64 d.acks.len → b ≡ false → length (data_of d).acks < 64
has_room_by d w b e t = omega (arith, acks_len d w, leb-false 64 d.acks.len (sym e ∙ t))

pub room_left : (d e : lent.OffData) → IsOffData e → length (data_of d).acks < 64 → (data_of e).acks ≡ (data_of d).acks → e.acks.len < 64
room_left d e w h q = omega (arith, acks_len e w, ap length q, h)

-- ---- the cumulative ack, if there is one

pub some_set : (r : Record) (x : ℕ) → Some x ≡ cumulative_of r → is_set r.hascumulative ≡ true
some_set r x q = at (is_set r.hascumulative) q
  where
    at : (b : Bool) → Some x ≡ cond b (Some r.cumulative) None → b ≡ true
    at true q = refl
    at false q = never (cc)

pub none_set : (r : Record) → None ≡ cumulative_of r → is_set r.hascumulative ≡ false
none_set r q = at (is_set r.hascumulative) q
  where
    at : (b : Bool) → None ≡ cond b (Some r.cumulative) None → b ≡ false
    at true q = never (cc)
    at false q = refl
