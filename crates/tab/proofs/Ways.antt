-- What each way through a record's code owes, on a channel that is there and on one that is made: a table's form, its state and the answer.
-- Assumes nothing.
use Rattle.std.proofs.Common.{◌≡◌, ℕ, ◌<◌, Bool, true, false, cond, ◌||◌, length, set, get_or, refl, ap, sym, ◌∙◌, arith}
use Rattle.std.specs.Prelude.{Result, Ok, Err, ⊤}
use Rattle.std.specs.declared.option.Option.{Option}
use Rattle.std.specs.declared.option.Option.TheVariants.{None, Some}
use lib.Seq.{get_or-set_same}
use Rattle.list.specs.Find.{position}
use Rattle.list.proofs.Tests.{or_left}
use Rattle.packet.specs.declared.Record.{Record}
use Rattle.packet.specs.declared.View.{View}
use Rattle.packet.specs.Data.{index_of, version_of}
use Rattle.model.specs.State as model
use Rattle.model.specs.Refusals.{Refusal}
use Rattle.model.specs.Room.{fits_off, fits_on, off_room, on_room}
use Rattle.model.specs.Port.{has_place}
use Rattle.chan.specs.Channels.{off_of, IsOffChannel, on_of, IsOnChannel}
use Rattle.chan.specs.Settled.{Settled, settled}
use Rattle.chan.specs.Rules.{outcome_on, outcome_off}
use Rattle.chan.specs.declared.OffChannel.{OffChannel}
use Rattle.chan.specs.declared.OnChannel.{OnChannel}
use Rattle.chan.specs.declared.records.Way.{Way}
use Rattle.tab.specs.declared.Table.{Table}
use Rattle.tab.specs.Tables.{IsTable, state_of}
use Rattle.packet.specs.declared.Refusal.TheVariants.{TableFull}
use Rattle.tab.specs.Played.{late, Step, put_on_p, put_off_p, on_step, off_step, placed}
use Rattle.tab.proofs.Left.{OnKeyed, OffKeyed, on_at_address, on_at_index, off_at_address, on_keyed, off_keyed}
use Rattle.tab.proofs.Stepped.{settled_keyed, settled_late}
use Rattle.tab.proofs.Steps.{off_seen, off_set, off_made, off_absent, off_there, on_seen, on_set, on_made, on_absent, on_there}
use Rattle.tab.proofs.Put.{granted_answer, granted_state, refused_answer, kept_state, late_state, on_put_form, on_put_state, on_same_state, off_put_form, off_put_state, off_same_state, on_added_state, off_added_state}

-- ---- on-channel

module _ (way : Way) (t a : ℕ) (r : Record) (p : model.Protocol) where
  abbrev on_m : model.OnChannel
  on_m = model.on_at a (index_of r) (version_of r) p

  abbrev on_w : Settled model.OnChannel
  on_w = settled fits_on (outcome_on way t r on_m) on_m

  on_key : OnKeyed a (index_of r) on_w.channel
  on_key = settled_keyed fits_on (OnKeyed a (index_of r)) on_m (on_at_address a (index_of r) (version_of r) p, on_at_index a (index_of r) (version_of r) p) (outcome_on way t r on_m) (on_keyed way a t r p)

  on_late : (x : Refusal) → Err x ≡ on_w.result → late x ≡ true → on_w.channel ≡ on_m
  on_late x q l = settled_late fits_on (OnKeyed a (index_of r)) on_m (on_at_address a (index_of r) (version_of r) p, on_at_index a (index_of r) (version_of r) p) (outcome_on way t r on_m) (on_keyed way a t r p) x (sym q) l

-- one that was there
module _ (way : Way) (t a : ℕ) (r : Record) (tb : Table) (h : IsTable tb) (i : ℕ) (lt : i < tb.oncount) (e : position (model.is_on a (index_of r)) (state_of tb).protocol.ons ≡ Some i) (d c : OnChannel) (good : IsOnChannel c)
    (is : on_of c ≡ (settled fits_on (outcome_on way t r (on_of (get_or tb.ons i d))) (on_of (get_or tb.ons i d))).channel) where
  on_same : (settled fits_on (outcome_on way t r (on_of (get_or tb.ons i d))) (on_of (get_or tb.ons i d))) ≡ on_w way t a r (state_of tb).protocol
  on_same = ap (λ (x : model.OnChannel). settled fits_on (outcome_on way t r x) x) (on_seen tb h i lt a (index_of r) (version_of r) d e)

  on_is : on_of c ≡ (on_w way t a r (state_of tb).protocol).channel
  on_is = is ∙ ap (λ (s : Settled model.OnChannel). s.channel) on_same

  on_result : {x : Result ⊤ Refusal} → x ≡ (settled fits_on (outcome_on way t r (on_of (get_or tb.ons i d))) (on_of (get_or tb.ons i d))).result → x ≡ (on_w way t a r (state_of tb).protocol).result
  on_result q = q ∙ ap (λ (s : Settled model.OnChannel). s.result) on_same

  pub on_at_form : (p : ℕ) → IsTable (record tb { ons = set tb.ons i c; prefix = p })
  on_at_form p = on_put_form tb h i lt a (index_of r) (version_of r) e c good (on_w way t a r (state_of tb).protocol).channel on_is (on_key way t a r (state_of tb).protocol) p

  pub on_at_late_form : IsTable (record tb { ons = set tb.ons i c })
  on_at_late_form = on_set tb h i lt c good

  pub on_at_ok_state : (p : ℕ) → Ok tt ≡ (settled fits_on (outcome_on way t r (on_of (get_or tb.ons i d))) (on_of (get_or tb.ons i d))).result
      → state_of (record tb { ons = set tb.ons i c; prefix = p }) ≡ (on_step way p t a r (state_of tb)).state
  on_at_ok_state p q =
      on_put_state tb h i lt a (index_of r) (version_of r) e c good (on_w way t a r (state_of tb).protocol).channel on_is (on_key way t a r (state_of tb).protocol) p
      ∙ granted_state model.on_view (put_on_p p (state_of tb)) (state_of tb) (on_w way t a r (state_of tb).protocol) (on_result q)

  pub on_at_ok_answer : (p : ℕ) (v : View) (z : OnChannel) → v ≡ model.on_view (on_of (get_or (set tb.ons i c) i z))
      → Ok tt ≡ (settled fits_on (outcome_on way t r (on_of (get_or tb.ons i d))) (on_of (get_or tb.ons i d))).result → Ok v ≡ (on_step way p t a r (state_of tb)).answer
  on_at_ok_answer p v z y q =
      let long : i < length tb.ons = omega (arith, h.ons.size, h.ons.fits) in
      let here : get_or (set tb.ons i c) i z ≡ c = get_or-set_same tb.ons i c z long in
      ap (λ (x : View). Ok x) (y ∙ ap (λ (x : OnChannel). model.on_view (on_of x)) here ∙ ap (λ (x : model.OnChannel). model.on_view x) on_is)
      ∙ granted_answer model.on_view (put_on_p p (state_of tb)) (state_of tb) (on_w way t a r (state_of tb).protocol) (on_result q)

  pub on_at_err_answer : (p : ℕ) (x : Refusal) → Err x ≡ (settled fits_on (outcome_on way t r (on_of (get_or tb.ons i d))) (on_of (get_or tb.ons i d))).result → Err x ≡ (on_step way p t a r (state_of tb)).answer
  on_at_err_answer p x q = refused_answer model.on_view (put_on_p p (state_of tb)) (state_of tb) (on_w way t a r (state_of tb).protocol) x (on_result q)

  pub on_at_kept_state : (p : ℕ) (x : Refusal) → Err x ≡ (settled fits_on (outcome_on way t r (on_of (get_or tb.ons i d))) (on_of (get_or tb.ons i d))).result → late x ≡ false
      → state_of (record tb { ons = set tb.ons i c; prefix = p }) ≡ (on_step way p t a r (state_of tb)).state
  on_at_kept_state p x q l =
      on_put_state tb h i lt a (index_of r) (version_of r) e c good (on_w way t a r (state_of tb).protocol).channel on_is (on_key way t a r (state_of tb).protocol) p
      ∙ kept_state model.on_view (put_on_p p (state_of tb)) (state_of tb) (on_w way t a r (state_of tb).protocol) x (on_result q) l

  pub on_at_late_state : (p : ℕ) (x : Refusal) → Err x ≡ (settled fits_on (outcome_on way t r (on_of (get_or tb.ons i d))) (on_of (get_or tb.ons i d))).result → late x ≡ true
      → state_of (record tb { ons = set tb.ons i c }) ≡ (on_step way p t a r (state_of tb)).state
  on_at_late_state p x q l =
      on_same_state tb h i lt a (index_of r) (version_of r) e c good (on_w way t a r (state_of tb).protocol).channel on_is (on_key way t a r (state_of tb).protocol) (on_late way t a r (state_of tb).protocol x (on_result q) l)
      ∙ late_state model.on_view (put_on_p p (state_of tb)) (state_of tb) (on_w way t a r (state_of tb).protocol) x (on_result q) l

-- a new one
module _ (way : Way) (t a : ℕ) (r : Record) (tb : Table) (e : position (model.is_on a (index_of r)) (state_of tb).protocol.ons ≡ None) (b c : OnChannel) (new : on_of b ≡ model.new_on a (index_of r) (version_of r))
    (is : on_of c ≡ (settled fits_on (outcome_on way t r (on_of b)) (on_of b)).channel) where
  on_first : on_of b ≡ on_m way t a r (state_of tb).protocol
  on_first = new ∙ sym (on_made a (index_of r) (state_of tb).protocol (version_of r) e)

  on_as : (settled fits_on (outcome_on way t r (on_of b)) (on_of b)) ≡ on_w way t a r (state_of tb).protocol
  on_as = ap (λ (x : model.OnChannel). settled fits_on (outcome_on way t r x) x) on_first

  on_ends : on_of c ≡ (on_w way t a r (state_of tb).protocol).channel
  on_ends = is ∙ ap (λ (s : Settled model.OnChannel). s.channel) on_as

  on_said : {x : Result ⊤ Refusal} → x ≡ (settled fits_on (outcome_on way t r (on_of b)) (on_of b)).result → x ≡ (on_w way t a r (state_of tb).protocol).result
  on_said q = q ∙ ap (λ (s : Settled model.OnChannel). s.result) on_as

  -- its key is nobody's
  pub on_new_key : position (model.is_on c.address c.index) (state_of tb).protocol.ons ≡ None
  on_new_key =
      let key = on_key way t a r (state_of tb).protocol in
      let address : c.address ≡ a = ap (λ (x : model.OnChannel). x.address) on_ends ∙ key.0 in
      let index : c.index ≡ index_of r = ap (λ (x : model.OnChannel). x.index) on_ends ∙ key.1 in
      (λ j. position (model.is_on (address j) (index j)) (state_of tb).protocol.ons) ∙ e

  module _ (u : Table) (added : state_of u ≡ model.with_protocol (model.put_on (on_of c) (state_of tb).protocol) (state_of tb)) where
    on_added : (p : ℕ) → state_of (record u { prefix = p }) ≡ put_on_p p (state_of tb) (on_w way t a r (state_of tb).protocol).channel
    on_added p = on_added_state tb u p (on_w way t a r (state_of tb).protocol).channel (added ∙ ap (λ (x : model.OnChannel). model.with_protocol (model.put_on x (state_of tb).protocol) (state_of tb)) on_ends)

    pub on_new_ok_state : (p : ℕ) → Ok tt ≡ (settled fits_on (outcome_on way t r (on_of b)) (on_of b)).result → state_of (record u { prefix = p }) ≡ (on_step way p t a r (state_of tb)).state
    on_new_ok_state p q = on_added p ∙ granted_state model.on_view (put_on_p p (state_of tb)) (state_of tb) (on_w way t a r (state_of tb).protocol) (on_said q)

    pub on_new_kept_state : (p : ℕ) (x : Refusal) → Err x ≡ (settled fits_on (outcome_on way t r (on_of b)) (on_of b)).result → late x ≡ false → state_of (record u { prefix = p }) ≡ (on_step way p t a r (state_of tb)).state
    on_new_kept_state p x q l = on_added p ∙ kept_state model.on_view (put_on_p p (state_of tb)) (state_of tb) (on_w way t a r (state_of tb).protocol) x (on_said q) l

  pub on_new_ok_answer : (p : ℕ) (v : View) → v ≡ model.on_view (on_of c) → Ok tt ≡ (settled fits_on (outcome_on way t r (on_of b)) (on_of b)).result → Ok v ≡ (on_step way p t a r (state_of tb)).answer
  on_new_ok_answer p v y q =
      ap (λ (x : View). Ok x) (y ∙ ap (λ (x : model.OnChannel). model.on_view x) on_ends)
      ∙ granted_answer model.on_view (put_on_p p (state_of tb)) (state_of tb) (on_w way t a r (state_of tb).protocol) (on_said q)

  pub on_new_err_answer : (p : ℕ) (x : Refusal) → Err x ≡ (settled fits_on (outcome_on way t r (on_of b)) (on_of b)).result → Err x ≡ (on_step way p t a r (state_of tb)).answer
  on_new_err_answer p x q = refused_answer model.on_view (put_on_p p (state_of tb)) (state_of tb) (on_w way t a r (state_of tb).protocol) x (on_said q)

  pub on_new_late_state : (p : ℕ) (x : Refusal) → Err x ≡ (settled fits_on (outcome_on way t r (on_of b)) (on_of b)).result → late x ≡ true → state_of tb ≡ (on_step way p t a r (state_of tb)).state
  on_new_late_state p x q l = late_state model.on_view (put_on_p p (state_of tb)) (state_of tb) (on_w way t a r (state_of tb).protocol) x (on_said q) l

-- whether there is a place for it
module _ (a : ℕ) (r : Record) (tb : Table) (e : position (model.is_on a (index_of r)) (state_of tb).protocol.ons ≡ None) where
  pub on_new_place : on_room (state_of tb).protocol ≡ true → has_place true a (index_of r) (state_of tb).protocol ≡ true
  on_new_place q = ap (λ (x : Bool). x || on_room (state_of tb).protocol) (on_absent a (index_of r) (state_of tb).protocol e) ∙ q

  pub on_no_place : on_room (state_of tb).protocol ≡ false → has_place true a (index_of r) (state_of tb).protocol ≡ false
  on_no_place q = ap (λ (x : Bool). x || on_room (state_of tb).protocol) (on_absent a (index_of r) (state_of tb).protocol e) ∙ q

-- ---- off-channel

module _ (way : Way) (t a : ℕ) (r : Record) (p : model.Protocol) where
  abbrev off_m : model.OffChannel
  off_m = model.off_at a p

  abbrev off_w : Settled model.OffChannel
  off_w = settled fits_off (outcome_off way t r off_m) off_m

  off_key : OffKeyed a off_w.channel
  off_key = settled_keyed fits_off (OffKeyed a) off_m (off_at_address a p) (outcome_off way t r off_m) (off_keyed way a t r p)

  off_late : (x : Refusal) → Err x ≡ off_w.result → late x ≡ true → off_w.channel ≡ off_m
  off_late x q l = settled_late fits_off (OffKeyed a) off_m (off_at_address a p) (outcome_off way t r off_m) (off_keyed way a t r p) x (sym q) l

-- one that was there
module _ (way : Way) (t a : ℕ) (r : Record) (tb : Table) (h : IsTable tb) (i : ℕ) (lt : i < tb.offcount) (e : position (model.is_off a) (state_of tb).protocol.offs ≡ Some i) (d c : OffChannel) (good : IsOffChannel c)
    (is : off_of c ≡ (settled fits_off (outcome_off way t r (off_of (get_or tb.offs i d))) (off_of (get_or tb.offs i d))).channel) where
  off_same : (settled fits_off (outcome_off way t r (off_of (get_or tb.offs i d))) (off_of (get_or tb.offs i d))) ≡ off_w way t a r (state_of tb).protocol
  off_same = ap (λ (x : model.OffChannel). settled fits_off (outcome_off way t r x) x) (off_seen tb h i lt a d e)

  off_is : off_of c ≡ (off_w way t a r (state_of tb).protocol).channel
  off_is = is ∙ ap (λ (s : Settled model.OffChannel). s.channel) off_same

  off_result : {x : Result ⊤ Refusal} → x ≡ (settled fits_off (outcome_off way t r (off_of (get_or tb.offs i d))) (off_of (get_or tb.offs i d))).result → x ≡ (off_w way t a r (state_of tb).protocol).result
  off_result q = q ∙ ap (λ (s : Settled model.OffChannel). s.result) off_same

  pub off_at_form : (p : ℕ) → IsTable (record tb { offs = set tb.offs i c; prefix = p })
  off_at_form p = off_put_form tb h i lt a e c good (off_w way t a r (state_of tb).protocol).channel off_is (off_key way t a r (state_of tb).protocol) p

  pub off_at_late_form : IsTable (record tb { offs = set tb.offs i c })
  off_at_late_form = off_set tb h i lt c good

  pub off_at_ok_state : (p : ℕ) → Ok tt ≡ (settled fits_off (outcome_off way t r (off_of (get_or tb.offs i d))) (off_of (get_or tb.offs i d))).result
      → state_of (record tb { offs = set tb.offs i c; prefix = p }) ≡ (off_step way p t a r (state_of tb)).state
  off_at_ok_state p q =
      off_put_state tb h i lt a e c good (off_w way t a r (state_of tb).protocol).channel off_is (off_key way t a r (state_of tb).protocol) p
      ∙ granted_state model.off_view (put_off_p p (state_of tb)) (state_of tb) (off_w way t a r (state_of tb).protocol) (off_result q)

  pub off_at_ok_answer : (p : ℕ) (v : View) (z : OffChannel) → v ≡ model.off_view (off_of (get_or (set tb.offs i c) i z))
      → Ok tt ≡ (settled fits_off (outcome_off way t r (off_of (get_or tb.offs i d))) (off_of (get_or tb.offs i d))).result → Ok v ≡ (off_step way p t a r (state_of tb)).answer
  off_at_ok_answer p v z y q =
      let long : i < length tb.offs = omega (arith, h.offs.size, h.offs.fits) in
      let here : get_or (set tb.offs i c) i z ≡ c = get_or-set_same tb.offs i c z long in
      ap (λ (x : View). Ok x) (y ∙ ap (λ (x : OffChannel). model.off_view (off_of x)) here ∙ ap (λ (x : model.OffChannel). model.off_view x) off_is)
      ∙ granted_answer model.off_view (put_off_p p (state_of tb)) (state_of tb) (off_w way t a r (state_of tb).protocol) (off_result q)

  pub off_at_err_answer : (p : ℕ) (x : Refusal) → Err x ≡ (settled fits_off (outcome_off way t r (off_of (get_or tb.offs i d))) (off_of (get_or tb.offs i d))).result → Err x ≡ (off_step way p t a r (state_of tb)).answer
  off_at_err_answer p x q = refused_answer model.off_view (put_off_p p (state_of tb)) (state_of tb) (off_w way t a r (state_of tb).protocol) x (off_result q)

  pub off_at_kept_state : (p : ℕ) (x : Refusal) → Err x ≡ (settled fits_off (outcome_off way t r (off_of (get_or tb.offs i d))) (off_of (get_or tb.offs i d))).result → late x ≡ false
      → state_of (record tb { offs = set tb.offs i c; prefix = p }) ≡ (off_step way p t a r (state_of tb)).state
  off_at_kept_state p x q l =
      off_put_state tb h i lt a e c good (off_w way t a r (state_of tb).protocol).channel off_is (off_key way t a r (state_of tb).protocol) p
      ∙ kept_state model.off_view (put_off_p p (state_of tb)) (state_of tb) (off_w way t a r (state_of tb).protocol) x (off_result q) l

  pub off_at_late_state : (p : ℕ) (x : Refusal) → Err x ≡ (settled fits_off (outcome_off way t r (off_of (get_or tb.offs i d))) (off_of (get_or tb.offs i d))).result → late x ≡ true
      → state_of (record tb { offs = set tb.offs i c }) ≡ (off_step way p t a r (state_of tb)).state
  off_at_late_state p x q l =
      off_same_state tb h i lt a e c good (off_w way t a r (state_of tb).protocol).channel off_is (off_key way t a r (state_of tb).protocol) (off_late way t a r (state_of tb).protocol x (off_result q) l)
      ∙ late_state model.off_view (put_off_p p (state_of tb)) (state_of tb) (off_w way t a r (state_of tb).protocol) x (off_result q) l

-- a new one
module _ (way : Way) (t a : ℕ) (r : Record) (tb : Table) (e : position (model.is_off a) (state_of tb).protocol.offs ≡ None) (b c : OffChannel) (new : off_of b ≡ model.new_off a)
    (is : off_of c ≡ (settled fits_off (outcome_off way t r (off_of b)) (off_of b)).channel) where
  off_first : off_of b ≡ off_m way t a r (state_of tb).protocol
  off_first = new ∙ sym (off_made a (state_of tb).protocol e)

  off_as : (settled fits_off (outcome_off way t r (off_of b)) (off_of b)) ≡ off_w way t a r (state_of tb).protocol
  off_as = ap (λ (x : model.OffChannel). settled fits_off (outcome_off way t r x) x) off_first

  off_ends : off_of c ≡ (off_w way t a r (state_of tb).protocol).channel
  off_ends = is ∙ ap (λ (s : Settled model.OffChannel). s.channel) off_as

  off_said : {x : Result ⊤ Refusal} → x ≡ (settled fits_off (outcome_off way t r (off_of b)) (off_of b)).result → x ≡ (off_w way t a r (state_of tb).protocol).result
  off_said q = q ∙ ap (λ (s : Settled model.OffChannel). s.result) off_as

  -- its key is nobody's
  pub off_new_key : position (model.is_off c.address) (state_of tb).protocol.offs ≡ None
  off_new_key =
      let key = off_key way t a r (state_of tb).protocol in
      let address : c.address ≡ a = ap (λ (x : model.OffChannel). x.address) off_ends ∙ key in
      (λ j. position (model.is_off (address j)) (state_of tb).protocol.offs) ∙ e

  module _ (u : Table) (added : state_of u ≡ model.with_protocol (model.put_off (off_of c) (state_of tb).protocol) (state_of tb)) where
    off_added : (p : ℕ) → state_of (record u { prefix = p }) ≡ put_off_p p (state_of tb) (off_w way t a r (state_of tb).protocol).channel
    off_added p = off_added_state tb u p (off_w way t a r (state_of tb).protocol).channel (added ∙ ap (λ (x : model.OffChannel). model.with_protocol (model.put_off x (state_of tb).protocol) (state_of tb)) off_ends)

    pub off_new_ok_state : (p : ℕ) → Ok tt ≡ (settled fits_off (outcome_off way t r (off_of b)) (off_of b)).result → state_of (record u { prefix = p }) ≡ (off_step way p t a r (state_of tb)).state
    off_new_ok_state p q = off_added p ∙ granted_state model.off_view (put_off_p p (state_of tb)) (state_of tb) (off_w way t a r (state_of tb).protocol) (off_said q)

    pub off_new_kept_state : (p : ℕ) (x : Refusal) → Err x ≡ (settled fits_off (outcome_off way t r (off_of b)) (off_of b)).result → late x ≡ false → state_of (record u { prefix = p }) ≡ (off_step way p t a r (state_of tb)).state
    off_new_kept_state p x q l = off_added p ∙ kept_state model.off_view (put_off_p p (state_of tb)) (state_of tb) (off_w way t a r (state_of tb).protocol) x (off_said q) l

  pub off_new_ok_answer : (p : ℕ) (v : View) → v ≡ model.off_view (off_of c) → Ok tt ≡ (settled fits_off (outcome_off way t r (off_of b)) (off_of b)).result → Ok v ≡ (off_step way p t a r (state_of tb)).answer
  off_new_ok_answer p v y q =
      ap (λ (x : View). Ok x) (y ∙ ap (λ (x : model.OffChannel). model.off_view x) off_ends)
      ∙ granted_answer model.off_view (put_off_p p (state_of tb)) (state_of tb) (off_w way t a r (state_of tb).protocol) (off_said q)

  pub off_new_err_answer : (p : ℕ) (x : Refusal) → Err x ≡ (settled fits_off (outcome_off way t r (off_of b)) (off_of b)).result → Err x ≡ (off_step way p t a r (state_of tb)).answer
  off_new_err_answer p x q = refused_answer model.off_view (put_off_p p (state_of tb)) (state_of tb) (off_w way t a r (state_of tb).protocol) x (off_said q)

  pub off_new_late_state : (p : ℕ) (x : Refusal) → Err x ≡ (settled fits_off (outcome_off way t r (off_of b)) (off_of b)).result → late x ≡ true → state_of tb ≡ (off_step way p t a r (state_of tb)).state
  off_new_late_state p x q l = late_state model.off_view (put_off_p p (state_of tb)) (state_of tb) (off_w way t a r (state_of tb).protocol) x (off_said q) l

-- whether there is a place for it
module _ (a : ℕ) (r : Record) (tb : Table) (e : position (model.is_off a) (state_of tb).protocol.offs ≡ None) where
  pub off_new_place : off_room (state_of tb).protocol ≡ true → has_place false a (index_of r) (state_of tb).protocol ≡ true
  off_new_place q = ap (λ (x : Bool). x || off_room (state_of tb).protocol) (off_absent a (state_of tb).protocol e) ∙ q

  pub off_no_place : off_room (state_of tb).protocol ≡ false → has_place false a (index_of r) (state_of tb).protocol ≡ false
  off_no_place q = ap (λ (x : Bool). x || off_room (state_of tb).protocol) (off_absent a (state_of tb).protocol e) ∙ q

pub on_at_place : (a : ℕ) (r : Record) (tb : Table) (i : ℕ) → position (model.is_on a (index_of r)) (state_of tb).protocol.ons ≡ Some i → has_place true a (index_of r) (state_of tb).protocol ≡ true
on_at_place a r tb i e = or_left (on_room (state_of tb).protocol) (on_there a (index_of r) (state_of tb).protocol i e)

pub off_at_place : (a : ℕ) (r : Record) (tb : Table) (i : ℕ) → position (model.is_off a) (state_of tb).protocol.offs ≡ Some i → has_place false a (index_of r) (state_of tb).protocol ≡ true
off_at_place a r tb i e = or_left (off_room (state_of tb).protocol) (off_there a (state_of tb).protocol i e)

-- ---- by whether there is a place

pub placed_yes : (b : Bool) (s : model.State) (w : Step) → b ≡ true → w ≡ placed b s w
placed_yes b s w q = ap (λ (x : Bool). placed x s w) (sym q)

pub placed_no : (b : Bool) (s : model.State) (w : Step) → b ≡ false → record { answer = Err TableFull; state = s } ≡ placed b s w
placed_no b s w q = ap (λ (x : Bool). placed x s w) (sym q)

pub by_index : (a k i : ℕ) (tb : Table) (o : Option ℕ) → k ≡ i → o ≡ position (model.is_on a k) (state_of tb).protocol.ons → position (model.is_on a i) (state_of tb).protocol.ons ≡ o
by_index a k i tb o e q = (λ j. position (model.is_on a (sym e j)) (state_of tb).protocol.ons) ∙ sym q
