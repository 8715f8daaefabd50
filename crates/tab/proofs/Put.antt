-- A table whose record was settled on one channel: that channel put in its place, or added, and the last prefix set; or nothing changed.
-- Assumes nothing.
use Rattle.std.proofs.Common.{◌≡◌, ℕ, ◌<◌, ◌++◌, ◌∷◌, [], List, Bool, true, false, cond, length, take, set, get_or, map, refl, ap, sym, ◌∙◌, arith}
use Rattle.std.specs.Prelude.{Result, Ok, Err, ⊤}
use Rattle.std.specs.declared.option.Option.TheVariants.{None, Some}
use Rattle.list.specs.Find.{position}
use Rattle.list.proofs.Positions.{stands}
use Rattle.list.proofs.Find.{put_found}
use Rattle.packet.specs.declared.View.{View}
use Rattle.model.specs.State as model
use Rattle.model.specs.Refusals.{Refusal}
use borrow.Author.Tests.{ltb-true, ltb-false}
use lib.Dec.{ltb}
use Rattle.std.specs.Prelude.{OnOk, OnErr}
use Rattle.list.proofs.Pad.{never}
use Rattle.list.proofs.Tests.{all_b-all}
use Rattle.list.proofs.Maps.{all_b-map}
use Rattle.packet.specs.Data.{is_set}
use Rattle.model.specs.Room as model_room
use Rattle.model.proofs.Room.{fits_test}
use Rattle.chan.proofs.Fits.{off_fits, on_fits}
use Rattle.chan.specs.Channels.{off_of, IsOffChannel, no_off_channel, on_of, IsOnChannel, no_on_channel}
use Rattle.chan.specs.Settled.{Settled}
use Rattle.chan.specs.declared.OffChannel.{OffChannel}
use Rattle.chan.specs.declared.OnChannel.{OnChannel}
use Rattle.tab.specs.declared.Table.{Table}
use Rattle.tab.specs.Tables.{IsTable, state_of}
use Rattle.tab.specs.Played.{late, Step, put_on_p, put_off_p, step_if, step_on, step_off}
use Rattle.tab.proofs.Left.{OnKeyed, OffKeyed, on_at_address, on_at_index, put_on_same, off_at_address, put_off_same}
use Rattle.tab.proofs.Steps.{off_set, off_put, off_there, off_count, off_room, off_full, on_set, on_put, on_there, on_count, on_room, on_full}

-- ---- the answer and the state of a step, by its result

module _ {X : Type 0} (view : X → View) (put : X → model.State) (s : model.State) (w : Settled X) where
  abbrev done : Step
  done = step_if view put s w.result w.channel

  pub granted_answer : Ok tt ≡ w.result → Ok (view w.channel) ≡ (step_if view put s w.result w.channel).answer
  granted_answer q = ap (λ (r : Result ⊤ Refusal). (step_if view put s r w.channel).answer) q

  pub granted_state : Ok tt ≡ w.result → put w.channel ≡ (step_if view put s w.result w.channel).state
  granted_state q = ap (λ (r : Result ⊤ Refusal). (step_if view put s r w.channel).state) q

  pub refused_answer : (e : Refusal) → Err e ≡ w.result → Err e ≡ (step_if view put s w.result w.channel).answer
  refused_answer e q = ap (λ (r : Result ⊤ Refusal). (step_if view put s r w.channel).answer) q

  pub kept_state : (e : Refusal) → Err e ≡ w.result → late e ≡ false → put w.channel ≡ (step_if view put s w.result w.channel).state
  kept_state e q l = ap (λ (b : Bool). cond b s (put w.channel)) (sym l) ∙ ap (λ (r : Result ⊤ Refusal). (step_if view put s r w.channel).state) q

  pub late_state : (e : Refusal) → Err e ≡ w.result → late e ≡ true → s ≡ (step_if view put s w.result w.channel).state
  late_state e q l = ap (λ (b : Bool). cond b s (put w.channel)) (sym l) ∙ ap (λ (r : Result ⊤ Refusal). (step_if view put s r w.channel).state) q

-- ---- the prefix set

pub prefix_form : (t : Table) (p : ℕ) → IsTable t → IsTable (record t { prefix = p })
prefix_form t p h = record { forwarding = h.forwarding; offs = h.offs; each_off = h.each_off; ons = h.ons; each_on = h.each_on }

pub prefix_state : (t : Table) (p : ℕ) → state_of (record t { prefix = p }) ≡ model.with_protocol (model.with_prefix p (state_of t).protocol) (state_of t)
unfolding state_of
prefix_state t p = refl

-- ---- an on-channel at its place

module _ (t : Table) (h : IsTable t) (i : ℕ) (lt : i < t.oncount) (a k v : ℕ) (e : position (model.is_on a k) (state_of t).protocol.ons ≡ Some i) (c : OnChannel) (good : IsOnChannel c) (x : model.OnChannel) (is : on_of c ≡ x) (key : OnKeyed a k x) where
  pub on_put_form : (p : ℕ) → IsTable (record t { ons = set t.ons i c; prefix = p })
  on_put_form p = prefix_form (record t { ons = set t.ons i c }) p (on_set t h i lt c good)

  pub on_put_state : (p : ℕ) → state_of (record t { ons = set t.ons i c; prefix = p }) ≡ put_on_p p (state_of t) x
  on_put_state p =
      prefix_state (record t { ons = set t.ons i c }) p
      ∙ ap (λ (s : model.State). model.with_protocol (model.with_prefix p s.protocol) s) (on_put t h i lt a k c x e is key.0 key.1)

  -- the channel as it was
  pub on_same_state : x ≡ model.on_at a k v (state_of t).protocol → state_of (record t { ons = set t.ons i c }) ≡ state_of t
  on_same_state q =
      on_put t h i lt a k c x e is key.0 key.1
      ∙ ap (λ (y : model.OnChannel). model.with_protocol (model.put_on y (state_of t).protocol) (state_of t)) q
      ∙ ap (λ (p : model.Protocol). model.with_protocol p (state_of t)) (put_on_same a k v (state_of t).protocol (on_there a k (state_of t).protocol i e))

module _ (t : Table) (h : IsTable t) (i : ℕ) (lt : i < t.offcount) (a : ℕ) (e : position (model.is_off a) (state_of t).protocol.offs ≡ Some i) (c : OffChannel) (good : IsOffChannel c) (x : model.OffChannel) (is : off_of c ≡ x) (key : OffKeyed a x) where
  pub off_put_form : (p : ℕ) → IsTable (record t { offs = set t.offs i c; prefix = p })
  off_put_form p = prefix_form (record t { offs = set t.offs i c }) p (off_set t h i lt c good)

  pub off_put_state : (p : ℕ) → state_of (record t { offs = set t.offs i c; prefix = p }) ≡ put_off_p p (state_of t) x
  off_put_state p =
      prefix_state (record t { offs = set t.offs i c }) p
      ∙ ap (λ (s : model.State). model.with_protocol (model.with_prefix p s.protocol) s) (off_put t h i lt a c x e is key)

  -- the channel as it was
  pub off_same_state : x ≡ model.off_at a (state_of t).protocol → state_of (record t { offs = set t.offs i c }) ≡ state_of t
  off_same_state q =
      off_put t h i lt a c x e is key
      ∙ ap (λ (y : model.OffChannel). model.with_protocol (model.put_off y (state_of t).protocol) (state_of t)) q
      ∙ ap (λ (p : model.Protocol). model.with_protocol p (state_of t)) (put_off_same a (state_of t).protocol (off_there a (state_of t).protocol i e))

-- ---- a channel added

module _ (t u : Table) (p : ℕ) where
  pub on_added_state : (x : model.OnChannel) → state_of u ≡ model.with_protocol (model.put_on x (state_of t).protocol) (state_of t) → state_of (record u { prefix = p }) ≡ put_on_p p (state_of t) x
  on_added_state x q = prefix_state u p ∙ ap (λ (s : model.State). model.with_protocol (model.with_prefix p s.protocol) s) q

  pub off_added_state : (x : model.OffChannel) → state_of u ≡ model.with_protocol (model.put_off x (state_of t).protocol) (state_of t) → state_of (record u { prefix = p }) ≡ put_off_p p (state_of t) x
  off_added_state x q = prefix_state u p ∙ ap (λ (s : model.State). model.with_protocol (model.with_prefix p s.protocol) s) q

-- ---- whether there is a place for one more

module _ (t : Table) (h : IsTable t) where
  pub on_room_is : ltb t.oncount 8 ≡ model_room.on_room (state_of t).protocol
  on_room_is = at (ltb t.oncount 8) refl
    where
      at : (b : Bool) → ltb t.oncount 8 ≡ b → b ≡ model_room.on_room (state_of t).protocol
      at true q = sym (on_room t h (ltb-true t.oncount 8 q))
      at false q = sym (on_full t h (ltb-false t.oncount 8 q))

  pub off_room_is : ltb t.offcount 4 ≡ model_room.off_room (state_of t).protocol
  off_room_is = at (ltb t.offcount 4) refl
    where
      at : (b : Bool) → ltb t.offcount 4 ≡ b → b ≡ model_room.off_room (state_of t).protocol
      at true q = sym (off_room t h (ltb-true t.offcount 4 q))
      at false q = sym (off_full t h (ltb-false t.offcount 4 q))

-- what may fail, and does not
pub sure : {A E P : Type 0} (r : Result A E) (b : Bool) → OnOk r P → OnErr r (b ≡ false) → b ≡ true → P
sure (Ok x) b ok err q = ok
sure (Err x) b ok err q = never (sym err ∙ q)

-- ---- a table in its form keeps the limits

pub table_fits : (t : Table) → IsTable t → model_room.fits (state_of t).protocol ≡ true
unfolding state_of
table_fits t h =
    fits_test (state_of t).protocol (record {
      offs = omega (arith, off_count t h, h.offs.fits);
      ons = omega (arith, on_count t h, h.ons.fits);
      each_off = all_b-map model_room.fits_off off_of (take t.offcount t.offs) ∙ all_b-all (λ c. model_room.fits_off (off_of c)) no_off_channel (take t.offcount t.offs) (λ i lt. off_fits _ (h.each_off i no_off_channel lt));
      each_on = all_b-map model_room.fits_on on_of (take t.oncount t.ons) ∙ all_b-all (λ c. model_room.fits_on (on_of c)) no_on_channel (take t.oncount t.ons) (λ i lt. on_fits _ (h.each_on i no_on_channel lt));
    })

-- ---- the time set

pub time_form : (t : Table) (time : ℕ) → IsTable t → IsTable (record t { latest = time })
time_form t time h = record { forwarding = h.forwarding; offs = h.offs; each_off = h.each_off; ons = h.ons; each_on = h.each_on }

pub time_state : (t : Table) (time : ℕ) → state_of (record t { latest = time }) ≡ model.with_time time (state_of t)
unfolding state_of
time_state t time = refl

pub latest_is : (t : Table) → t.latest ≡ (state_of t).latest
unfolding state_of
latest_is t = refl

pub forwarding_is : (t : Table) → is_set t.forwarding ≡ (state_of t).protocol.forwarding
unfolding state_of
forwarding_is t = refl

pub prefix_is : (t : Table) → t.prefix ≡ (state_of t).protocol.prefix
unfolding state_of
prefix_is t = refl
