-- What each way through a delivery and through forwarding out owes: the whole table, and the answer. Assumes nothing.
use Rattle.std.proofs.Common.{◌≡◌, ℕ, ◌≤◌, ◌<◌, Bool, true, false, List, refl, ap, sym, subst, ◌∙◌}
use Rattle.std.specs.Prelude.{Result, Ok, Err}
use Rattle.packet.specs.declared.Record.{Record}
use Rattle.packet.specs.declared.View.{View}
use Rattle.packet.specs.Data.{is_set, well_made}
use Rattle.packet.specs.declared.Refusal.{Refusal}
use Rattle.packet.specs.declared.Refusal.TheVariants.{NotWellFormed, OutOfRange, TimeBelow}
use Rattle.model.specs.State as model
use Rattle.model.specs.Calls as call
use Rattle.model.specs.Port as port
use Rattle.chan.specs.declared.records.Way.TheVariants.{In, Out}
use Rattle.tab.specs.declared.Table.{Table}
use Rattle.tab.specs.declared.delivery.Delivery.{Delivery}
use Rattle.tab.specs.Tables.{IsTable, state_of}
use Rattle.tab.specs.Test.{wfb}
use Rattle.tab.specs.Calls.{called, delivery_of, answer_of, view_in}
use Rattle.tab.specs.Played.{Step, step_of, result_of, none_played, after, on_placed, off_placed, out_if, out_placed}
use Rattle.tab.proofs.Called.{granted, answered, refused, refusal}
use Rattle.tab.proofs.Put.{table_fits, time_state, latest_is, forwarding_is, prefix_is}
use Rattle.tab.proofs.Stepped.{record_malformed, record_on_placed, record_off_placed}
use Rattle.tab.proofs.Delivered.{answer_is, delivered, not_made, not_in_time}
use Rattle.tab.proofs.Forwarded.{step_of_reply, out_malformed, out_early, out_is}

-- ---- one record

module _ (t : Table) (h : IsTable t) (time a : ℕ) (r : Record) where
  abbrev said : port.Recorded
  said = port.record_step time a r (state_of t)

  pub malformed_result : (b : Bool) → b ≡ well_made r → b ≡ false → Err OutOfRange ≡ result_of (port.record_step time a r (state_of t)).result
  malformed_result b q n = ap (λ (w : port.Recorded). result_of w.result) (sym (record_malformed time a r (state_of t) (sym q ∙ n)))

  pub malformed_state : (b : Bool) → b ≡ well_made r → b ≡ false → state_of t ≡ (port.record_step time a r (state_of t)).state
  malformed_state b q n = ap (λ (w : port.Recorded). w.state) (sym (record_malformed time a r (state_of t) (sym q ∙ n)))

  pub came_on : (f : Bool) → f ≡ is_set t.forwarding → well_made r ≡ true → is_set r.on ≡ true → on_placed (In f) r.prefix time a r (state_of t) ≡ step_of (port.record_step time a r (state_of t))
  came_on f e w o = (λ j. on_placed (In ((e ∙ forwarding_is t) j)) r.prefix time a r (state_of t)) ∙ sym (record_on_placed time a r (state_of t) (table_fits t h) w o)

  pub came_off : (f : Bool) → f ≡ is_set t.forwarding → well_made r ≡ true → is_set r.on ≡ false → off_placed (In f) r.prefix time a r (state_of t) ≡ step_of (port.record_step time a r (state_of t))
  came_off f e w o = (λ j. off_placed (In ((e ∙ forwarding_is t) j)) r.prefix time a r (state_of t)) ∙ sym (record_off_placed time a r (state_of t) (table_fits t h) w o)

-- forwarded out: the last prefix stays
module _ (t : Table) (time a : ℕ) (r : Record) where
  pub sent_on : is_set r.on ≡ true → on_placed Out t.prefix time a r (state_of t) ≡ out_placed time a r (state_of t)
  sent_on h = (λ j. on_placed Out (prefix_is t j) time a r (state_of t)) ∙ ap (λ (b : Bool). out_if b time a r (state_of t)) (sym h)

  pub sent_off : is_set r.on ≡ false → off_placed Out t.prefix time a r (state_of t) ≡ out_placed time a r (state_of t)
  sent_off h = (λ j. off_placed Out (prefix_is t j) time a r (state_of t)) ∙ ap (λ (b : Bool). out_if b time a r (state_of t)) (sym h)

-- ---- a delivery

module _ (t : Table) (time a : ℕ) (rs : List Record) (b : Bool) (q : b ≡ wfb t) where
  abbrev e : call.Call
  e = call.accept time a rs

  pub one_table : b ≡ false → t ≡ (called (call.accept time a rs) t).table
  one_table n = refused e t (sym q ∙ n)

  pub one_answer : (d : Delivery) → d ≡ record { count = 0; last = Err NotWellFormed } → b ≡ false → d ≡ delivery_of (called (call.accept time a rs) t).answer
  one_answer d y n = y ∙ ap delivery_of (sym (refusal e t (sym q ∙ n)))

  module _ (n : b ≡ true) (h : IsTable t) (m : Bool) (p : m ≡ port.delivery_made rs) where
    test : wfb t ≡ true
    test = sym q ∙ n

    by_reply : (x : port.Reply) → port.reply e (state_of t) ≡ x → (u : Table) → IsTable u → state_of u ≡ x.state → u ≡ (called e t).table
    by_reply x y u k s = granted e t u test k (s ∙ ap (λ (z : port.Reply). z.state) (sym y))

    by_answer : (x : port.Reply) → port.reply e (state_of t) ≡ x → delivery_of x.answer ≡ delivery_of (called e t).answer
    by_answer x y = ap (λ (z : port.Reply). delivery_of z.answer) (sym y) ∙ ap delivery_of (sym (answered e t test))

    two : m ≡ false → port.reply e (state_of t) ≡ record { answer = call.undelivered OutOfRange 0; state = state_of t }
    two k = not_made time a rs (state_of t) (sym p ∙ k)

    pub two_table : m ≡ false → t ≡ (called (call.accept time a rs) t).table
    two_table k = by_reply _ (two k) t h refl

    pub two_answer : (d : Delivery) → d ≡ record { count = 0; last = Err OutOfRange } → m ≡ false → d ≡ delivery_of (called (call.accept time a rs) t).answer
    two_answer d y k = y ∙ by_answer _ (two k)

    three : m ≡ true → time < t.latest → port.reply e (state_of t) ≡ record { answer = call.undelivered TimeBelow 0; state = state_of t }
    three k l = not_in_time time a rs (state_of t) (sym p ∙ k) (subst (λ x. time < x) (latest_is t) l)

    pub three_table : m ≡ true → time < t.latest → t ≡ (called (call.accept time a rs) t).table
    three_table k l = by_reply _ (three k l) t h refl

    pub three_answer : (d : Delivery) → d ≡ record { count = 0; last = Err TimeBelow } → m ≡ true → time < t.latest → d ≡ delivery_of (called (call.accept time a rs) t).answer
    three_answer d y k l = y ∙ by_answer _ (three k l)

    all : m ≡ true → t.latest ≤ time → port.reply e (state_of t) ≡ port.played_reply (port.play time a rs (model.with_time time (state_of t)))
    all k l = delivered time a rs (state_of t) (sym p ∙ k) (subst (λ x. x ≤ time) (latest_is t) l)

    pub all_table : m ≡ true → t.latest ≤ time → (u : Table) → IsTable u → state_of u ≡ (port.play time a rs (state_of (record t { latest = time }))).state → u ≡ (called (call.accept time a rs) t).table
    all_table k l u w s = by_reply _ (all k l) u w (s ∙ ap (λ (z : model.State). (port.play time a rs z).state) (time_state t time))

    pub all_answer : m ≡ true → t.latest ≤ time → (d : Delivery) → d ≡ after none_played (port.play time a rs (state_of (record t { latest = time }))).results → d ≡ delivery_of (called (call.accept time a rs) t).answer
    all_answer k l d y =
        y
        ∙ ap (λ (z : model.State). after none_played (port.play time a rs z).results) (time_state t time)
        ∙ answer_is (port.play time a rs (model.with_time time (state_of t)))
        ∙ by_answer _ (all k l)

-- ---- forwarded out

module _ (t : Table) (time a : ℕ) (r : Record) (b : Bool) (q : b ≡ wfb t) where
  abbrev o : call.Call
  o = call.accept_out time a r

  abbrev view_of : call.Answer → Result View Refusal
  view_of x = answer_of view_in x

  pub out_one_table : b ≡ false → t ≡ (called (call.accept_out time a r) t).table
  out_one_table n = refused o t (sym q ∙ n)

  pub out_one_answer : b ≡ false → Err NotWellFormed ≡ answer_of view_in (called (call.accept_out time a r) t).answer
  unfolding answer_of
  out_one_answer n = ap view_of (sym (refusal o t (sym q ∙ n)))

  module _ (n : b ≡ true) (h : IsTable t) (m : Bool) (p : m ≡ well_made r) where
    out_test : wfb t ≡ true
    out_test = sym q ∙ n

    out_reply : (x : port.Reply) → port.reply o (state_of t) ≡ x → (u : Table) → IsTable u → state_of u ≡ x.state → u ≡ (called o t).table
    out_reply x y u k s = granted o t u out_test k (s ∙ ap (λ (z : port.Reply). z.state) (sym y))

    out_answer : (x : port.Reply) → port.reply o (state_of t) ≡ x → view_of x.answer ≡ view_of (called o t).answer
    out_answer x y = ap (λ (z : port.Reply). view_of z.answer) (sym y) ∙ ap view_of (sym (answered o t out_test))

    out_two : m ≡ false → port.reply o (state_of t) ≡ record { answer = call.refused OutOfRange; state = state_of t }
    out_two k = out_malformed time a r (state_of t) (sym p ∙ k)

    pub out_two_table : m ≡ false → t ≡ (called (call.accept_out time a r) t).table
    out_two_table k = out_reply _ (out_two k) t h refl

    pub out_two_answer : m ≡ false → Err OutOfRange ≡ answer_of view_in (called (call.accept_out time a r) t).answer
    unfolding answer_of
    out_two_answer k = out_answer _ (out_two k)

    out_three : m ≡ true → time < t.latest → port.reply o (state_of t) ≡ record { answer = call.refused TimeBelow; state = state_of t }
    out_three k l = out_early time a r (state_of t) (sym p ∙ k) (subst (λ x. time < x) (latest_is t) l)

    pub out_three_table : m ≡ true → time < t.latest → t ≡ (called (call.accept_out time a r) t).table
    out_three_table k l = out_reply _ (out_three k l) t h refl

    pub out_three_answer : m ≡ true → time < t.latest → Err TimeBelow ≡ answer_of view_in (called (call.accept_out time a r) t).answer
    unfolding answer_of
    out_three_answer k l = out_answer _ (out_three k l)

    out_all : m ≡ true → t.latest ≤ time → out_placed time a r (state_of (record t { latest = time })) ≡ step_of_reply (port.reply o (state_of t))
    out_all k l =
        ap (λ (z : model.State). out_placed time a r z) (time_state t time)
        ∙ sym (out_is time a r (state_of t) (table_fits t h) (sym p ∙ k) (subst (λ x. x ≤ time) (latest_is t) l))

    pub out_all_table : m ≡ true → t.latest ≤ time → (u : Table) → IsTable u → state_of u ≡ (out_placed time a r (state_of (record t { latest = time }))).state → u ≡ (called (call.accept_out time a r) t).table
    out_all_table k l u w s = out_reply _ refl u w (s ∙ ap (λ (z : Step). z.state) (out_all k l))

    pub out_all_answer : m ≡ true → t.latest ≤ time → (x : Result View Refusal) → x ≡ (out_placed time a r (state_of (record t { latest = time }))).answer → x ≡ answer_of view_in (called (call.accept_out time a r) t).answer
    out_all_answer k l x y = y ∙ ap (λ (z : Step). z.answer) (out_all k l) ∙ out_answer _ refl
