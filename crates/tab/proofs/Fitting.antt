-- Which answers a call can give: a refusal, or the one kind that it has a value for. So the number of its answer is that of its result.
use Rattle.std.proofs.Common.{◌≡◌, ℕ, Bool, true, false, List, [], ◌∷◌, refl, length, ap, ◌∙◌, sym}
use Rattle.std.specs.Prelude.{Result}
use Rattle.std.specs.declared.option.Option.{Option}
use Rattle.std.specs.declared.option.Option.TheVariants.{None, Some}
use Rattle.list.proofs.Pad.{never}
use Rattle.packet.specs.declared.Record.{Record}
use Rattle.packet.specs.declared.Key.{Key}
use Rattle.packet.specs.declared.Refusal.{Refusal}
use Rattle.model.specs.State as model
use Rattle.model.specs.State.{State, Protocol}
use Rattle.model.specs.Record.{Outcome, granted, rejected, far_fragment, bare_run}
use Rattle.model.specs.Calls as call
use Rattle.model.specs.Calls.{Call, Answer, refused, delivered, undelivered, found, no_bundle, bundle, prepared, done, resends, held, prefix_is}
use Rattle.model.specs.Port as port
use Rattle.model.specs.Port.{reply, answer_one, accept_s, deliver, delivery_answer, last_result, count, play, takes, refuses, accept_out_s, forward, judge_out, room_out, channel_s, find, next_bundle_s, next_of, next, hand_out, prepare_s, send, room_send, acks_written_s, wrote_of, wrote, wrote_if, take_resends_s, resend}
use Rattle.tab.specs.declared.Table.{Table}
use Rattle.tab.specs.declared.delivery.Delivery.{Delivery}
use Rattle.tab.specs.Tables.{state_of}
use Rattle.tab.specs.Test.{wfb}
use Rattle.tab.specs.Answers.{code_in, code_of}
use Rattle.tab.specs.Calls.{called, answer_of, answer_or, delivery_of, view_in, bundle_in, prepared_in, done_in, rows_in, held_in, prefix_in}

abbrev pub there : {X : Type 0} → Option X → Bool
there None = false
there (Some x) = true

module _ {X : Type 0} (value : Answer → Option X) where
  -- a refusal, or an answer with a value
  abbrev pub fitting : Answer → Bool
  fitting (refused x) = true
  fitting (delivered v n) = there (value (delivered v n))
  fitting (undelivered x n) = false
  fitting (found v) = there (value (found v))
  fitting no_bundle = there (value no_bundle)
  fitting (bundle b) = there (value (bundle b))
  fitting (prepared p) = there (value (prepared p))
  fitting done = there (value done)
  fitting (resends xs) = there (value (resends xs))
  fitting (held b) = there (value (held b))
  fitting (prefix_is p) = there (value (prefix_is p))

  granted-code : (o : Option X) → there o ≡ true → 0 ≡ code_in (answer_or value o)
  granted-code None h = never h
  granted-code (Some x) h = refl

  -- the number of the answer is the number of the result
  pub code-fits : (a : Answer) → fitting a ≡ true → code_of a ≡ code_in (answer_of value a)
  unfolding answer_of
  code-fits (refused x) h = refl
  code-fits (delivered v n) h = granted-code _ h
  code-fits (undelivered x n) h = never h
  code-fits (found v) h = granted-code _ h
  code-fits no_bundle h = granted-code _ h
  code-fits (bundle b) h = granted-code _ h
  code-fits (prepared p) h = granted-code _ h
  code-fits done h = granted-code _ h
  code-fits (resends xs) h = granted-code _ h
  code-fits (held b) h = granted-code _ h
  code-fits (prefix_is p) h = granted-code _ h

  -- so is the number of what the call answers
  pub code-says : (r : Result X Refusal) (a : Answer) → r ≡ answer_of value a → fitting a ≡ true → code_in r ≡ code_of a
  code-says r a e h = ap code_in e ∙ sym (code-fits a h)

  -- on any table
  module _ (e : Call) (one : fitting (answer_one e) ≡ true) (own : (s : State) → fitting (reply e s).answer ≡ true) (t : Table) where
    pub call-fits : fitting (called e t).answer ≡ true
    unfolding called
    call-fits = at (wfb t) refl
      where
        at : (b : Bool) → wfb t ≡ b → fitting (called e t).answer ≡ true
        at true q = rw q (own (state_of t))
        at false q = rw q one

-- ---- each call

module _ (t a : ℕ) (r : Record) (s : State) where
  room-out-fits : (b : Bool) (p : Protocol) → fitting view_in (room_out b t a r p s).answer ≡ true
  room-out-fits true p = refl
  room-out-fits false p = refl

  judge-out-fits : (o : Outcome Protocol) → fitting view_in (judge_out o t a r s).answer ≡ true
  judge-out-fits (granted p) = room-out-fits _ p
  judge-out-fits (rejected x p) = refl
  judge-out-fits far_fragment = refl
  judge-out-fits (bare_run p) = room-out-fits _ p

  forward-fits : (x y z : Bool) → fitting view_in (forward x y z t a r s).answer ≡ true
  forward-fits false y z = refl
  forward-fits true false z = refl
  forward-fits true true false = refl
  forward-fits true true true = judge-out-fits _

  pub accept-out-fits : fitting view_in (reply (call.accept_out t a r) s).answer ≡ true
  unfolding reply accept_out_s
  accept-out-fits = forward-fits _ _ _

module _ (k : Key) (s : State) where
  find-fits : (x y : Bool) → fitting view_in (find x y k s).answer ≡ true
  find-fits false y = refl
  find-fits true false = refl
  find-fits true true = refl

  pub channel-fits : fitting view_in (reply (call.channel k) s).answer ≡ true
  unfolding reply channel_s
  channel-fits = find-fits _ _

  module _ (l : List ℕ) where
    hand-out-fits : (x : Bool) (b : List ℕ) (bs : List (List ℕ)) → fitting bundle_in (hand_out x k b bs s).answer ≡ true
    hand-out-fits true b bs = refl
    hand-out-fits false b bs = refl

    next-list-fits : (bs : List (List ℕ)) → fitting bundle_in (next bs k (length l) s).answer ≡ true
    next-list-fits [] = refl
    next-list-fits (b ∷ bs) = hand-out-fits _ b bs

    next-of-fits : (x y : Bool) → fitting bundle_in (next_of x y k (length l) s).answer ≡ true
    next-of-fits false y = refl
    next-of-fits true false = refl
    next-of-fits true true = next-list-fits _

    pub next-fits : fitting bundle_in (reply (call.next_bundle k l) s).answer ≡ true
    unfolding reply next_bundle_s
    next-fits = next-of-fits _ _

  module _ (t : ℕ) (reliable : Bool) (hs : List ℕ) where
    room-send-fits : (x : Bool) → fitting prepared_in (room_send x t k reliable hs s).answer ≡ true
    room-send-fits true = refl
    room-send-fits false = refl

    send-fits : (x y z : Bool) → fitting prepared_in (send x y z t k reliable hs s).answer ≡ true
    send-fits false y z = refl
    send-fits true false z = refl
    send-fits true true false = refl
    send-fits true true true = room-send-fits _

  pub prepare-fits : (t reliable : ℕ) (hs : List ℕ) → fitting prepared_in (reply (call.prepare t k reliable hs) s).answer ≡ true
  unfolding reply prepare_s
  prepare-fits t reliable hs = send-fits t _ hs _ _ _

  wrote-if-fits : (x : Bool) (qs : List ℕ) → fitting done_in (wrote_if x qs k s).answer ≡ true
  wrote-if-fits true qs = refl
  wrote-if-fits false qs = refl

  wrote-list-fits : (o : Option (List ℕ)) → fitting done_in (wrote o k s).answer ≡ true
  wrote-list-fits None = refl
  wrote-list-fits (Some qs) = wrote-if-fits _ qs

  wrote-of-fits : (x : Bool) (ns : List ℕ) → fitting done_in (wrote_of x k ns s).answer ≡ true
  wrote-of-fits false ns = refl
  wrote-of-fits true ns = wrote-list-fits _

  pub written-fits : (ns : List ℕ) → fitting done_in (reply (call.acks_written k ns) s).answer ≡ true
  unfolding reply acks_written_s
  written-fits ns = wrote-of-fits _ ns

module _ (t timeout give_up : ℕ) (l : List ℕ) (s : State) where
  resend-fits : (x y : Bool) → fitting rows_in (resend x y t timeout give_up s).answer ≡ true
  resend-fits false y = refl
  resend-fits true false = refl
  resend-fits true true = refl

  pub resends-fits : fitting rows_in (reply (call.take_resends t timeout give_up l) s).answer ≡ true
  unfolding reply take_resends_s
  resends-fits = resend-fits _ _

pub reset-fits : (s : State) → fitting done_in (reply call.reset_prefix_offset s).answer ≡ true
unfolding reply
reset-fits s = refl

pub transfer-fits : (s : State) → fitting done_in (reply call.transfer_prefix_offset s).answer ≡ true
unfolding reply
transfer-fits s = refl

pub holds-fits : (h : ℕ) (s : State) → fitting held_in (reply (call.holds h) s).answer ≡ true
unfolding reply
holds-fits h s = refl

pub last-fits : (s : State) → fitting prefix_in (reply call.last_accepted_prefix s).answer ≡ true
unfolding reply
last-fits s = refl

-- ---- a delivery: a refusal, or how it went

abbrev pub arrived : Answer → Bool
arrived (refused x) = true
arrived (delivered v n) = true
arrived (undelivered x n) = true
arrived (found v) = false
arrived no_bundle = false
arrived (bundle b) = false
arrived (prepared p) = false
arrived done = false
arrived (resends xs) = false
arrived (held b) = false
arrived (prefix_is p) = false

code-arrived : (a : Answer) → arrived a ≡ true → code_of a ≡ code_in (delivery_of a).last
code-arrived (refused x) h = refl
code-arrived (delivered v n) h = refl
code-arrived (undelivered x n) h = refl
code-arrived (found v) h = never h
code-arrived no_bundle h = never h
code-arrived (bundle b) h = never h
code-arrived (prepared p) h = never h
code-arrived done h = never h
code-arrived (resends xs) h = never h
code-arrived (held b) h = never h
code-arrived (prefix_is p) h = never h

arrived-result : (q : port.Result) (n : ℕ) → arrived (delivery_answer q n) ≡ true
arrived-result (takes v) n = refl
arrived-result (refuses x) n = refl

arrived-deliver : (made on_time : Bool) (t a : ℕ) (rs : List Record) (s : State) → arrived (deliver made on_time t a rs s).answer ≡ true
arrived-deliver false on_time t a rs s = refl
arrived-deliver true false t a rs s = refl
arrived-deliver true true t a rs s = let p = play t a rs (model.with_time t s) in arrived-result (last_result p.results) (count p.results)

arrived-reply : (time a : ℕ) (rs : List Record) (s : State) → arrived (reply (call.accept time a rs) s).answer ≡ true
unfolding reply accept_s
arrived-reply time a rs s = arrived-deliver _ _ time a rs s

pub came : (time a : ℕ) (rs : List Record) (t : Table) → arrived (called (call.accept time a rs) t).answer ≡ true
unfolding called
came time a rs t = at (wfb t) refl
  where
    at : (b : Bool) → wfb t ≡ b → arrived (called (call.accept time a rs) t).answer ≡ true
    at true q = rw q (arrived-reply time a rs (state_of t))
    at false q = rw q refl

pub delivery-code : (time a : ℕ) (rs : List Record) (t : Table) (d : Delivery) → d ≡ delivery_of (called (call.accept time a rs) t).answer → code_in d.last ≡ code_of (called (call.accept time a rs) t).answer
delivery-code time a rs t d e = ap (λ (x : Delivery). code_in x.last) e ∙ sym (code-arrived _ (came time a rs t))
