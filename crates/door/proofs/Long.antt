-- A list that is too long is refused, by 2 or by 1, and changes nothing.
use Rattle.std.proofs.Common.{◌≡◌, ℕ, suc, ◌≤◌, ◌<◌, Bool, true, false, cond, List, [], ◌∷◌, refl, sym, ap, arith, ◌∙◌, length}
use borrow.Author.Tests.{lt-leb}
use lib.Dec.{leb}
use mathlib.Core.Bool.{◌&&◌, and-false}
use Rattle.list.specs.Pad.{pad}
use Rattle.list.proofs.Pad.{length-pad}
use Rattle.packet.specs.declared.Key.{Key}
use Rattle.packet.specs.declared.Refusal.{Refusal}
use Rattle.packet.specs.declared.Refusal.TheVariants.{NotWellFormed, OutOfRange}
use Rattle.packet.specs.Refusals.{number}
use Rattle.packet.specs.Data.{is_set, is_flag, key_made, key_index}
use Rattle.model.specs.State.{State}
use Rattle.model.specs.Rust.{has_key}
use Rattle.model.specs.Calls as call
use Rattle.model.specs.Port.{Reply, reply, prepare_s, send, asked, on_time, refuse, untimed}
use Rattle.tab.specs.declared.Table.{Table}
use Rattle.tab.specs.Tables.{state_of, repr}
use Rattle.tab.specs.Test.{wfb}
use Rattle.std.specs.Prelude.{Result, Ok, Err}
use Rattle.list.proofs.Joined.{length-joined_head}
use Rattle.model.specs.Port.{next_bundle_s, next_of, next, hand_out}
use Rattle.tab.specs.Calls.{TableReply, called, answer_of, bundle_in}
use Rattle.tab.specs.Answers.{code_of, prepared_of, no_prepared}
use Rattle.tab.proofs.Called.{granted, answered, refused, refusal}
use mathlib.Core.Path.{subst}
use Rattle.std.specs.declared.option.Option.{Option}
use Rattle.std.specs.declared.option.Option.TheVariants.{None, Some}
use Rattle.list.specs.Pad.{all_b}
use Rattle.list.specs.Find.{has, remove_first, joined}
use Rattle.list.proofs.Find.{length_remove_here}
use Rattle.list.proofs.Tests.{all_b-find}
use Rattle.list.proofs.Pad.{never}
use Rattle.model.specs.State as model
use Rattle.model.specs.Acks.{is, take_written}
use Rattle.model.specs.Room.{fits, fits_data, fits_off, fits_on}
use Rattle.model.specs.Rust.{data_if, data_of, first_version}
use Rattle.model.specs.Port.{acks_written_s, wrote_of, wrote, queue_if}
use Rattle.model.proofs.Room.{fits_data_facts, fits_data_test, fits-on_facts, fits_facts}
use Rattle.tab.proofs.Put.{table_fits}
use Rattle.tab.specs.Tables.{IsTable}
use Rattle.tab.proofs.TestForms.{test_well}
use Rattle.door.specs.declared.Handles.{Handles}
use Rattle.door.specs.declared.Names.{Names}
use Rattle.door.specs.Numbers.{names_of}
use Rattle.door.specs.Numbers.{handles_of}

pub handles-long : (h : Handles) → 16 < h.count → 16 < length (handles_of h)
handles-long h lt = let n : length (pad h.count 0 h.handles) ≡ h.count = length-pad h.count 0 h.handles in omega (arith, n)

-- why a call with such a list is refused
abbrev pub why : Table → Refusal
why t = cond (wfb t) OutOfRange NotWellFormed

module _ (time : ℕ) (k : Key) (reliable : ℕ) (hs : List ℕ) (long : 16 < length hs) where
  not-asked : asked k reliable (length hs) ≡ false
  not-asked = rw (lt-leb (length hs) 16 long) (and-false (key_made k && is_flag reliable))

  send-reply : (s : State) → reply (call.prepare time k reliable hs) s ≡ refuse OutOfRange (untimed s)
  unfolding reply prepare_s
  send-reply s = ap (λ (b : Bool). send b (on_time time s) (has_key k s.protocol) time k (is_set reliable) hs s) not-asked

  module _ (t : Table) where
    pub send-table : t ≡ (called (call.prepare time k reliable hs) t).table
    send-table = at (wfb t) refl
      where
        at : (b : Bool) → wfb t ≡ b → t ≡ (called (call.prepare time k reliable hs) t).table
        at true q = granted (call.prepare time k reliable hs) t t q (test_well t q).form (sym (ap (λ (r : Reply). r.state) (send-reply (state_of t))))
        at false q = refused (call.prepare time k reliable hs) t q

    pub send-answer : (called (call.prepare time k reliable hs) t).answer ≡ call.refused (why t)
    send-answer = at (wfb t) refl
      where
        at : (b : Bool) → wfb t ≡ b → (called (call.prepare time k reliable hs) t).answer ≡ call.refused (why t)
        at true q = answered (call.prepare time k reliable hs) t q ∙ ap (λ (r : Reply). r.answer) (send-reply (state_of t)) ∙ rw q refl
        at false q = refusal (call.prepare time k reliable hs) t q ∙ rw q refl

-- ---- the acks that were written: more names than a queue has numbers

pub names-long : (n : Names) → 64 < n.count → 64 < length (names_of n)
names-long n lt = let e : length (pad n.count 0 n.numbers) ≡ n.count = length-pad n.count 0 n.numbers in omega (arith, e)

take-long : (ns qs : List ℕ) → length qs < length ns → take_written ns qs ≡ None
unfolding take_written
take-long [] qs h = absurd (omega arith)
take-long (n ∷ ns) qs h = at (has (is n) qs) refl (λ k. take-long ns (remove_first (is n) qs) k)
  where
    at : (b : Bool) → has (is n) qs ≡ b → (length (remove_first (is n) qs) < length ns → take_written ns (remove_first (is n) qs) ≡ None) → cond (has (is n) qs) (take_written ns (remove_first (is n) qs)) None ≡ None
    at true q again = let e : suc (length (remove_first (is n) qs)) ≡ length qs = length_remove_here (is n) qs q in rw q (again (omega (arith, e)))
    at false q again = rw q refl

new-off-fits : (a : ℕ) → fits_off (model.new_off a) ≡ true
unfolding fits_data all_b joined
new-off-fits a = refl

new-on-fits : (a i v : ℕ) → fits_on (model.new_on a i v) ≡ true
unfolding fits_data all_b joined
new-on-fits a i v = refl

-- what the channel of a key has keeps the limits
pub data-fits : (k : Key) (p : model.Protocol) → fits p ≡ true → (b : Bool) → fits_data (data_if b k p) ≡ true
data-fits k p h true =
    let a = k.address in
    let i = key_index k in
    let v = first_version k in
    let f : fits_on (model.on_at a i v p) ≡ true = all_b-find fits_on (model.is_on a i) (model.new_on a i v) p.ons (new-on-fits a i v) (fits_facts p h).each_on in
    fits_data_test (model.on_at a i v p).off (fits-on_facts (model.on_at a i v p) f).common
data-fits k p h false = all_b-find fits_off (model.is_off k.address) (model.new_off k.address) p.offs (new-off-fits k.address) (fits_facts p h).each_off

module _ (k : Key) (ns : List ℕ) (long : 64 < length ns) where
  few-queued : (s : State) → fits s.protocol ≡ true → (b : Bool) → length (queue_if b k s) ≤ 64
  few-queued s h true = (fits_data_facts (data_of k s.protocol) (data-fits k s.protocol h (is_set k.on))).acks
  few-queued s h false = omega arith

  wrote-made : (s : State) → fits s.protocol ≡ true → (b : Bool) → wrote_of b k ns s ≡ refuse OutOfRange (untimed s)
  wrote-made s h false = refl
  wrote-made s h true =
      let q = queue_if (has_key k s.protocol) k s in
      let few : length q ≤ 64 = few-queued s h (has_key k s.protocol) in
      ap (λ (o : Option (List ℕ)). wrote o k s) (take-long ns q (omega arith))

  wrote-reply : (s : State) → fits s.protocol ≡ true → reply (call.acks_written k ns) s ≡ refuse OutOfRange (untimed s)
  unfolding reply acks_written_s
  wrote-reply s h = wrote-made s h (key_made k)

  module _ (t : Table) where
    fitting : wfb t ≡ true → fits (state_of t).protocol ≡ true
    fitting q = table_fits t (test_well t q).form

    pub wrote-table : t ≡ (called (call.acks_written k ns) t).table
    wrote-table = at (wfb t) refl
      where
        at : (b : Bool) → wfb t ≡ b → t ≡ (called (call.acks_written k ns) t).table
        at true q = granted (call.acks_written k ns) t t q (test_well t q).form (sym (ap (λ (r : Reply). r.state) (wrote-reply (state_of t) (fitting q))))
        at false q = refused (call.acks_written k ns) t q

    pub wrote-answer : (called (call.acks_written k ns) t).answer ≡ call.refused (why t)
    wrote-answer = at (wfb t) refl
      where
        at : (b : Bool) → wfb t ≡ b → (called (call.acks_written k ns) t).answer ≡ call.refused (why t)
        at true q = answered (call.acks_written k ns) t q ∙ ap (λ (r : Reply). r.answer) (wrote-reply (state_of t) (fitting q)) ∙ rw q refl
        at false q = refusal (call.acks_written k ns) t q ∙ rw q refl

-- ---- a bundle has at most 64 handles

abbrev pub bundle-size : Result (Option ℕ) Refusal → ℕ
bundle-size (Ok None) = 0
bundle-size (Ok (Some n)) = n
bundle-size (Err x) = 0

module _ (k : Key) (l : List ℕ) (s : State) (h : fits s.protocol ≡ true) where
  hand-small : (x : Bool) (b : List ℕ) (bs : List (List ℕ)) → length b ≤ 64 → bundle-size (answer_of bundle_in (hand_out x k b bs s).answer) ≤ 64
  unfolding answer_of
  hand-small true b bs small = small
  hand-small false b bs small = omega arith

  next-small : (bs : List (List ℕ)) → length (joined bs) ≤ 64 → bundle-size (answer_of bundle_in (next bs k (length l) s).answer) ≤ 64
  unfolding answer_of
  next-small [] few = omega arith
  next-small (b ∷ bs) few = let one = length-joined_head b bs in hand-small (leb (length b) (length l)) b bs (omega arith)

  of-small : (made here : Bool) → bundle-size (answer_of bundle_in (next_of made here k (length l) s).answer) ≤ 64
  unfolding answer_of
  of-small false here = omega arith
  of-small true false = omega arith
  of-small true true = next-small (data_of k s.protocol).bundles (fits_data_facts (data_of k s.protocol) (data-fits k s.protocol h (is_set k.on))).handles

  reply-small : bundle-size (answer_of bundle_in (reply (call.next_bundle k l) s).answer) ≤ 64
  unfolding reply next_bundle_s
  reply-small = of-small _ _

one-small : (k : Key) → bundle-size (answer_of bundle_in (call.refused NotWellFormed)) ≤ 64
unfolding answer_of
one-small k = omega arith

pub bundle-small : (k : Key) (l : List ℕ) (t : Table) → bundle-size (answer_of bundle_in (called (call.next_bundle k l) t).answer) ≤ 64
bundle-small k l t = at (wfb t) refl
  where
    small : call.Answer → Type 0
    small a = bundle-size (answer_of bundle_in a) ≤ 64

    at : (b : Bool) → wfb t ≡ b → bundle-size (answer_of bundle_in (called (call.next_bundle k l) t).answer) ≤ 64
    at true q = subst small (sym (answered (call.next_bundle k l) t q)) (reply-small k l (state_of t) (table_fits t (test_well t q).form))
    at false q = subst small (sym (refusal (call.next_bundle k l) t q)) (one-small k)

pub popped-small : (k : Key) (l : List ℕ) (t : Table) (r : Result (Option ℕ) Refusal) (n : ℕ) → r ≡ answer_of bundle_in (called (call.next_bundle k l) t).answer → r ≡ Ok (Some n) → n ≤ 64
popped-small k l t r n e q = subst (λ (x : Result (Option ℕ) Refusal). bundle-size x ≤ 64) (sym e ∙ q) (bundle-small k l t)
