-- What the exits of `deliver`, `pop` and `step` owe: the text of an answer, from what the call's result says.
use Rattle.std.proofs.Common.{◌≡◌, ℕ, ◌≤◌, Bool, true, false, List, [], ◌∷◌, length, take, drop, refl, sym, ap, subst, arith, ◌∙◌}
use borrow.Author.Tests.{leb-true}
use lib.Dec.{leb}
use lib.Seq.{take-append_seam}
use Rattle.std.specs.Prelude.{Result, Ok, Err}
use Rattle.std.specs.declared.option.Option.{Option}
use Rattle.std.specs.declared.option.Option.TheVariants.{None, Some}
use Rattle.packet.specs.declared.Record.{Record}
use Rattle.packet.specs.declared.Key.{Key}
use Rattle.packet.specs.declared.View.{View}
use Rattle.packet.specs.declared.Refusal.{Refusal}
use Rattle.packet.specs.Refusals.{number}
use Rattle.model.specs.State as model
use Rattle.model.specs.Rust.{data_of}
use Rattle.model.specs.Calls as call
use Rattle.model.specs.Calls.{Call, Answer, refused, delivered, undelivered, found, no_bundle, bundle, prepared, done, resends, held, prefix_is, lent}
use Rattle.model.specs.Port.{Result as Outcome, takes, refuses, reply, answer_one, accept_s, deliver, delivery_answer, last_result, count, play, next_bundle_s, next_of, next, hand_out}
use Rattle.tab.specs.declared.Table.{Table}
use Rattle.tab.specs.declared.delivery.Delivery.{Delivery}
use Rattle.tab.specs.Tables.{state_of}
use Rattle.tab.specs.Test.{wfb}
use Rattle.tab.specs.Calls.{called, delivery_of, answer_of, bundle_in}
use Rattle.writing.specs.Answers.{ok_line, no_line, none_line, bundle_line}
use Rattle.writing.specs.Wrote.{Wrote}
use Rattle.writing.proofs.Places.{retold}
use Rattle.reading.specs.declared.Command.{Command}
use Rattle.reading.specs.declared.Command.TheVariants.{In, Pop}
use Rattle.reading.specs.declared.Bad.{Bad}
use Rattle.reading.specs.Grammar.{line_of}
use Rattle.writing.specs.Answers.{bad_line}
use Rattle.writing.proofs.Places.{nothing}
use Rattle.script.specs.Holding.{more}
use Rattle.script.specs.Lines.{by_kind, step_of, Says}
use Rattle.script.specs.Plain.{Plain, plain, say, answer_text, places}

-- a shorter answer
pub wider : (old new text : List ℕ) (at k : ℕ) → Wrote 64 old new at k text → Wrote 800 old new at k text
wider old new text at k w = retold 64 800 old new text text at k refl (omega arith) w

-- a refusal's number, as it is and as the code gives it
pub numbered : (m n : ℕ) (old new : List ℕ) (at k : ℕ) → m ≡ n → Wrote 64 old new at k (no_line m) → Wrote 64 old new at k (no_line n)
numbered m n old new at k e w = subst (λ (j : ℕ). Wrote 64 old new at k (no_line j)) e w

-- ---- any call on any table

module _ (P : Answer → Type 0) (e : Call) (one : P (answer_one e)) (own : (s : model.State) → P (reply e s).answer) (t : Table) where
  answers-have : P (called e t).answer
  unfolding called
  answers-have = at (wfb t) refl
    where
      at : (b : Bool) → wfb t ≡ b → P (called e t).answer
      at true q = rw q (own (state_of t))
      at false q = rw q one

-- ---- a delivery: the text is its result's

abbrev pub last_text : Result View Refusal → List ℕ
last_text (Ok v) = ok_line v
last_text (Err r) = no_line (number r)

abbrev InText : Answer → Type 0
InText a = last_text (delivery_of a).last ≡ answer_text a

result-text : (q : Outcome) (n : ℕ) → InText (delivery_answer q n)
result-text (takes v) n = refl
result-text (refuses x) n = refl

deliver-text : (made on_time : Bool) (t a : ℕ) (rs : List Record) (s : model.State) → InText (deliver made on_time t a rs s).answer
deliver-text false on_time t a rs s = refl
deliver-text true false t a rs s = refl
deliver-text true true t a rs s = let p = play t a rs (model.with_time t s) in result-text (last_result p.results) (count p.results)

accept-text : (t a : ℕ) (rs : List Record) (s : model.State) → InText (reply (call.accept t a rs) s).answer
unfolding reply accept_s
accept-text t a rs s = deliver-text _ _ t a rs s

pub said_in : (time a : ℕ) (rs : List Record) (t : Table) → last_text (delivery_of (called (call.accept time a rs) t).answer).last ≡ answer_text (called (call.accept time a rs) t).answer
said_in time a rs t = answers-have InText (call.accept time a rs) refl (accept-text time a rs) t

-- ---- a bundle: the text is its result's, with the lent list

abbrev pub popped_text : Result (Option ℕ) Refusal → List ℕ → List ℕ
popped_text (Ok None) l = none_line
popped_text (Ok (Some n)) l = bundle_line (take n l)
popped_text (Err r) l = no_line (number r)

abbrev pub popped_size : Result (Option ℕ) Refusal → ℕ
popped_size (Ok None) = 0
popped_size (Ok (Some n)) = n
popped_size (Err r) = 0

pub record PopText (l : List ℕ) (a : Answer) : Type 0 where
  pub text : popped_text (answer_of bundle_in a) (lent a l) ≡ answer_text a
  pub size : popped_size (answer_of bundle_in a) ≤ length l

module _ (k : Key) (l : List ℕ) (s : model.State) where
  refused-text : (x : Refusal) → PopText l (refused x)
  unfolding answer_of
  refused-text x = record { text = refl; size = omega arith }

  hand-text : (x : Bool) (b : List ℕ) (bs : List (List ℕ)) → leb (length b) (length l) ≡ x → PopText l (hand_out x k b bs s).answer
  unfolding answer_of
  hand-text true b bs h = record { text = ap bundle_line (take-append_seam b (drop (length b) l)); size = leb-true (length b) (length l) h }
  hand-text false b bs h = refused-text _

  next-text : (bs : List (List ℕ)) → PopText l (next bs k (length l) s).answer
  unfolding answer_of
  next-text [] = record { text = refl; size = omega arith }
  next-text (b ∷ bs) = hand-text (leb (length b) (length l)) b bs refl

  of-text : (made here : Bool) → PopText l (next_of made here k (length l) s).answer
  of-text false here = refused-text _
  of-text true false = refused-text _
  of-text true true = next-text (data_of k s.protocol).bundles

  pop-text : PopText l (reply (call.next_bundle k l) s).answer
  unfolding reply next_bundle_s
  pop-text = of-text _ _

pub said_pop : (k : Key) (l : List ℕ) (t : Table) → PopText l (called (call.next_bundle k l) t).answer
said_pop k l t = answers-have (PopText l) (call.next_bundle k l) (refused-text k l (state_of t) _) (pop-text k l) t

-- ---- the exits

module _ (s : Plain) (time a : ℕ) (r : Record) (rs : List Record) (u : Table) (left : Plain) (d : Delivery) (x : Result View Refusal) (old new : List ℕ) (at next : ℕ) where
  pub delivered_says : rs ≡ more s.held r → u ≡ (called (call.accept time a rs) s.table).table → d ≡ delivery_of (called (call.accept time a rs) s.table).answer
      → left ≡ plain u [] → x ≡ d.last → Wrote 64 old new at next (last_text x) → Says (by_kind (Ok (In time a r)) s) old new at next left
  delivered_says kept table answer none is w =
      let o = λ (l : List Record). called (call.accept time a l) s.table in
      let t : u ≡ (o (more s.held r)).table = table ∙ ap (λ (l : List Record). (o l).table) kept in
      let text : last_text x ≡ answer_text (o (more s.held r)).answer =
      ap last_text (is ∙ ap (λ (y : Delivery). y.last) answer) ∙ said_in time a rs s.table ∙ ap (λ (l : List Record). answer_text (o l).answer) kept in
      record {
        state = none ∙ ap (λ (v : Table). plain v []) t;
        wrote = subst (λ (l : List ℕ). Wrote 800 old new at next l) text (wider old new (last_text x) at next w);
      }

module _ (s : Plain) (k : Key) (u : Table) (m : List ℕ) (q : Result (Option ℕ) Refusal) (old new : List ℕ) (at next : ℕ) where
  pub popped_says : u ≡ (called (call.next_bundle k places) s.table).table → q ≡ answer_of bundle_in (called (call.next_bundle k places) s.table).answer
      → m ≡ lent (called (call.next_bundle k places) s.table).answer places → Wrote 800 old new at next (popped_text q m) → Says (by_kind (Ok (Pop k)) s) old new at next (plain u s.held)
  popped_says table answer l w =
      let e = (λ i. popped_text (answer i) (l i)) ∙ (said_pop k places s.table).text in
      record { state = λ i. plain (table i) s.held; wrote = subst (λ (t : List ℕ). Wrote 800 old new at next t) e w }

  pub popped_short : q ≡ answer_of bundle_in (called (call.next_bundle k places) s.table).answer → popped_size q ≤ 64
  popped_short answer = subst (λ (r : Result (Option ℕ) Refusal). popped_size r ≤ 64) (sym answer) (said_pop k places s.table).size

pub as_read : (s : Plain) (line : List ℕ) (c : Result Command Bad) (old new : List ℕ) (at next : ℕ) (x : Plain) → c ≡ line_of line
    → Says (by_kind c s) old new at next x → Says (step_of s line) old new at next x
unfolding step_of
as_read s line c old new at next x e w = subst (λ (k : Result Command Bad). Says (by_kind k s) old new at next x) e w

pub silent : (s x : Plain) (old : List ℕ) (at : ℕ) → x ≡ s → Says (say s []) old old at at x
silent s x old at e = record { state = e; wrote = nothing 800 at old }

pub bad : (s x : Plain) (old new : List ℕ) (at next : ℕ) → x ≡ s → Wrote 64 old new at next bad_line → Says (say s bad_line) old new at next x
bad s x old new at next e w = record { state = e; wrote = wider old new bad_line at next w }
