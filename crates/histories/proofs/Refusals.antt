-- 01's refusal table over concrete tables, from the model's. Assumes nothing.
use mathlib.Core.Path.{◌≡◌, refl, ap, sym, ◌∙◌}
use mathlib.Core.Bool.{Bool, true, false, not, cond}
use mathlib.Core.List.{List, [], ◌∷◌, ◌++◌}
use mathlib.Core.Logic.{inl, inr}
use Rattle.std.specs.declared.option.Option.{Option}
use Rattle.std.specs.declared.option.Option.TheVariants.{None, Some}
use Prim.Native.Nat.{ℕ}
use lib.Dec.{eqb}
use Rattle.list.proofs.Pad.{never}
use Rattle.model.specs.State.{State}
use Rattle.packet.specs.declared.Refusal.TheVariants.{NotWellFormed, OutOfRange, TimeBelow, ChannelAbsent, TableFull, OldVersion, CumulativeOff, LastOnReliable, LastNotExpected, LastOff, BeyondGroup, OverLimit, ListTooShort}
use Rattle.model.specs.Refusals.{Refusal, number}
use Rattle.model.specs.Calls as calls
use Rattle.model.specs.Calls.{Call, Answer, refused, delivered, undelivered, found, no_bundle, bundle, prepared, done, resends, held, prefix_is, lent}
use Rattle.model.specs.Port.{reply, answer_one}
use Rattle.agreement.specs.When.{Decides, Passes, refusal_in}
use Rattle.agreement.proofs.Effects.{effects}
use Rattle.agreement.proofs.When.{exactly_when}
use Rattle.tab.specs.declared.Table.{Table}
use Rattle.tab.specs.Tables.{state_of, repr}
use Rattle.tab.specs.Test.{wfb}
use Rattle.tab.specs.Answers.{code_of}
use Rattle.tab.specs.Calls.{TableReply, called}
use Rattle.histories.proofs.Called.{called-refused, called-granted, form_of}
use Rattle.histories.specs.Refusals.{table_rows, Answered, Changed}

-- ---- a number tells its refusal

abbrev all : List Refusal
all = NotWellFormed ∷ OutOfRange ∷ TimeBelow ∷ ChannelAbsent ∷ TableFull ∷ OldVersion ∷ CumulativeOff ∷ LastOnReliable ∷ LastNotExpected ∷ LastOff ∷ BeyondGroup ∷ OverLimit ∷ ListTooShort ∷ []

unfoldable named : List Refusal → ℕ → Option Refusal
named [] n = None
named (x ∷ xs) n = cond (eqb (number x) n) (Some x) (named xs n)

number_named : (x : Refusal) → named all (number x) ≡ Some x
unfolding named
number_named NotWellFormed = refl
number_named OutOfRange = refl
number_named TimeBelow = refl
number_named ChannelAbsent = refl
number_named TableFull = refl
number_named OldVersion = refl
number_named CumulativeOff = refl
number_named LastOnReliable = refl
number_named LastNotExpected = refl
number_named LastOff = refl
number_named BeyondGroup = refl
number_named OverLimit = refl
number_named ListTooShort = refl

none_named : named all 0 ≡ None
unfolding named
none_named = refl

same_number : (x y : Refusal) → number x ≡ number y → Some x ≡ Some y
same_number x y e = sym (number_named x) ∙ ap (λ (n : ℕ). named all n) e ∙ number_named y

not_zero : (x : Refusal) → 0 ≡ number x → ⊥
not_zero x e = let q : None ≡ Some x = sym none_named ∙ ap (λ (n : ℕ). named all n) e ∙ number_named x in never (cc)

-- the number of an answer is its refusal's
abbrev code_in : Option Refusal → ℕ
code_in None = 0
code_in (Some x) = number x

code_is : (a : Answer) → code_of a ≡ code_in (refusal_in a)
code_is (refused x) = refl
code_is (delivered v n) = refl
code_is (undelivered x n) = refl
code_is (found v) = refl
code_is no_bundle = refl
code_is (bundle b) = refl
code_is (prepared p) = refl
code_is done = refl
code_is (resends xs) = refl
code_is (held b) = refl
code_is (prefix_is p) = refl

code_some : (o : Option Refusal) (x : Refusal) → code_in o ≡ number x → o ≡ Some x
code_some None x e = absurd (not_zero x e)
code_some (Some y) x e = same_number y x e

code_none : (o : Option Refusal) → code_in o ≡ 0 → o ≡ None
code_none None e = refl
code_none (Some y) e = absurd (not_zero y (sym e))

-- ---- exactly when

one-is : (e : Call) → refusal_in (answer_one e) ≡ Some NotWellFormed
one-is (calls.accept t a rs) = refl
one-is (calls.accept_out t a r) = refl
one-is (calls.channel k) = refl
one-is (calls.next_bundle k l) = refl
one-is (calls.prepare t k reliable hs) = refl
one-is (calls.acks_written k ns) = refl
one-is (calls.take_resends t timeout give_up l) = refl
one-is (calls.holds h) = refl
one-is calls.last_accepted_prefix = refl
one-is calls.reset_prefix_offset = refl
one-is calls.transfer_prefix_offset = refl

module _ (e : Call) (t : Table) where
  abbrev answer : Option Refusal
  answer = refusal_in (called e t).answer

  -- the answer on a table that is well formed, and on one that is not
  well : wfb t ≡ true → answer ≡ refusal_in (reply e (state_of t)).answer
  well q = ap (λ (o : TableReply). refusal_in o.answer) (called-granted e t q)

  ill : wfb t ≡ false → answer ≡ Some NotWellFormed
  ill q = ap (λ (o : TableReply). refusal_in o.answer) (called-refused e t q) ∙ one-is e

  to : (x : Refusal) (b : Bool) → wfb t ≡ b → answer ≡ Some x → Decides x (table_rows e t)
  unfolding table_rows Decides
  to x true q h = inr (ap not q, (exactly_when.calls e (state_of t) x).0 (sym (well q) ∙ h))
  to x false q h = let s : Some NotWellFormed ≡ Some x = sym (ill q) ∙ h in inl (ap not q, cc)

  from : (x : Refusal) (b : Bool) → wfb t ≡ b → Decides x (table_rows e t) → answer ≡ Some x
  unfolding table_rows Decides
  from x true q (inl d) = let z : false ≡ true = sym (ap not q) ∙ d.0 in never (cc)
  from x true q (inr d) = well q ∙ (exactly_when.calls e (state_of t) x).1 d.1
  from x false q (inl d) = ill q ∙ ap (λ (y : Refusal). Some y) d.1
  from x false q (inr d) = let z : true ≡ false = sym (ap not q) ∙ d.0 in never (cc)

  to_none : (b : Bool) → wfb t ≡ b → answer ≡ None → Passes (table_rows e t)
  unfolding table_rows Passes
  to_none true q h = (ap not q, (exactly_when.grants e (state_of t)).0 (sym (well q) ∙ h))
  to_none false q h = let s : Some NotWellFormed ≡ None = sym (ill q) ∙ h in never (cc)

  from_none : (b : Bool) → wfb t ≡ b → Passes (table_rows e t) → answer ≡ None
  unfolding table_rows Passes
  from_none true q d = well q ∙ (exactly_when.grants e (state_of t)).1 d.1
  from_none false q d = let z : true ≡ false = sym (ap not q) ∙ d.0 in never (cc)

pub answered : Answered
answered =
    record {
      numbers = λ e t x. (
        (λ h. to e t x (wfb t) refl (code_some (answer e t) x (sym (code_is (called e t).answer) ∙ h))),
        (λ d. code_is (called e t).answer ∙ ap code_in (from e t x (wfb t) refl d)),
      );
      grants = λ e t. (
        (λ h. to_none e t (wfb t) refl (code_none (answer e t) (sym (code_is (called e t).answer) ∙ h))),
        (λ d. code_is (called e t).answer ∙ ap code_in (from_none e t (wfb t) refl d)),
      );
    }

-- ---- changes

module _ (e : Call) (t : Table) (w : wfb t ≡ true) where
  answer-is : (called e t).answer ≡ (reply e (state_of t)).answer
  answer-is = ap (λ (o : TableReply). o.answer) (called-granted e t w)

  table_is : (s : State) → (reply e (state_of t)).state ≡ s → (called e t).table ≡ repr s
  table_is s h = ap (λ (o : TableReply). o.table) (called-granted e t w) ∙ ap (λ (q : State). repr q) h

  table_same : (reply e (state_of t)).state ≡ state_of t → (called e t).table ≡ t
  table_same h = table_is (state_of t) h ∙ sym (form_of t w)

pub changed : Changed
changed =
    record {
      malformed = λ e t w. ap (λ (o : TableReply). o.table) (called-refused e t w);
      calls = λ e t x w h. table_is e t w _ (effects.of_calls.calls e (state_of t) x (sym (answer-is e t w) ∙ h));
      nothing = λ e t x w h m. table_same e t w (effects.of_calls.nothing e (state_of t) x (sym (answer-is e t w) ∙ h) m);
      deliveries = λ time a rs t x n w h m.
          let e = calls.accept time a rs in
          table_same e t w (effects.of_records.deliveries time a rs (state_of t) x n (sym (answer-is e t w) ∙ h) m).0;
      last_records = λ time a qs r t x n w h m.
          let e = calls.accept time a (qs ++ (r ∷ [])) in
          table_is e t w _ (effects.of_records.last_records time a qs r (state_of t) x n (sym (answer-is e t w) ∙ h) m);
      lists = λ e t x l h. ap (λ (y : Answer). lent y l) h;
    }
