-- What a call leaves of any table and answers, from the test and from what was done in the table's form.
use Rattle.std.proofs.Common.{◌≡◌, ℕ, zero, suc, ◌≤◌, Bool, true, false, cond, List, Option, Result, Err, refl, ap, sym, ◌∙◌, arith}
use Rattle.list.proofs.Arrays as array
use Rattle.packet.specs.Data.{is_set}
use Rattle.packet.specs.declared.Refusal.TheVariants.{NotWellFormed}
use Rattle.model.specs.Refusals.{Refusal}
use Rattle.model.specs.Calls as Calls
use Rattle.model.specs.Calls.{Call, Answer, lent}
use Rattle.model.specs.Port.{reply, answer_one}
use Rattle.chan.proofs.Forms.{off_form, on_form}
use Rattle.chan.specs.Channels.{off_of, IsOffChannel, repr_off, no_off_channel, on_of, IsOnChannel, repr_on, no_on_channel}
use Rattle.tab.specs.declared.Table.{Table}
use Rattle.tab.specs.Tables.{IsTable, state_of, repr}
use Rattle.tab.specs.Test.{wfb}
use Rattle.tab.specs.Calls.{called, answer_of}
use Rattle.tab.proofs.TestForms.{test_well}
use Rattle.tab.proofs.Named.{told}
use Rattle.tab.proofs.Steps.{off_count, on_count}

flag : (f : ℕ) → f ≤ 1 → f ≡ cond (is_set f) 1 0
flag zero h = refl
flag (suc zero) h = refl
flag (suc (suc n)) h = absurd (omega arith)

-- a table is the one value that stands for its state
pub table_form : (t : Table) → IsTable t → t ≡ repr (state_of t)
unfolding repr state_of
table_form t h =
    let f = flag t.forwarding h.forwarding in
    let a = sym (off_count t h) in
    let b = sym (on_count t h) in
    let offs = array.array_made IsOffChannel off_of repr_off off_form 4 t.offcount no_off_channel t.offs h.offs h.each_off in
    let ons = array.array_made IsOnChannel on_of repr_on on_form 8 t.oncount no_on_channel t.ons h.ons h.each_on in
    λ j. record { latest = t.latest; forwarding = f j; prefix = t.prefix; offset = t.offset; source = t.source; offcount = a j; oncount = b j; offs = offs j; ons = ons j }

-- two tables of one state are the same bytes
pub same_table : (t u : Table) → IsTable t → IsTable u → state_of t ≡ state_of u → t ≡ u
same_table t u h k e = table_form t h ∙ ap repr e ∙ sym (table_form u k)

-- ---- a call

pub granted : (e : Call) (t u : Table) → wfb t ≡ true → IsTable u → state_of u ≡ (reply e (state_of t)).state → u ≡ (called e t).table
unfolding called
granted e t u test form state = rw test (table_form u form ∙ ap repr state)

pub answered : (e : Call) (t : Table) → wfb t ≡ true → (called e t).answer ≡ (reply e (state_of t)).answer
unfolding called
answered e t test = rw test refl

pub refused : (e : Call) (t : Table) → wfb t ≡ false → t ≡ (called e t).table
unfolding called
refused e t test = rw test refl

pub refusal : (e : Call) (t : Table) → wfb t ≡ false → (called e t).answer ≡ answer_one e
unfolding called
refusal e t test = rw test refl

-- ---- for the clauses of a public call: refused by the test, or as the inner function did it

module _ (e : Call) (t : Table) (b : Bool) (is : b ≡ wfb t) where
  module _ (bad : b ≡ false) (one : answer_one e ≡ Calls.refused NotWellFormed) where
    malformed : wfb t ≡ false
    malformed = told b (wfb t) false is bad

    pub refused_table : t ≡ (called e t).table
    refused_table = refused e t malformed

    pub refused_answer : {X : Type 0} (value : Answer → Option X) → Err NotWellFormed ≡ answer_of value (called e t).answer
    unfolding answer_of
    refused_answer value = rw (refusal e t malformed, one) refl

    pub refused_lent : (l : List ℕ) → l ≡ lent (called e t).answer l
    refused_lent l = rw (refusal e t malformed, one) refl

  module _ (good : b ≡ true) where
    formed : wfb t ≡ true
    formed = told b (wfb t) true is good

    pub in_form : IsTable t
    in_form = (test_well t formed).form

    pub granted_table : (u : Table) → IsTable u → state_of u ≡ (reply e (state_of t)).state → u ≡ (called e t).table
    granted_table u form state = granted e t u formed form state

    pub granted_answer : {X : Type 0} (value : Answer → Option X) (r : Result X Refusal) → r ≡ answer_of value (reply e (state_of t)).answer → r ≡ answer_of value (called e t).answer
    granted_answer value r a = a ∙ ap (λ x. answer_of value x) (sym (answered e t formed))

    pub granted_lent : (l m : List ℕ) → m ≡ lent (reply e (state_of t)).answer l → m ≡ lent (called e t).answer l
    granted_lent l m a = a ∙ ap (λ x. lent x l) (sym (answered e t formed))
