-- Any two outcomes that the contract of a public call admits are the same: its answer, the next table, and the list that it was lent.
use Rattle.std.specs.Prelude.{◌≡◌, Bool, List, ℕ, Result, ⊤}
use Rattle.std.specs.declared.option.Option.{Option}
use Rattle.packet.specs.declared.Record.{Record}
use Rattle.packet.specs.declared.Key.{Key}
use Rattle.packet.specs.declared.View.{View}
use Rattle.packet.specs.declared.Prepared.{Prepared}
use Rattle.packet.specs.declared.Refusal.{Refusal}
use Rattle.model.specs.Calls as call
use Rattle.model.specs.Calls.{Call, Answer, lent}
use Rattle.tab.specs.declared.Table.{Table}
use Rattle.tab.specs.declared.delivery.Delivery.{Delivery}
use Rattle.tab.specs.Test.{wfb}
use Rattle.tab.specs.Calls.{called, delivery_of, answer_of, view_in, bundle_in, prepared_in, done_in, rows_in, held_in, prefix_in}

-- what a call gives: its answer, and the table after it
pub record Given (X : Type 0) : Type 0 where
  pub answer : X
  pub table : Table

-- the contract of a call, as its clauses `answer` and `table` say it
abbrev pub Gives : {X : Type 0} → (Answer → X) → Call → Table → Given X → Type 0
Gives of e t o = (o.answer ≡ of (called e t).answer) × (o.table ≡ (called e t).table)

-- the clause `lent` of a call that is lent a list
abbrev pub Lends : Call → Table → List ℕ → List ℕ → Type 0
Lends e t l m = m ≡ lent (called e t).answer l

-- a contract admits one outcome
abbrev pub One : {X : Type 0} → (X → Type 0) → Type 0
One {X} admits = (x y : X) → admits x → admits y → x ≡ y

pub record Same : Type 0 where
  pub well_formed : (t : Table) → One {X = Bool} (λ b. b ≡ wfb t)
  pub accept : (t : Table) (time a : ℕ) (rs : List Record) → One {X = Given Delivery} (Gives delivery_of (call.accept time a rs) t)
  pub accept_out : (t : Table) (time a : ℕ) (r : Record) → One {X = Given (Result View Refusal)} (Gives (answer_of view_in) (call.accept_out time a r) t)
  pub channel : (t : Table) (k : Key) → One {X = Given (Result View Refusal)} (Gives (answer_of view_in) (call.channel k) t)
  pub next_bundle : (t : Table) (k : Key) (l : List ℕ) → One {X = Given (Result (Option ℕ) Refusal)} (Gives (answer_of bundle_in) (call.next_bundle k l) t)
  pub next_bundle_lent : (t : Table) (k : Key) (l : List ℕ) → One (Lends (call.next_bundle k l) t l)
  pub prepare : (t : Table) (time : ℕ) (k : Key) (reliable : ℕ) (hs : List ℕ) → One {X = Given (Result Prepared Refusal)} (Gives (answer_of prepared_in) (call.prepare time k reliable hs) t)
  pub acks_written : (t : Table) (k : Key) (ns : List ℕ) → One {X = Given (Result ⊤ Refusal)} (Gives (answer_of done_in) (call.acks_written k ns) t)
  pub take_resends : (t : Table) (time timeout give_up : ℕ) (l : List ℕ) → One {X = Given (Result ℕ Refusal)} (Gives (answer_of rows_in) (call.take_resends time timeout give_up l) t)
  pub take_resends_lent : (t : Table) (time timeout give_up : ℕ) (l : List ℕ) → One (Lends (call.take_resends time timeout give_up l) t l)
  pub holds : (t : Table) (h : ℕ) → One {X = Result Bool Refusal} (λ x. x ≡ answer_of held_in (called (call.holds h) t).answer)
  pub last_accepted_prefix : (t : Table) → One {X = Result ℕ Refusal} (λ x. x ≡ answer_of prefix_in (called call.last_accepted_prefix t).answer)
  pub reset_prefix_offset : (t : Table) → One {X = Given (Result ⊤ Refusal)} (Gives (answer_of done_in) call.reset_prefix_offset t)
  pub transfer_prefix_offset : (t : Table) → One {X = Given (Result ⊤ Refusal)} (Gives (answer_of done_in) call.transfer_prefix_offset t)
