-- 01's refusal table over concrete tables: of every public call, by the very functions that their contracts cite.
use Rattle.std.specs.Prelude.{◌≡◌, true, false, not, List, [], ◌∷◌, ◌++◌, ℕ}
use Rattle.packet.specs.declared.Record.{Record}
use Rattle.model.specs.State.{with_time}
use Rattle.packet.specs.declared.Refusal.TheVariants.{NotWellFormed}
use Rattle.model.specs.Refusals.{Refusal, number, left}
use Rattle.model.specs.Calls.{Call, accept, refused, undelivered, lent}
use Rattle.model.specs.Port.{record_stages, play}
use Rattle.agreement.specs.Effects.{among, stages_of}
use Rattle.agreement.specs.When.{Row, row, rows_of, Decides, Passes, Iff}
use Rattle.tab.specs.declared.Table.{Table}
use Rattle.tab.specs.Tables.{state_of, repr}
use Rattle.tab.specs.Test.{wfb}
use Rattle.tab.specs.Answers.{code_of}
use Rattle.tab.specs.Calls.{called}

-- the rows of a call on a table, in order of checking: 1 comes first
unfoldable pub table_rows : Call → Table → List Row
table_rows e t = row NotWellFormed (not (wfb t)) ∷ rows_of e (state_of t)

-- "exactly when"
pub record Answered : Type 0 where
  -- a number is answered exactly when its condition holds and no earlier one does, and 0 when none does
  pub numbers : (e : Call) (t : Table) (x : Refusal) → Iff (code_of (called e t).answer ≡ number x) (Decides x (table_rows e t))
  pub grants : (e : Call) (t : Table) → Iff (code_of (called e t).answer ≡ 0) (Passes (table_rows e t))

-- "changes"
pub record Changed : Type 0 where
  -- 1
  pub malformed : (e : Call) (t : Table) → wfb t ≡ false → (called e t).table ≡ t
  -- every call but a delivery: what the row of its refusal says, among its own states on the way
  pub calls : (e : Call) (t : Table) (x : Refusal) → wfb t ≡ true → (called e t).answer ≡ refused x → (called e t).table ≡ repr (left x (stages_of e (state_of t)))
  pub nothing : (e : Call) (t : Table) (x : Refusal) → wfb t ≡ true → (called e t).answer ≡ refused x → among (2 ∷ 3 ∷ []) x ≡ true → (called e t).table ≡ t
  -- a delivery refused by 2 or 3 changes nothing
  pub deliveries : (time a : ℕ) (rs : List Record) (t : Table) (x : Refusal) (n : ℕ) → wfb t ≡ true → (called (accept time a rs) t).answer ≡ undelivered x n → among (2 ∷ 3 ∷ []) x ≡ true → (called (accept time a rs) t).table ≡ t
  -- one whose last record is refused from 4 on leaves what the row says of that record; what earlier records did stays
  pub last_records :
      (time a : ℕ) (qs : List Record) (r : Record) (t : Table) (x : Refusal) (n : ℕ) →
      wfb t ≡ true →
      (called (accept time a (qs ++ (r ∷ []))) t).answer ≡ undelivered x n →
      among (2 ∷ 3 ∷ []) x ≡ false →
      (called (accept time a (qs ++ (r ∷ []))) t).table ≡ repr (left x (record_stages a r (play time a qs (with_time time (state_of t))).state))
  -- "A refused call writes nothing to a lent list"
  pub lists : (e : Call) (t : Table) (x : Refusal) (l : List ℕ) → (called e t).answer ≡ refused x → lent (called e t).answer l ≡ l
