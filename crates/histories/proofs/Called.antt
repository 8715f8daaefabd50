-- A call on a table that is well formed, and on one that is not.
use mathlib.Core.Path.{◌≡◌}
use mathlib.Core.Bool.{true, false}
use Rattle.model.specs.Calls.{Call}
use Rattle.model.specs.Port.{reply, answer_one}
use Rattle.tab.specs.declared.Table.{Table}
use Rattle.tab.specs.Tables.{state_of, repr}
use Rattle.tab.specs.Test.{wfb, IsWellFormed}
use Rattle.tab.specs.Calls.{table_reply, called}
use Rattle.tab.proofs.TestForms.{test_well, well_test_true}
use Rattle.tab.proofs.Called.{table_form}

pub called-refused : (e : Call) (t : Table) → wfb t ≡ false → called e t ≡ record { answer = answer_one e; table = t }
unfolding called
called-refused e t h = rw h

pub called-granted : (e : Call) (t : Table) → wfb t ≡ true → called e t ≡ table_reply (reply e (state_of t))
unfolding called
called-granted e t h = rw h

-- the test, and what it says
pub test_wf : (t : Table) → wfb t ≡ true → IsWellFormed t
test_wf t h = test_well t h

pub wf_test : (t : Table) → IsWellFormed t → wfb t ≡ true
wf_test t h = well_test_true t h

-- a table that passes it is the one form of its state
pub form_of : (t : Table) → wfb t ≡ true → t ≡ repr (state_of t)
form_of t h = table_form t (test_well t h).form
