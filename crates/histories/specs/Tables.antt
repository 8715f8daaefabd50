-- Histories of concrete tables: runs of the very functions that the contracts of the public calls cite.
use Rattle.std.specs.Prelude.{List, [], ◌∷◌, ◌++◌, ℕ}
use Rattle.packet.specs.declared.Record.{Record}
use Rattle.model.specs.Calls.{Call, Answer}
use Rattle.order.specs.OnKey.{granted_by, handed_in}
use Rattle.tab.specs.declared.Table.{Table}
use Rattle.tab.specs.Tables.{state_of}
use Rattle.tab.specs.Calls.{called}

pub record Run : Type 0 where
  pub answers : List Answer
  pub table : Table

abbrev pub answering : Answer → Run → Run
answering a r = record { answers = a ∷ r.answers; table = r.table }

-- oldest call first
unfoldable pub run_t : List Call → Table → Run
run_t [] t = record { answers = []; table = t }
run_t (e ∷ es) t = answering (called e t).answer (run_t es (called e t).table)

-- ---- demand 3's words, of a history of tables: the records granted on the channel of address a and index i, and the bundles handed out for it

unfoldable pub granted_t : ℕ → ℕ → List Call → Table → List Record
granted_t a i [] t = []
granted_t a i (e ∷ es) t = granted_by a i e (state_of t) ++ granted_t a i es (called e t).table

unfoldable pub handed_t : ℕ → ℕ → List Call → Table → List (List ℕ)
handed_t a i [] t = []
handed_t a i (e ∷ es) t = handed_in a i e (called e t).answer ++ handed_t a i es (called e t).table
