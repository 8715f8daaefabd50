-- What a line of the driver answers and leaves, of a state that holds at most nine records.
use Rattle.std.specs.Prelude.{◌≡◌, List, [], ℕ, Result, Ok, Err}
use Rattle.model.specs.Calls.{accept, next_bundle}
use Rattle.tab.specs.Calls.{called}
use Rattle.reading.specs.declared.Command.{Command}
use Rattle.reading.specs.declared.Command.TheVariants.{In, Pig, Pop}
use Rattle.reading.specs.declared.Bad.{Bad}
use Rattle.reading.specs.declared.Bad.TheVariants.{Line, Arrival}
use Rattle.reading.specs.Grammar.{line_of}
use Rattle.writing.specs.Answers.{bad_line}
use Rattle.writing.specs.Wrote.{Wrote}
use Rattle.script.specs.Plain.{Plain, plain, Said, say, places, after_call}
use Rattle.script.specs.Holding.{more}

abbrev pub by_kind : Result Command Bad → Plain → Said
by_kind (Ok (In time address r)) p = after_call (called (accept time address (more p.held r)) p.table) []
by_kind (Ok (Pig r)) p = say (plain p.table (more p.held r)) []
by_kind (Ok (Pop k)) p = after_call (called (next_bundle k places) p.table) p.held
by_kind (Err Line) p = say p bad_line
by_kind (Err Arrival) p = say (plain p.table []) bad_line

-- the whole behaviour of a line, without its line feed
unfoldable pub step_of : Plain → List ℕ → Said
step_of p line = by_kind (line_of line) p

-- the answer stands in the buffer from `at` on, up to `next`, and the state is the one left
pub record Says (a : Said) (old new : List ℕ) (at next : ℕ) (x : Plain) : Type 0 where
  pub state : x ≡ a.state
  pub wrote : Wrote 800 old new at next a.text
