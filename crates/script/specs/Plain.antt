-- The driver in the specification's words: any number of held records in a list, and the answers of the calls.
use Rattle.std.specs.Prelude.{false, List, [], ◌∷◌, ◌++◌, ℕ, Result, Ok, Err, replicate}
use Rattle.packet.specs.declared.Record.{Record}
use Rattle.packet.specs.Refusals.{number}
use Rattle.model.specs.State as model
use Rattle.model.specs.Calls.{accept, next_bundle, Answer, refused, delivered, undelivered, found, no_bundle, bundle, prepared, done, resends, held, prefix_is}
use Rattle.tab.specs.declared.Table.{Table}
use Rattle.tab.specs.Tables.{repr}
use Rattle.tab.specs.Calls.{TableReply, called}
use Rattle.reading.specs.declared.Command.{Command}
use Rattle.reading.specs.declared.Command.TheVariants.{In, Pig, Pop}
use Rattle.reading.specs.declared.Bad.{Bad}
use Rattle.reading.specs.declared.Bad.TheVariants.{Line, Arrival}
use Rattle.reading.specs.Grammar.{line_of}
use Rattle.writing.specs.Answers.{ok_line, no_line, bad_line, none_line, bundle_line}

-- what a line finds and leaves: the table, and the records that the next `in` delivers before its own
pub record Plain : Type 0 where
  pub table : Table
  pub held : List Record

abbrev pub plain : Table → List Record → Plain
plain t hs = record { table = t; held = hs }

pub record Said : Type 0 where
  pub state : Plain
  pub text : List ℕ

abbrev pub say : Plain → List ℕ → Said
say p text = record { state = p; text = text }

-- the lent list of a `pop`: no bundle has more handles
abbrev pub places : List ℕ
places = replicate 64 0

-- `ok off A`, `ok on A I exp N` (I is `-` without index), `no R`; `bundle`, count, handles, or `none`. The other answers are of calls that
-- the driver does not make
abbrev pub answer_text : Answer → List ℕ
answer_text (refused x) = no_line (number x)
answer_text (delivered v n) = ok_line v
answer_text (undelivered x n) = no_line (number x)
answer_text (found v) = []
answer_text no_bundle = none_line
answer_text (bundle b) = bundle_line b
answer_text (prepared p) = []
answer_text done = []
answer_text (resends xs) = []
answer_text (held b) = []
answer_text (prefix_is p) = []

abbrev pub after_call : TableReply → List Record → Said
after_call o hs = say (plain o.table hs) (answer_text o.answer)

-- a `pig` holds a record for the next `in`, whose time and address it shares, and prints nothing; an `in`, `bad` too, uses them up
abbrev pub plain_kind : Result Command Bad → Plain → Said
plain_kind (Ok (In time address r)) p = after_call (called (accept time address (p.held ++ r ∷ [])) p.table) []
plain_kind (Ok (Pig r)) p = say (plain p.table (p.held ++ r ∷ [])) []
plain_kind (Ok (Pop k)) p = after_call (called (next_bundle k places) p.table) p.held
plain_kind (Err Line) p = say p bad_line
plain_kind (Err Arrival) p = say (plain p.table []) bad_line

unfoldable pub plain_step : Plain → List ℕ → Said
plain_step p line = plain_kind (line_of line) p

unfoldable pub plain_answers : Plain → List (List ℕ) → List ℕ
plain_answers p [] = []
plain_answers p (l ∷ ls) = (plain_step p l).text ++ plain_answers (plain_step p l).state ls

-- the table does not forward, and nothing is held
abbrev pub start : Plain
start = plain (repr (model.new false)) []
