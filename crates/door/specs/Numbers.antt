-- What crosses to the host as numbers, from what a call answers.
use Rattle.std.specs.Prelude.{cond, List, ℕ, ◌+◌, ◌*◌, eqb, Result, Ok, Err}
use Rattle.list.specs.Pad.{pad}
use Rattle.packet.specs.declared.Refusal.{Refusal}
use Rattle.model.specs.Calls.{Answer}
use Rattle.packet.specs.Data.{is_set, is_flag}
use Rattle.model.specs.State as model
use Rattle.tab.specs.declared.Table.{Table}
use Rattle.tab.specs.Tables.{repr}
pub use Rattle.tab.specs.Answers.{code_in}
use Rattle.tab.specs.Answers.{code_of, some_of, length_of, value_of}
use Rattle.door.specs.declared.Handles.{Handles}
use Rattle.door.specs.declared.Names.{Names}

-- ---- a result as numbers: 0 or the refusal's number (`code_in`), and the value, or a blank where the call was refused

module _ {X : Type 0} where
  abbrev pub value_or : X → Result X Refusal → X
  value_or blank (Ok x) = x
  value_or blank (Err r) = blank

-- ---- one number for a refusal or a value: a refusal's is above the mark 2^31

abbrev pub marked : ℕ → ℕ → ℕ
marked code value = cond (eqb code 0) value (2147483648 + code)

-- none is 0, and a bundle its length and one more
abbrev pub bundle_number : Answer → ℕ
bundle_number x = marked (code_of x) (cond (eqb (some_of x) 0) 0 (length_of x + 1))

abbrev pub rows_number : Answer → ℕ
rows_number x = marked (code_of x) (length_of x)

abbrev pub held_number : Answer → ℕ
held_number x = marked (code_of x) (value_of x)

-- a refusal's number above the low 32 bits, or the prefix
abbrev pub prefix_number : Answer → ℕ
prefix_number x = cond (eqb (code_of x) 0) (value_of x) (code_of x * 4294967296)

-- ---- lists that are given as an array and a count: past the array's end they go on with zeros, so a count that is too large is a list too long

abbrev pub handles_of : Handles → List ℕ
handles_of h = pad h.count 0 h.handles

abbrev pub names_of : Names → List ℕ
names_of n = pad n.count 0 n.numbers

-- a new table by its flag: a flag is 0 or 1, and any other number makes none
abbrev pub renewed : Table → ℕ → Table
renewed t forwarding = cond (is_flag forwarding) (repr (model.new (is_set forwarding))) t

-- the sizes in bytes of what crosses, by number
abbrev pub size_of : ℕ → ℕ
size_of what =
    cond (eqb what 0) 43584 (cond (eqb what 1) 96 (cond (eqb what 2) 16 (cond (eqb what 3) 20
    (cond (eqb what 4) 24 (cond (eqb what 5) 28 (cond (eqb what 6) 68 (cond (eqb what 7) 260 0)))))))
