-- The driver's state in memory: the table, and at most nine held records.
use Rattle.std.specs.Prelude.{◌≡◌, cond, List, [], ◌∷◌, ◌++◌, ltb, length, take}
use Rattle.list.specs.Lists.{IsList}
use Rattle.packet.specs.declared.Record.{Record}
use Rattle.packet.specs.Data.{no_record}
use Rattle.script.specs.declared.held.Held.{Held}
use Rattle.script.specs.declared.Relay.{Relay}
use Rattle.script.specs.Plain.{Plain, plain}

abbrev pub held_of : Held → List Record
held_of h = take h.count h.records

abbrev pub IsHeld : Held → Type 0
IsHeld h = IsList 9 no_record h.count h.records

-- one more record: nine are too many for a delivery already, and more change nothing
abbrev pub more : List Record → Record → List Record
more hs r = cond (ltb (length hs) 9) (hs ++ r ∷ []) hs

abbrev pub plain_of : Relay → Plain
plain_of s = plain s.table (held_of s.held)
