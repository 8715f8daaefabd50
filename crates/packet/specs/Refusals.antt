-- The number of each refusal.
use Rattle.std.specs.Prelude.{ℕ}
use Rattle.packet.specs.declared.Refusal.{Refusal}
use Rattle.packet.specs.declared.Refusal.TheVariants.{NotWellFormed, OutOfRange, TimeBelow, TableFull, OldVersion, CumulativeOff, LastOnReliable, LastNotExpected, LastOff, BeyondGroup, OverLimit, ListTooShort, ChannelAbsent}

abbrev pub number : Refusal → ℕ
number NotWellFormed = 1
number OutOfRange = 2
number TimeBelow = 3
number TableFull = 4
number OldVersion = 5
number CumulativeOff = 6
number LastOnReliable = 7
number LastNotExpected = 8
number LastOff = 9
number BeyondGroup = 10
number OverLimit = 11
number ListTooShort = 12
number ChannelAbsent = 13
