-- What the digits so far write. Assumes nothing.
use Rattle.std.proofs.Common.{◌≡◌, ◌<◌, ◌^◌, take}
use Rattle.reading.specs.Words as Words
use Rattle.reading.proofs.words.value.Given as goal

abbrev pub invariant-loop-b : goal.invariant-loop-b
invariant-loop-b l = record { so_far : l.v ≡ Words.value (take l.b-index l.digits); fits : l.v < 2 ^ 64 }
