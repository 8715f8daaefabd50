-- What is left of the line, and the record so far, give what the whole gives. Assumes nothing.
use Rattle.std.proofs.Common.{◌≡◌, length}
use Rattle.reading.specs.Readers as Readers
use Rattle.reading.proofs.fields.Reader.acks.Given as goal

abbrev pub invariant-loop-number : goal.invariant-loop-number
invariant-loop-number l =
    Readers.from_ack l.initial.self.rest.bytes.now l.initial.self.so_far ≡ Readers.from_ack l.self.rest.bytes.now l.self.so_far

abbrev pub decreases-loop-number : goal.decreases-loop-number
decreases-loop-number l = length l.self.rest.bytes.now
