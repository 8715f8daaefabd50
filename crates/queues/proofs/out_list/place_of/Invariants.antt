use Rattle.std.proofs.Common.{◌≡◌, length}
use Rattle.packet.specs.Data.{no_entry}
use Rattle.model.specs.Acks.{search}
use Rattle.model.specs.Acks.{entry_number}
use Rattle.queues.proofs.out_list.place_of.Given as goal

abbrev pub invariant-loop-i : goal.invariant-loop-i
invariant-loop-i l = search entry_number no_entry l.number l.entries l.i ≡ search entry_number no_entry l.number l.entries (length l.entries)
