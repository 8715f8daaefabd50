-- What an ack queue stands for, and when it is in its form.
use Rattle.std.specs.Prelude.{List, ℕ, length, take, replicate}
use Rattle.list.specs.Pad.{pad}
use Rattle.list.specs.Lists.{IsList}
use Rattle.queues.specs.declared.ack_queue.AckQueue.{AckQueue}

abbrev pub numbers : AckQueue → List ℕ
numbers q = take q.len q.numbers

-- at most 64 numbers, and zeros past them
abbrev pub IsAckQueue : AckQueue → Type 0
IsAckQueue q = IsList 64 0 q.len q.numbers

-- the one value that stands for the list
abbrev pub repr : List ℕ → AckQueue
repr xs = record { len = length xs; numbers = pad 64 0 xs }

abbrev pub no_ack_queue : AckQueue
no_ack_queue = record { len = 0; numbers = replicate 64 0 }
