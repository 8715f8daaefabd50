-- What it is to hand out in sending order.
use Rattle.std.specs.Prelude.{◌≡◌, Bool, true, List, ◌++◌, map, reverse, ℕ}
use Rattle.list.specs.Pad.{all_b}
use Rattle.seq.specs.Num.{wrap}
use Rattle.packet.specs.Data.{Range, packet}
use Rattle.packet.specs.declared.Packet.{Packet}
use Rattle.model.specs.State.{new}
use Rattle.model.specs.Group.{group}
use Rattle.model.specs.Reorder.{Reliable}
use Rattle.model.specs.Calls.{Call}
use Rattle.model.specs.History.{run}
use Rattle.order.specs.Sent.{Arrival, sent_as, missing, Near, sent_before}
use Rattle.order.specs.OnKey.{is_reliable, granted, handed_out, waiting, expected_of}

-- the bundles made of what arrived (arrivals stand newest first) are those of all packets sent before the missing one, each taken once, by
-- its first copy, in sending order; and the missing one is expected
pub record Ordered (s : ℕ → Range) (h : List Arrival) (bs : List (List ℕ)) (e : ℕ) : Type 0 where
  pub bundles : bs ≡ (group (sent_before s h (missing h))).made
  pub expected : e ≡ wrap (missing h)

-- over histories of calls from a new table: a sent stream, and arrivals of its packets at the on-channel of address a and index i. If the
-- records granted there are reliable and bring these arrivals, and each was sent less than 2^27 places from the one missing when it came,
-- then the bundles handed out so far, followed by those that wait, are in sending order
abbrev pub InSendingOrder : Type 0
InSendingOrder =
    (f : Bool) (es : List Call) (a i : ℕ) (s : ℕ → Range) (h : List Arrival)
    → all_b is_reliable (granted a i es (new f)) ≡ true
    → map packet (granted a i es (new f)) ≡ map (sent_as s) (reverse h)
    → Near h
    → Ordered s h (handed_out a i es (new f) ++ waiting a i (run es (new f)).state) (expected_of a i (run es (new f)).state)

-- the same of one channel's reliable side, which was new when the first of these packets came
abbrev pub HasOrdered : List Packet → Reliable → Type 0
HasOrdered ps c = (s : ℕ → Range) (h : List Arrival) → ps ≡ map (sent_as s) (reverse h) → Near h → Ordered s h c.bundles c.expected
