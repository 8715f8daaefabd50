-- Worked instances: the definitions compute, the grouping is the right one, and the hypotheses of the theorem on sending order can be met.
use Rattle.std.specs.Prelude.{◌≡◌, true, false, cond, ltb, List, [], ◌∷◌, map, reverse, take, ℕ}
use Rattle.list.specs.Pad.{all_b}
use Rattle.packet.specs.declared.Packet.{Packet}
use Rattle.packet.specs.Data.{Range, no_range, range, packet_of, packet}
use Rattle.model.specs.State.{new}
use Rattle.model.specs.Group.{group}
use Rattle.model.specs.Calls.{Call}
use Rattle.model.specs.History.{run}
use Rattle.model.specs.Instances.{script}
use Rattle.order.specs.Sent.{Arrival, sent_as, received, missing, Near, sent_before}
use Rattle.order.specs.OnKey.{is_reliable, granted, handed_out, waiting}

-- ---- the grouping

abbrev pub alone : ℕ → ℕ → Packet
alone n h = packet_of n h no_range

abbrev pub part : ℕ → ℕ → ℕ → ℕ → Packet
part f l n h = packet_of n h (range f l)

-- ---- arrivals

abbrev pub at : ℕ → ℕ → Arrival
at p x = record { place = p; handle = x }

-- places 1 and 2 share the range 1 to 2; the rest stand alone
abbrev pub pair : ℕ → Range
pair p = cond (ltb 0 p) (cond (ltb p 3) (range 1 2) no_range) no_range

-- out of order, place 2 twice
abbrev pub history : List Arrival
history = at 0 10 ∷ at 2 99 ∷ at 3 13 ∷ at 1 11 ∷ at 2 12 ∷ []

-- ---- the driver's sample script

-- after the first of its three pops a bundle is handed out and another waits; places 1, 0, 1 meet the hypotheses of the theorem
abbrev pub moment : List Call
moment = take 4 script

abbrev pub arrivals : List Arrival
arrivals = at 1 22 ∷ at 0 20 ∷ at 1 21 ∷ []

pub record Examples : Type 0 where
  -- three fragments are one bundle, in order, between two that stand alone
  pub several : group (alone 4 14 ∷ part 5 7 5 15 ∷ part 5 7 6 16 ∷ part 5 7 7 17 ∷ alone 8 18 ∷ []) ≡ record { made = (14 ∷ []) ∷ (15 ∷ 16 ∷ 17 ∷ []) ∷ (18 ∷ []) ∷ []; rest = [] }
  -- of 5 to 7 the last has another range: all three are dropped, and 8 goes on
  pub incoherent : group (part 5 7 5 15 ∷ part 5 7 6 16 ∷ part 7 8 7 17 ∷ alone 8 18 ∷ []) ≡ record { made = (18 ∷ []) ∷ []; rest = [] }
  -- the same where the one that differs has no range, where the Rust panics
  pub bare : group (part 5 7 5 15 ∷ alone 6 16 ∷ part 5 7 7 17 ∷ alone 8 18 ∷ []) ≡ record { made = (18 ∷ []) ∷ []; rest = [] }
  -- a front whose number is not its first is dropped, and it alone
  pub wrong_first : group (part 4 6 5 15 ∷ part 4 6 6 16 ∷ part 7 8 7 17 ∷ part 7 8 8 18 ∷ []) ≡ record { made = (17 ∷ 18 ∷ []) ∷ []; rest = [] }
  -- a range that goes on past 2^28 - 1 with 0
  pub wraps : group (part 0x0FFF_FFFE 1 0x0FFF_FFFE 11 ∷ part 0x0FFF_FFFE 1 0x0FFF_FFFF 12 ∷ part 0x0FFF_FFFE 1 0 13 ∷ part 0x0FFF_FFFE 1 1 14 ∷ alone 2 15 ∷ []) ≡ record { made = (11 ∷ 12 ∷ 13 ∷ 14 ∷ []) ∷ (15 ∷ []) ∷ []; rest = [] }
  -- a front that lacks one stops everything behind it; a range of one is a bundle of one
  pub incomplete : group (part 3 3 3 13 ∷ part 4 7 4 14 ∷ part 4 7 5 15 ∷ alone 6 16 ∷ []) ≡ record { made = (13 ∷ []) ∷ []; rest = part 4 7 4 14 ∷ part 4 7 5 15 ∷ alone 6 16 ∷ [] }
  -- arrivals
  pub fragments : received pair history ≡ record { expected = 4; buffer = []; queue = []; bundles = (10 ∷ []) ∷ (11 ∷ 12 ∷ []) ∷ (13 ∷ []) ∷ [] }
  pub buffered : received pair (at 2 99 ∷ at 3 13 ∷ at 1 11 ∷ at 2 12 ∷ []) ≡ record { expected = 0; buffer = map (sent_as pair) (at 1 11 ∷ at 2 12 ∷ at 3 13 ∷ []); queue = []; bundles = [] }
  pub rule : (group (sent_before pair history (missing history))).made ≡ (10 ∷ []) ∷ (11 ∷ 12 ∷ []) ∷ (13 ∷ []) ∷ []
  pub is_near : Near history
  -- the script
  pub hypotheses : (all_b is_reliable (granted 7 0 moment (new false)) ≡ true) × (map packet (granted 7 0 moment (new false)) ≡ map (sent_as (λ p. no_range)) (reverse arrivals))
  pub are_near : Near arrivals
  pub conclusion : (handed_out 7 0 moment (new false) ≡ (20 ∷ []) ∷ []) × (waiting 7 0 (run moment (new false)).state ≡ (21 ∷ []) ∷ []) × ((group (sent_before (λ p. no_range) arrivals (missing arrivals))).made ≡ (20 ∷ []) ∷ (21 ∷ []) ∷ []) × (missing arrivals ≡ 2)
