-- Closed instances of the relay: the sample script of the driver, what is easy to get wrong, and calls that two refusals apply to.
use Rattle.std.specs.Prelude.{◌≡◌, true, false, List, [], ◌∷◌, ◌++◌, map, drop, ℕ, zero, suc}
use Rattle.packet.specs.declared.Key.{Key}
use Rattle.packet.specs.declared.Prepared.{Prepared}
use Rattle.packet.specs.declared.Resend.{Resend}
use Rattle.packet.specs.declared.Refusal.TheVariants.{OutOfRange, TimeBelow, ChannelAbsent, TableFull, OldVersion, CumulativeOff, LastOnReliable, LastNotExpected, LastOff, BeyondGroup, OverLimit, ListTooShort}
use Rattle.model.specs.State.{OffChannel, State, new, new_off, new_on}
use Rattle.model.specs.Rust.{sent_entry}
use Rattle.model.specs.Calls.{Call, accept, accept_out, channel, next_bundle, prepare, acks_written, take_resends, Answer, refused, delivered, undelivered, found, no_bundle, bundle, prepared, resends}
use Rattle.model.specs.Port.{reply}
use Rattle.model.specs.History.{run, all_in_domain}
use Rattle.model.specs.Wellformed.{well_formed}
use Rattle.model.specs.Script.{Word, on, idx, rel, seq, rng, cum, ack, lrs, pkt, rec, off_key, on_key, idx_key, ok_off, ok_on}

-- a delivery of one record
abbrev pub says : ℕ → ℕ → List Word → Call
says t a ws = accept t a (rec ws ∷ [])

-- what a run from a new table answers
abbrev pub answers_of : List Call → List Answer
answers_of es = (run es (new false)).answers

-- a lent list that suffices
abbrev pub room : List ℕ
room = 0 ∷ 0 ∷ 0 ∷ 0 ∷ []

-- the sample script, and what it prints
abbrev pub script : List Call
script =
    says 0 7 (on ∷ rel ∷ seq 1 ∷ pkt 21 ∷ [])
    ∷ says 5 7 (on ∷ rel ∷ seq 0 ∷ pkt 20 ∷ [])
    ∷ says 6 7 (on ∷ rel ∷ seq 1 ∷ pkt 22 ∷ [])
    ∷ next_bundle (on_key 7) room
    ∷ next_bundle (on_key 7) room
    ∷ next_bundle (on_key 7) room
    ∷ says 7 7 (seq 0 ∷ cum 3 ∷ pkt 23 ∷ [])
    ∷ []

abbrev pub printed : List Answer
printed =
    delivered (ok_on 7 0) 1
    ∷ delivered (ok_on 7 2) 1
    ∷ delivered (ok_on 7 2) 1
    ∷ bundle (20 ∷ [])
    ∷ bundle (21 ∷ [])
    ∷ no_bundle
    ∷ undelivered CumulativeOff 0
    ∷ []

-- ---- what is easy to get wrong

-- "No group: create one of length last - first + 1, store, make no bundle even if the length is 1": only when it comes again
abbrev pub one_fragment : List Call
one_fragment =
    says 0 7 (seq 5 ∷ rng 5 5 ∷ pkt 20 ∷ [])
    ∷ next_bundle (off_key 7) room
    ∷ says 1 7 (seq 5 ∷ rng 5 5 ∷ pkt 21 ∷ [])
    ∷ next_bundle (off_key 7) room
    ∷ []

-- a packet of handle 30 is sent reliably on a new channel, then a record comes, and the packet is sent again if it is still unacknowledged
abbrev pub sent_then : Key → List Word → List Call
sent_then k ws = channel k ∷ prepare 0 k 1 (30 ∷ []) ∷ says 1 k.address ws ∷ take_resends 2 0 9 room ∷ []

-- a send on a new on-channel is number 0 of its own source, off-channel number 1 of the shared one
abbrev pub sent_on : ℕ → ℕ → Prepared
sent_on i v = record { allocated = 1; first = 0; on = 1; expected = 0; index = i; version = v; offset = 0 }

abbrev pub sent_off : Prepared
sent_off = record { allocated = 1; first = 1; on = 0; expected = 0; index = 0; version = 0; offset = 0 }

-- the packet of that channel, to be sent again
abbrev pub still : List Resend
still = record { address = 7; handle = 30 } ∷ []

-- the ack queues of the off-channels after a run
abbrev pub queues : List Call → List (List ℕ)
queues es = map (λ (c : OffChannel). c.off.acks) (run es (new false)).state.protocol.offs

abbrev pub forwarded_ack : List Call
forwarded_ack =
    says 0 7 (rel ∷ seq 4 ∷ [])
    ∷ says 0 7 (rel ∷ seq 7 ∷ [])
    ∷ says 0 7 (rel ∷ seq 9 ∷ [])
    ∷ says 0 7 (rel ∷ seq 6 ∷ [])
    ∷ accept_out 1 7 (rec (ack 7 ∷ []))
    ∷ []

-- ---- deliveries of several records: the count is of those that are not refused, here by 9 and by 2

abbrev pub after_refused : Call
after_refused = accept 0 7 (rec (lrs 0 ∷ []) ∷ rec (seq 0x1000_0000 ∷ []) ∷ rec (seq 1 ∷ pkt 20 ∷ []) ∷ rec (seq 2 ∷ pkt 21 ∷ []) ∷ [])

abbrev pub last_refused : Call
last_refused = accept 0 7 (rec (seq 1 ∷ pkt 20 ∷ []) ∷ rec (lrs 0 ∷ []) ∷ [])

-- ---- "Freed room is used again": of packets that are each a bundle the seventeenth has no place, until one bundle is handed out

unfoldable pub filling : ℕ → List Call
filling zero = []
filling (suc n) = says 0 7 (seq n ∷ pkt n ∷ []) ∷ filling n

abbrev pub seventeenth : Call
seventeenth = says 1 7 (seq 16 ∷ pkt 16 ∷ [])

abbrev pub freed : List Call
freed = filling 16 ++ seventeenth ∷ next_bundle (off_key 7) room ∷ seventeenth ∷ []

-- ---- "The Rust panics if the first that differs has no range; the port drops them"

abbrev pub bare_run : List Call
bare_run = says 0 7 (on ∷ rel ∷ seq 0 ∷ rng 0 1 ∷ pkt 20 ∷ []) ∷ says 1 7 (on ∷ rel ∷ seq 1 ∷ pkt 21 ∷ []) ∷ next_bundle (on_key 7) room ∷ []

-- ---- calls that two refusals apply to: at time 9, all channels taken, a packet of the first to be sent again

abbrev pub busy : State
busy =
    record {
      latest = 9;
      protocol =
          record {
            offs = record { address = 1; off = record { out = sent_entry 0 1 30 ∷ []; acks = []; groups = []; bundles = [] } } ∷ new_off 2 ∷ new_off 3 ∷ new_off 4 ∷ [];
            ons = new_on 1 0 0 ∷ new_on 2 0 0 ∷ new_on 3 0 0 ∷ new_on 4 0 0 ∷ new_on 5 0 0 ∷ new_on 6 0 0 ∷ new_on 7 0 0 ∷ new_on 8 5 2 ∷ [];
            source = 2;
            prefix = 0;
            offset = 0;
            forwarding = false;
          };
    }

abbrev pub answered : Call → Answer
answered e = (reply e busy).answer

-- a number that is not legal
abbrev pub wrong : Word
wrong = seq 0x1000_0000

pub record Instances : Type 0 where
  pub the_script : answers_of script ≡ printed
  pub the_script_stays : all_in_domain script (new false) ≡ true
  -- easy to get wrong
  pub one_fragment_lem : answers_of one_fragment ≡ delivered (ok_off 7) 1 ∷ no_bundle ∷ delivered (ok_off 7) 1 ∷ bundle (21 ∷ []) ∷ []
  pub acks_stay_at_7 : answers_of (sent_then (on_key 7) (on ∷ rel ∷ ack 0 ∷ lrs 0 ∷ [])) ≡ found (ok_on 7 0) ∷ prepared (sent_on 0 0) ∷ undelivered LastOnReliable 0 ∷ resends [] ∷ []
  pub acks_stay_at_8 : answers_of (sent_then (on_key 7) (on ∷ ack 0 ∷ lrs 5 ∷ [])) ≡ found (ok_on 7 0) ∷ prepared (sent_on 0 0) ∷ undelivered LastNotExpected 0 ∷ resends [] ∷ []
  pub acks_stay_at_9 : answers_of (sent_then (off_key 7) (ack 1 ∷ lrs 5 ∷ [])) ≡ found (ok_off 7) ∷ prepared sent_off ∷ undelivered LastOff 0 ∷ resends [] ∷ []
  pub no_acks_at_6 : answers_of (sent_then (off_key 7) (cum 9 ∷ ack 1 ∷ [])) ≡ found (ok_off 7) ∷ prepared sent_off ∷ undelivered CumulativeOff 0 ∷ resends still ∷ []
  pub forwarded_ack_lem : queues forwarded_ack ≡ (4 ∷ 6 ∷ 9 ∷ []) ∷ []
  -- the count
  pub count_after_refused : (reply after_refused (new false)).answer ≡ delivered (ok_off 7) 2
  pub count_last_refused : (reply last_refused (new false)).answer ≡ undelivered LastOff 1
  -- a refusal for want of room, and the same packet once there is some
  pub room_again : drop 16 (answers_of freed) ≡ undelivered OverLimit 0 ∷ bundle (15 ∷ []) ∷ delivered (ok_off 7) 1 ∷ []
  -- the panic, and what the port does
  pub bare_run_lem : answers_of bare_run ≡ delivered (ok_on 7 1) 1 ∷ delivered (ok_on 7 2) 1 ∷ no_bundle ∷ []
  pub bare_run_leaves : all_in_domain bare_run (new false) ≡ false
  -- of two refusals the one that is checked first: a delivery
  pub busy_well_formed : well_formed busy ≡ true
  pub in_2_not_3 : answered (says 5 7 (wrong ∷ [])) ≡ undelivered OutOfRange 0
  pub in_2_not_4 : answered (says 9 7 (wrong ∷ [])) ≡ undelivered OutOfRange 0
  pub in_3_not_4 : answered (says 5 7 []) ≡ undelivered TimeBelow 0
  pub in_4_not_6 : answered (says 9 7 (cum 3 ∷ [])) ≡ undelivered TableFull 0
  pub in_4_not_7 : answered (says 9 9 (on ∷ rel ∷ lrs 0 ∷ [])) ≡ undelivered TableFull 0
  pub in_5_not_7 : answered (says 9 8 (on ∷ idx 5 1 ∷ rel ∷ lrs 0 ∷ [])) ≡ undelivered OldVersion 0
  pub in_6_not_7 : answered (says 9 1 (rel ∷ cum 3 ∷ lrs 0 ∷ [])) ≡ undelivered CumulativeOff 0
  pub in_6_not_9 : answered (says 9 1 (cum 3 ∷ lrs 0 ∷ [])) ≡ undelivered CumulativeOff 0
  pub in_7_not_10 : answered (says 9 1 (rel ∷ seq 9 ∷ rng 0 1 ∷ lrs 0 ∷ [])) ≡ undelivered LastOnReliable 0
  pub in_8_not_10 : answered (says 9 1 (on ∷ seq 9 ∷ rng 0 1 ∷ lrs 5 ∷ [])) ≡ undelivered LastNotExpected 0
  pub in_9_not_10 : answered (says 9 1 (seq 9 ∷ rng 0 1 ∷ lrs 5 ∷ [])) ≡ undelivered LastOff 0
  pub in_10_not_11 : answered (says 9 1 (seq 50 ∷ rng 0 39 ∷ [])) ≡ undelivered BeyondGroup 0
  pub in_11 : answered (says 9 1 (seq 35 ∷ rng 0 39 ∷ [])) ≡ undelivered OverLimit 0
  -- forwarded out
  pub out_2_not_3 : answered (accept_out 5 7 (rec (wrong ∷ []))) ≡ refused OutOfRange
  pub out_3_not_4 : answered (accept_out 5 7 (rec [])) ≡ refused TimeBelow
  pub out_4_not_6 : answered (accept_out 9 7 (rec (cum 3 ∷ []))) ≡ refused TableFull
  -- find or create
  pub find_2_not_4 : answered (channel (idx_key 7 0)) ≡ refused OutOfRange
  -- next bundle
  pub next_2_not_13 : answered (next_bundle (idx_key 7 0) room) ≡ refused OutOfRange
  -- send
  pub send_2_not_3 : answered (prepare 5 (idx_key 7 0) 1 []) ≡ refused OutOfRange
  pub send_2_not_13 : answered (prepare 9 (off_key 7) 2 []) ≡ refused OutOfRange
  pub send_3_not_13 : answered (prepare 5 (off_key 7) 1 []) ≡ refused TimeBelow
  -- acks written
  pub wrote_2_not_13 : answered (acks_written (off_key 7) (3 ∷ [])) ≡ refused OutOfRange
  pub wrote_13 : answered (acks_written (off_key 7) []) ≡ refused ChannelAbsent
  -- resends
  pub resends_3_not_12 : answered (take_resends 5 0 20 []) ≡ refused TimeBelow
  pub resends_12 : answered (take_resends 9 0 20 []) ≡ refused ListTooShort
