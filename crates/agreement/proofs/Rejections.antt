-- What the Rust leaves where it rejects a record by its own rules, 5 to 9, is what the port's table of refusals says. Assumes nothing.
use mathlib.Core.Path.{◌≡◌, refl, sym}
use mathlib.Core.Bool.{Bool, true, false}
use mathlib.Core.List.{List, [], ◌∷◌}
use Prim.Native.Nat.{ℕ}
use lib.Dec.{ltb, eqb}
use Rattle.list.specs.Find.{has}
use Rattle.seq.specs.Num.{sub}
use Rattle.packet.specs.declared.Record.{Record}
use Rattle.packet.specs.Data.{is_set, packet, index_of, version_of}
use Rattle.model.specs.State.{OffChannel, OnChannel, Protocol, State, off_with, on_with, with_source, with_prefix, with_time, with_protocol, off_at, on_at}
use Rattle.packet.specs.declared.Refusal.TheVariants.{BeyondGroup}
use Rattle.model.specs.Refusals.{Stages, left}
use Rattle.model.specs.Group.{Stored, done, beyond, add_in_packet, panics}
use Rattle.model.specs.Reorder.{reorder, regroup}
use Rattle.model.specs.Record.{Outcome, granted, rejected, far_fragment, bare_run, acked_on, acked_off, queued, observed_if, reliable_of, with_reliable, run_of, reliable_in, stored_on, stored_off, loose_on, loose_off, last_given, rules_on, rules_off, current, on_record, cumulative_given, off_record}
use Rattle.model.specs.Rust as rust
use Rattle.model.specs.Port.{record_channel, record_acks, record_stages, out_stages}
use Rattle.agreement.specs.Effects.{among}
use Rattle.agreement.proofs.Channels.{put_on-found, version-here}

-- a record's states on the way, by whether it is on-channel
abbrev stages_if : Bool → ℕ → Record → State → Stages State
stages_if on a r s =
    record {
      nothing = s;
      time = s;
      prefix = with_protocol (with_prefix r.prefix s.protocol) s;
      channel = with_protocol (record_channel on a r (with_prefix r.prefix s.protocol)) s;
      acks = with_protocol (record_acks on a r (with_prefix r.prefix s.protocol)) s;
    }

-- and those of forwarded out
abbrev out_stages_if : Bool → ℕ → ℕ → Record → State → Stages State
out_stages_if on t a r s =
    record {
      nothing = s;
      time = with_time t s;
      prefix = with_time t s;
      channel = with_protocol (record_channel on a r s.protocol) (with_time t s);
      acks = with_protocol (record_channel on a r s.protocol) (with_time t s);
    }

-- of an outcome: where it is a rejection, it is by one of these numbers, and leaves what the refusal's row says of these states; a fragment
-- beyond its group is there only where its number is one of them
abbrev pub Leaves : List ℕ → Stages State → Outcome Protocol → Type 0
Leaves ns w (granted p) = record {}
Leaves ns w (rejected x p) = ((left x w).protocol ≡ p) × (among ns x ≡ true)
Leaves ns w far_fragment = among ns BeyondGroup ≡ true
Leaves ns w (bare_run p) = record {}

-- the numbers that the Rust's own rules can come to: of a record, and of forwarded out
abbrev pub own_record : List ℕ
own_record = 5 ∷ 6 ∷ 7 ∷ 8 ∷ 9 ∷ 10 ∷ []

abbrev pub own_out : List ℕ
own_out = 6 ∷ []

module _ (t a : ℕ) (r : Record) (s : State) where
  -- the state that the channel is put back into
  abbrev base : Protocol
  base = with_prefix r.prefix s.protocol

  -- an outcome on the record's channel leaves that
  abbrev OnLeaves : Outcome OnChannel → Type 0
  OnLeaves o = Leaves own_record (stages_if true a r s) (rust.outcome_map (rust.keep_on base) o)

  abbrev OffLeaves : Outcome OffChannel → Type 0
  OffLeaves o = Leaves own_record (stages_if false a r s) (rust.outcome_map (rust.keep_off base) o)

  -- ---- rules that reject nothing

  on_stored : (c : OnChannel) (w : Stored) → OnLeaves (stored_on c w)
  unfolding has
  on_stored c (done d) = record {}
  on_stored c beyond = refl

  off_stored : (c : OffChannel) (w : Stored) → OffLeaves (stored_off c w)
  unfolding has
  off_stored c (done d) = record {}
  off_stored c beyond = refl

  on_loose : (c : OnChannel) → OnLeaves (loose_on t r c)
  unfolding loose_on
  on_loose c = on_stored c (add_in_packet t (packet r) c.off)

  off_loose : (c : OffChannel) → OffLeaves (loose_off t r c)
  unfolding loose_off
  off_loose c = off_stored c (add_in_packet t (packet r) c.off)

  on-run : (b : Bool) (c : OnChannel) → OnLeaves (run_of b c)
  on-run true c = record {}
  on-run false c = record {}

  on_reliable : (f : Bool) (c : OnChannel) → OnLeaves (reliable_in f r c)
  unfolding reliable_in
  on_reliable f c =
      on-run
      (panics (reorder (reliable_of c) (packet r)).queue)
      (with_reliable (regroup (reorder (reliable_of c) (packet r))) (with_source (observed_if f c.source r.number) (on_with (queued r c.off) c)))

  -- ---- the record's channel, found or new, and with its acks applied

  abbrev on_for : OnChannel
  on_for = on_at a (index_of r) (version_of r) s.protocol

  abbrev off_for : OffChannel
  off_for = off_at a s.protocol

  abbrev on_acked : OnChannel
  on_acked = on_with (acked_on r on_for.off) on_for

  abbrev off_acked : OffChannel
  off_acked = off_with (acked_off r off_for.off) off_for

  -- 8
  on_last : (same : Bool) → OnLeaves (last_given same t r on_acked)
  unfolding has
  on_last true = on_loose on_acked
  on_last false = (refl, refl)

  -- 7
  on_rules : (reliable last f : Bool) → OnLeaves (rules_on reliable last f t r on_acked)
  unfolding has
  on_rules true true f = (refl, refl)
  on_rules true false f = on_reliable f on_acked
  on_rules false true f = on_last (eqb r.lastreliable (sub on_acked.expected 1))
  on_rules false false f = on_loose on_acked

  -- 5: the channel was there, so that to put it back changes nothing
  on-current : (old f : Bool) → ltb (version_of r) on_for.version ≡ old → OnLeaves (current old f t r on_for)
  unfolding has
  on-current true f e = (sym (put_on-found a (index_of r) (version_of r) base (version-here a (index_of r) (version_of r) base e)), refl)
  on-current false f e = on_rules (is_set r.reliable) (is_set r.haslast) f

  -- 7 and 9
  off_rules : (reliable last : Bool) → OffLeaves (rules_off reliable last t r off_acked)
  unfolding has
  off_rules true true = (refl, refl)
  off_rules true false = off_loose (off_with (queued r off_acked.off) off_acked)
  off_rules false true = (refl, refl)
  off_rules false false = off_loose off_acked

  -- 6
  off-cumulative : (cumulative : Bool) → OffLeaves (cumulative_given cumulative t r off_for)
  unfolding has
  off-cumulative true = (refl, refl)
  off-cumulative false = off_rules (is_set r.reliable) (is_set r.haslast)

  record_leaves : (on : Bool) → Leaves own_record (stages_if on a r s) (rust.record_of on t a r s.protocol)
  unfolding on_record off_record
  record_leaves true = on-current (ltb (version_of r) on_for.version) s.protocol.forwarding refl
  record_leaves false = off-cumulative (is_set r.hascumulative)

  -- forwarded out rejects by 6 alone
  out-cumulative : (cumulative : Bool) → Leaves own_out (out_stages_if false t a r s) (rust.outcome_map (rust.keep_off s.protocol) (rust.forward_off cumulative t r off_for))
  unfolding has
  out-cumulative true = (refl, refl)
  out-cumulative false = record {}

  out-leaves : (on : Bool) → Leaves own_out (out_stages_if on t a r s) (rust.forward_of on t a r s.protocol)
  out-leaves true = record {}
  out-leaves false = out-cumulative (is_set r.hascumulative)

-- a record that the Rust rejects leaves its protocol as the port's row of that refusal does
pub record_outcome : (t a : ℕ) (r : Record) (s : State) → Leaves own_record (record_stages a r s) (rust.accept_record t a r s.protocol)
unfolding rust.accept_record
record_outcome t a r s = record_leaves t a r s (is_set r.on)

-- and so does forwarded out
pub out_outcome : (t a : ℕ) (r : Record) (s : State) → Leaves own_out (out_stages t a r s) (rust.accept_out t a r s.protocol)
unfolding rust.accept_out
out_outcome t a r s = out-leaves t a r s (is_set r.on)
