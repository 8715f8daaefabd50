-- What a record leaves that its channel's rules refuse, and the key that its channel keeps: as the table of refusals says. Assumes nothing.
use mathlib.Core.Path.{◌≡◌, refl, sym, ap, ◌∙◌}
use mathlib.Core.Bool.{Bool, true, false, ◌&&◌, ◌||◌, cond}
use mathlib.Core.List.{List, [], ◌∷◌}
use Prim.Native.Nat.{ℕ, ◌<◌}
use native.Mathlib.Omega.{arith}
use lib.Dec.{ltb, eqb}
use borrow.Author.Tests.{eq-eqb, eqb-true, ltb-true}
use Rattle.list.specs.Find.{has, find_by, put_by}
use Rattle.list.proofs.Pad.{never, and_left, and_right}
use Rattle.list.proofs.Find.{find_absent, find-passes, put_found}
use Rattle.seq.specs.Num.{sub}
use Rattle.packet.specs.declared.Record.{Record}
use Rattle.packet.specs.Data.{is_set, packet, index_of, version_of}
use Rattle.model.specs.State.{OffChannel, OnChannel, Protocol, State, is_off, is_on, has_off, has_on, off_with, on_with, with_source, with_prefix, with_protocol, off_at, on_at, new_off, new_on, put_off, put_on}
use Rattle.model.specs.Refusals.{Refusal, Stages, left}
use Rattle.model.specs.Group.{Stored, done, beyond, add_in_packet, panics}
use Rattle.model.specs.Reorder.{reorder, regroup}
use Rattle.model.specs.Record.{Outcome, granted, rejected, far_fragment, bare_run, acked_on, acked_off, queued, observed_if, reliable_of, with_reliable, run_of, reliable_in, stored_on, stored_off, loose_on, loose_off, last_given, rules_on, rules_off, current, on_record, cumulative_given, off_record}
use Rattle.model.specs.Rust as rust
use Rattle.model.specs.Port.{record_channel, record_acks, record_stages}
use Rattle.chan.specs.declared.records.Way.{Way}
use Rattle.chan.specs.declared.records.Way.TheVariants.{In, Out}
use Rattle.chan.specs.Rules.{outcome_on, outcome_off}
use Rattle.tab.specs.Played.{late}

-- ---- the channel of a key

module _ (a i v : ℕ) (p : Protocol) where
  on_at_is : is_on a i (on_at a i v p) ≡ true
  on_at_is = at (has_on a i p) refl
    where
      at : (b : Bool) → has_on a i p ≡ b → is_on a i (on_at a i v p) ≡ true
      at true q = find-passes (is_on a i) (new_on a i v) p.ons q
      at false q = ap (λ (c : OnChannel). is_on a i c) (find_absent (is_on a i) (new_on a i v) p.ons q) ∙ rw (eq-eqb a a refl, eq-eqb i i refl) refl

  pub on_at_address : (on_at a i v p).address ≡ a
  on_at_address = let c = on_at a i v p in eqb-true c.address a (and_left (eqb c.address a) (eqb c.index i) on_at_is)

  pub on_at_index : (on_at a i v p).index ≡ i
  on_at_index = let c = on_at a i v p in eqb-true c.index i (and_right (eqb c.address a) (eqb c.index i) on_at_is)

  -- put back as it was, it changes nothing
  pub put_on_same : has_on a i p ≡ true → put_on (on_at a i v p) p ≡ p
  put_on_same h =
      let xs : put_by (is_on (on_at a i v p).address (on_at a i v p).index) (on_at a i v p) p.ons ≡ p.ons =
      (λ j. put_by (is_on (on_at_address j) (on_at_index j)) (on_at a i v p) p.ons) ∙ put_found (is_on a i) (new_on a i v) p.ons h in
      λ j. record { offs = p.offs; ons = xs j; source = p.source; prefix = p.prefix; offset = p.offset; forwarding = p.forwarding }

  -- a version below the channel's says that the channel was there
  pub version_here : ltb v (on_at a i v p).version ≡ true → has_on a i p ≡ true
  version_here h = at (has_on a i p) refl
    where
      at : (b : Bool) → has_on a i p ≡ b → has_on a i p ≡ true
      at true q = q
      at false q =
          let e : (on_at a i v p).version ≡ v = ap (λ (c : OnChannel). c.version) (find_absent (is_on a i) (new_on a i v) p.ons q) in
          absurd (omega (arith, ltb-true v (on_at a i v p).version h, e))

pub off_at_address : (a : ℕ) (p : Protocol) → (off_at a p).address ≡ a
off_at_address a p = at (has_off a p) refl
  where
    at : (b : Bool) → has_off a p ≡ b → (off_at a p).address ≡ a
    at true q = eqb-true (off_at a p).address a (find-passes (is_off a) (new_off a) p.offs q)
    at false q = ap (λ (c : OffChannel). c.address) (find_absent (is_off a) (new_off a) p.offs q)

pub put_off_same : (a : ℕ) (p : Protocol) → has_off a p ≡ true → put_off (off_at a p) p ≡ p
put_off_same a p h =
    let xs : put_by (is_off (off_at a p).address) (off_at a p) p.offs ≡ p.offs =
    (λ j. put_by (is_off (off_at_address a p j)) (off_at a p) p.offs) ∙ put_found (is_off a) (new_off a) p.offs h in
    λ j. record { offs = xs j; ons = p.ons; source = p.source; prefix = p.prefix; offset = p.offset; forwarding = p.forwarding }

-- ---- a channel keeps its key, and its rules refuse by 5 to 9

-- what each channel of an outcome meets
abbrev pub Each : {X : Type 0} → (X → Type 0) → Outcome X → Type 0
Each P (granted x) = P x
Each P (rejected n x) = P x × (late n ≡ false)
Each P far_fragment = Unit {0}
Each P (bare_run x) = P x

abbrev pub OnKeyed : ℕ → ℕ → OnChannel → Type 0
OnKeyed a i x = (x.address ≡ a) × (x.index ≡ i)

abbrev pub OffKeyed : ℕ → OffChannel → Type 0
OffKeyed a x = x.address ≡ a

module _ (a i t : ℕ) (r : Record) where
  run_keyed : (b : Bool) (c : OnChannel) → OnKeyed a i c → Each (OnKeyed a i) (run_of b c)
  run_keyed true c k = k
  run_keyed false c k = k

  reliable_keyed : (forwarding : Bool) (c : OnChannel) → OnKeyed a i c → Each (OnKeyed a i) (reliable_in forwarding r c)
  unfolding reliable_in
  reliable_keyed forwarding c k =
      let l = reorder (reliable_of c) (packet r) in
      run_keyed (panics l.queue) (with_reliable (regroup l) (with_source (observed_if forwarding c.source r.number) (on_with (queued r c.off) c))) k

  loose_keyed : (c : OnChannel) → OnKeyed a i c → Each (OnKeyed a i) (loose_on t r c)
  unfolding loose_on
  loose_keyed c k = at (add_in_packet t (packet r) c.off)
    where
      at : (s : Stored) → Each (OnKeyed a i) (stored_on c s)
      at (done d) = k
      at beyond = tt

  last_keyed : (b : Bool) (c : OnChannel) → OnKeyed a i c → Each (OnKeyed a i) (last_given b t r c)
  last_keyed true c k = loose_keyed c k
  last_keyed false c k = (k, refl)

  rules_keyed : (reliable last forwarding : Bool) (c : OnChannel) → OnKeyed a i c → Each (OnKeyed a i) (rules_on reliable last forwarding t r c)
  rules_keyed true true forwarding c k = (k, refl)
  rules_keyed true false forwarding c k = reliable_keyed forwarding c k
  rules_keyed false true forwarding c k = last_keyed (eqb r.lastreliable (sub c.expected 1)) c k
  rules_keyed false false forwarding c k = loose_keyed c k

  on_record_keyed : (forwarding : Bool) (c : OnChannel) → OnKeyed a i c → Each (OnKeyed a i) (on_record forwarding t r c)
  unfolding on_record
  on_record_keyed forwarding c k = at (ltb (version_of r) c.version)
    where
      at : (b : Bool) → Each (OnKeyed a i) (current b forwarding t r c)
      at true = (k, refl)
      at false = rules_keyed (is_set r.reliable) (is_set r.haslast) forwarding (on_with (acked_on r c.off) c) k

  loose_off_keyed : (c : OffChannel) → OffKeyed a c → Each (OffKeyed a) (loose_off t r c)
  unfolding loose_off
  loose_off_keyed c k = at (add_in_packet t (packet r) c.off)
    where
      at : (s : Stored) → Each (OffKeyed a) (stored_off c s)
      at (done d) = k
      at beyond = tt

  rules_off_keyed : (reliable last : Bool) (c : OffChannel) → OffKeyed a c → Each (OffKeyed a) (rules_off reliable last t r c)
  rules_off_keyed true true c k = (k, refl)
  rules_off_keyed true false c k = loose_off_keyed (off_with (queued r c.off) c) k
  rules_off_keyed false true c k = (k, refl)
  rules_off_keyed false false c k = loose_off_keyed c k

  off_record_keyed : (c : OffChannel) → OffKeyed a c → Each (OffKeyed a) (off_record t r c)
  unfolding off_record
  off_record_keyed c k = at (is_set r.hascumulative)
    where
      at : (b : Bool) → Each (OffKeyed a) (cumulative_given b t r c)
      at true = (k, refl)
      at false = rules_off_keyed (is_set r.reliable) (is_set r.haslast) (off_with (acked_off r c.off) c) k

-- the record's channel, found or new, by either way
pub on_keyed : (way : Way) (a t : ℕ) (r : Record) (p : Protocol) → Each (OnKeyed a (index_of r)) (outcome_on way t r (on_at a (index_of r) (version_of r) p))
on_keyed (In forwarding) a t r p =
    on_record_keyed a (index_of r) t r forwarding (on_at a (index_of r) (version_of r) p) (on_at_address a (index_of r) (version_of r) p, on_at_index a (index_of r) (version_of r) p)
on_keyed Out a t r p = (on_at_address a (index_of r) (version_of r) p, on_at_index a (index_of r) (version_of r) p)

pub off_keyed : (way : Way) (a t : ℕ) (r : Record) (p : Protocol) → Each (OffKeyed a) (outcome_off way t r (off_at a p))
off_keyed (In forwarding) a t r p = off_record_keyed a (index_of r) t r (off_at a p) (off_at_address a p)
off_keyed Out a t r p = at (is_set r.hascumulative)
  where
    at : (b : Bool) → Each (OffKeyed a) (rust.forward_off b t r (off_at a p))
    at true = (off_at_address a p, refl)
    at false = off_at_address a p

-- ---- what a refusal leaves

-- a record's states on the way, by whether it is on-channel
abbrev stages_if : Bool → ℕ → Record → State → Stages State
stages_if on a r s =
    record {
      nothing = s;
      time = s;
      prefix = with_protocol (with_prefix r.prefix s.protocol) s;
      channel = with_protocol (record_channel on a r (with_prefix r.prefix s.protocol)) s;
      acks = with_protocol (record_acks on a r (with_prefix r.prefix s.protocol)) s;
    }

-- an outcome that is a rejection leaves what the refusal's row says of these states
abbrev pub Leaves : Stages State → Outcome Protocol → Type 0
Leaves w (granted p) = Unit {0}
Leaves w (rejected x p) = (left x w).protocol ≡ p
Leaves w far_fragment = Unit {0}
Leaves w (bare_run p) = Unit {0}

module _ (t a : ℕ) (r : Record) (s : State) where
  -- the state that the channel is put back into
  abbrev base : Protocol
  base = with_prefix r.prefix s.protocol

  abbrev OnLeaves : Outcome OnChannel → Type 0
  OnLeaves o = Leaves (stages_if true a r s) (rust.outcome_map (rust.keep_on base) o)

  abbrev OffLeaves : Outcome OffChannel → Type 0
  OffLeaves o = Leaves (stages_if false a r s) (rust.outcome_map (rust.keep_off base) o)

  on_stored : (c : OnChannel) (w : Stored) → OnLeaves (stored_on c w)
  on_stored c (done d) = tt
  on_stored c beyond = tt

  off_stored : (c : OffChannel) (w : Stored) → OffLeaves (stored_off c w)
  off_stored c (done d) = tt
  off_stored c beyond = tt

  on_loose : (c : OnChannel) → OnLeaves (loose_on t r c)
  unfolding loose_on
  on_loose c = on_stored c (add_in_packet t (packet r) c.off)

  off_loose : (c : OffChannel) → OffLeaves (loose_off t r c)
  unfolding loose_off
  off_loose c = off_stored c (add_in_packet t (packet r) c.off)

  on_run : (b : Bool) (c : OnChannel) → OnLeaves (run_of b c)
  on_run true c = tt
  on_run false c = tt

  on_reliable : (f : Bool) (c : OnChannel) → OnLeaves (reliable_in f r c)
  unfolding reliable_in
  on_reliable f c =
      on_run (panics (reorder (reliable_of c) (packet r)).queue) (with_reliable (regroup (reorder (reliable_of c) (packet r))) (with_source (observed_if f c.source r.number) (on_with (queued r c.off) c)))

  -- the record's channel, found or new, and with its acks applied
  abbrev on_for : OnChannel
  on_for = on_at a (index_of r) (version_of r) s.protocol

  abbrev off_for : OffChannel
  off_for = off_at a s.protocol

  abbrev on_after : OnChannel
  on_after = on_with (acked_on r on_for.off) on_for

  abbrev off_after : OffChannel
  off_after = off_with (acked_off r off_for.off) off_for

  -- 8
  on_last : (same : Bool) → OnLeaves (last_given same t r on_after)
  on_last true = on_loose on_after
  on_last false = refl

  -- 7
  on_rules : (reliable last f : Bool) → OnLeaves (rules_on reliable last f t r on_after)
  on_rules true true f = refl
  on_rules true false f = on_reliable f on_after
  on_rules false true f = on_last (eqb r.lastreliable (sub on_after.expected 1))
  on_rules false false f = on_loose on_after

  -- 5: the channel was there, so that to put it back changes nothing
  on_current : (old f : Bool) → ltb (version_of r) on_for.version ≡ old → OnLeaves (current old f t r on_for)
  on_current true f e = sym (put_on_same a (index_of r) (version_of r) base (version_here a (index_of r) (version_of r) base e))
  on_current false f e = on_rules (is_set r.reliable) (is_set r.haslast) f

  -- 7 and 9
  off_rules : (reliable last : Bool) → OffLeaves (rules_off reliable last t r off_after)
  off_rules true true = refl
  off_rules true false = off_loose (off_with (queued r off_after.off) off_after)
  off_rules false true = refl
  off_rules false false = off_loose off_after

  -- 6
  off_cumulative : (cumulative : Bool) → OffLeaves (cumulative_given cumulative t r off_for)
  off_cumulative true = refl
  off_cumulative false = off_rules (is_set r.reliable) (is_set r.haslast)

  record_leaves : (on : Bool) → Leaves (stages_if on a r s) (rust.record_of on t a r s.protocol)
  unfolding on_record off_record
  record_leaves true = on_current (ltb (version_of r) on_for.version) s.protocol.forwarding refl
  record_leaves false = off_cumulative (is_set r.hascumulative)

-- a record that its channel rejects leaves the state as the row of that refusal does
pub record_outcome : (t a : ℕ) (r : Record) (s : State) → Leaves (record_stages a r s) (rust.accept_record t a r s.protocol)
unfolding rust.accept_record
record_outcome t a r s = record_leaves t a r s (is_set r.on)
