-- A channel stays good under a record, and under what is forwarded out; a new one is good. Assumes nothing.
use mathlib.Core.Path.{◌≡◌, refl}
use mathlib.Core.Bool.{Bool, true, false, not, cond, ◌&&◌, ◌||◌}
use Prim.Native.Nat.{ℕ, ◌≤◌}
use native.Mathlib.Omega.{arith}
use lib.Dec.{ltb, eqb}
use borrow.Author.Tests.{not-true}
use Rattle.list.specs.Pad.{all_b}
use Rattle.list.proofs.Pad.{never, and_left, and_right}
use Rattle.list.proofs.Tests.{and_both, and_7, and_8, all_b-none}
use Rattle.std.specs.declared.cmp.Ordering.{Ordering}
use Rattle.std.specs.declared.cmp.Ordering.TheVariants.{Less, Equal, Greater}
use Rattle.seq.specs.Num.{legal, add, sub, cmp, later}
use Rattle.packet.specs.declared.Record.{Record}
use Rattle.packet.specs.declared.Key.{Key}
use Rattle.packet.specs.Data.{is_set, is_flag, given, flagged, index_good, acks_good, range_if, range_of, packet_of, packet, index_of, version_of, key_index, well_made, key_made}
use Rattle.model.specs.State.{OffData, OffChannel, OnChannel, new_on, off_with, on_with, with_source}
use Rattle.model.specs.Group.{Stored, done, beyond, add_in_packet, panics}
use Rattle.model.specs.Reorder.{Reliable, reorder, regroup}
use Rattle.model.specs.Record.{Outcome, granted, rejected, far_fragment, bare_run, acked_on, acked_off, queued, observed_if, reliable_of, with_reliable, run_of, reliable_in, stored_on, stored_off, loose_on, loose_off, last_given, rules_on, rules_off, current, on_record, cumulative_given, off_record}
use Rattle.model.specs.Room.{fits_on}
use Rattle.model.specs.Rust.{forwarded, forward_off, forward_on, first_version}
use Rattle.model.specs.Wellformed.{packet_good, rising, consecutive, key_good, data_good, on_good}
use Rattle.model.proofs.Room.{OnFits, fits-on_facts}
use Rattle.model.proofs.Wellformed.{DataGood, data_facts, data_test}
use Rattle.kept.proofs.Reorder.{add-legal, Side, side_reorder, side_regroup, side_out, side_rising, side_consecutive, below-legal}
use Rattle.kept.proofs.Data.{data_new, data_later, data_bundles, acked-on, acked-off, queued-good, LegalRange, StoredGood, added-good, forwarded-good}
use Rattle.kept.proofs.Room.{acked-on-fits}

-- ---- the test as facts

pub record OnGood (t : ℕ) (c : OnChannel) : Type 0 where
  pub key : key_good c ≡ true
  pub common : DataGood t c.off
  pub source : legal c.source ≡ true
  pub side : Side (reliable_of c)

pub on_facts : (t : ℕ) (c : OnChannel) → on_good t c ≡ true → OnGood t c
unfolding on_good
on_facts t c h =
    let l = and_8 (key_good c) (data_good t c.off) (legal c.expected) (legal c.source) (all_b packet_good c.buffer) (all_b packet_good c.queue) (rising c.expected 0 c.buffer) (consecutive c.expected c.queue) h in
    record { key = l.0; common = data_facts t c.off l.1; source = l.3; side = side_out (reliable_of c) l.2 l.4 l.5 l.6 l.7 }

pub on_test : (t : ℕ) (c : OnChannel) → OnGood t c → on_good t c ≡ true
unfolding on_good
on_test t c g =
    let w = g.side in
    and_both (and_both (and_both (and_both (and_both (and_both (and_both g.key (data_test t c.off g.common)) (below-legal c.expected w.legal)) g.source) w.buffered) w.waiting) (side_rising (reliable_of c) w)) (side_consecutive (reliable_of c) w)

pub on-later : (t u : ℕ) → t ≤ u → (c : OnChannel) → OnGood t c → OnGood u c
on-later t u h c g = record { key = g.key; common = data_later t u h c.off g.common; source = g.source; side = g.side }

-- what both have, or the source, new
pub on_with_lem : (t : ℕ) (d : OffData) (c : OnChannel) → DataGood t d → OnGood t c → OnGood t (on_with d c)
on_with_lem t d c h g = record { key = g.key; common = h; source = g.source; side = record { legal = g.side.legal; buffered = g.side.buffered; waiting = g.side.waiting; rising = g.side.rising; behind = g.side.behind } }

pub on-source : (t n : ℕ) (c : OnChannel) → legal n ≡ true → OnGood t c → OnGood t (with_source n c)
on-source t n c h g = record { key = g.key; common = g.common; source = h; side = g.side }

-- ---- a new channel

pub on-new : (t a i v : ℕ) → key_good (new_on a i v) ≡ true → OnGood t (new_on a i v)
on-new t a i v h =
    record {
      key = h;
      common = data_new t;
      source = refl;
      side = record { legal = omega arith; buffered = all_b-none packet_good; waiting = all_b-none packet_good; rising = tt; behind = tt };
    }

-- ---- what a well-made record says

record Made (r : Record) : Type 0 where
  index : index_good r ≡ true
  number : legal r.number ≡ true
  ranges : given r.ranged (legal r.first && legal r.last) ≡ true

record_facts : (r : Record) → well_made r ≡ true → Made r
unfolding well_made
record_facts r h =
    let l = and_7 (flagged r) (index_good r) (legal r.number) (given r.ranged (legal r.first && legal r.last)) (given r.hascumulative (legal r.cumulative)) (given r.haslast (legal r.lastreliable)) (acks_good r) h in
    record { index = l.1; number = l.2; ranges = l.3 }

pub number-legal : (r : Record) → well_made r ≡ true → legal r.number ≡ true
number-legal r h = (record_facts r h).number

pub packet-good : (r : Record) → well_made r ≡ true → packet_good (packet r) ≡ true
packet-good r h = at (is_set r.ranged) (record_facts r h).ranges
  where
    at : (b : Bool) → not b || (legal r.first && legal r.last) ≡ true → packet_good (packet_of r.number r.handle (range_if b r.first r.last)) ≡ true
    at true k = and_both (and_both (number-legal r h) refl) k
    at false k = and_both (and_both (number-legal r h) refl) refl

pub range-legal : (r : Record) → well_made r ≡ true → LegalRange (range_of (packet r))
range-legal r h = at (is_set r.ranged) (record_facts r h).ranges
  where
    at : (b : Bool) → not b || (legal r.first && legal r.last) ≡ true → LegalRange (range_of (packet_of r.number r.handle (range_if b r.first r.last)))
    at true k = and_left (legal r.first) (legal r.last) k
    at false k = tt

-- a channel that the record makes has a good key
pub record_key : (a : ℕ) (r : Record) → well_made r ≡ true → is_set r.on ≡ true → key_good (new_on a (index_of r) (version_of r)) ≡ true
record_key a r h o = at (is_set r.on) (is_set r.indexed) o (record_facts r h).index
  where
    at : (on indexed : Bool) → on ≡ true → not on || (not indexed || (not (eqb r.index 0) && not (eqb r.version 0))) ≡ true
        → key_good (new_on a (cond indexed r.index 0) (cond indexed r.version 0)) ≡ true
    at false indexed p k = never p
    at true true p k = rw (not-true (eqb r.index 0) (and_left (not (eqb r.index 0)) (not (eqb r.version 0)) k)) (and_right (not (eqb r.index 0)) (not (eqb r.version 0)) k)
    at true false p k = refl

-- and so has one that a key makes: "a created index gets version 1"
pub key_key : (k : Key) → key_made k ≡ true → is_set k.on ≡ true → key_good (new_on k.address (key_index k) (first_version k)) ≡ true
unfolding key_made
key_key k h o = at (is_set k.on) (is_set k.indexed) o (and_right (is_flag k.on && is_flag k.indexed) (given k.on (given k.indexed (not (eqb k.index 0)))) h)
  where
    at : (on indexed : Bool) → on ≡ true → not on || (not indexed || not (eqb k.index 0)) ≡ true → key_good (new_on k.address (cond indexed k.index 0) (cond indexed 1 0)) ≡ true
    at false indexed p q = never p
    at true true p q = rw (not-true (eqb k.index 0) q)
    at true false p q = refl

-- ---- what the Rust makes of a record, where it leaves a channel

abbrev pub Leaves : {X : Type 0} → (X → Type 0) → Outcome X → Type 0
Leaves P (granted x) = P x
Leaves P (rejected n x) = Unit {0}
Leaves P far_fragment = Unit {0}
Leaves P (bare_run x) = P x

observed-legal : (b : Bool) (next n : ℕ) → legal next ≡ true → legal (observed_if b next n) ≡ true
observed-legal true next n h = at (cmp (add n 1) next)
  where
    at : (o : Ordering) → legal (later o (add n 1) next) ≡ true
    at Less = h
    at Equal = h
    at Greater = add-legal n 1
observed-legal false next n h = h

module _ (t : ℕ) (r : Record) (made : well_made r ≡ true) where
  with_reliable_lem : (l : Reliable) (c : OnChannel) → Side l → OnGood t c → OnGood t (with_reliable l c)
  with_reliable_lem l c w g =
      record {
        key = g.key;
        common = data_bundles t c.off g.common l.bundles;
        source = g.source;
        side = record { legal = w.legal; buffered = w.buffered; waiting = w.waiting; rising = w.rising; behind = w.behind };
      }

  run_of_lem : (b : Bool) (c : OnChannel) → OnGood t c → Leaves (OnGood t) (run_of b c)
  run_of_lem true c g = g
  run_of_lem false c g = g

  reliable_in_lem : (forwarding : Bool) (c : OnChannel) → OnFits c → OnGood t c → Leaves (OnGood t) (reliable_in forwarding r c)
  unfolding reliable_in
  reliable_in_lem forwarding c f g =
      let l = reorder (reliable_of c) (packet r) in
      let d : OnChannel = with_source (observed_if forwarding c.source r.number) (on_with (queued r c.off) c) in
      let w : Side l = side_reorder (reliable_of c) (packet r) (packet-good r made) (omega (arith, f.buffer, f.queue)) g.side in
      let h : OnGood t d = on-source t (observed_if forwarding c.source r.number) (on_with (queued r c.off) c) (observed-legal forwarding c.source r.number g.source) (on_with_lem t (queued r c.off) c (queued-good t r c.off (number-legal r made) g.common) g) in
      run_of_lem (panics l.queue) (with_reliable (regroup l) d) (with_reliable_lem (regroup l) d (side_regroup l w) h)

  loose_on_lem : (c : OnChannel) → OnGood t c → Leaves (OnGood t) (loose_on t r c)
  unfolding loose_on
  loose_on_lem c g = at (add_in_packet t (packet r) c.off) (added-good t (packet r) c.off (range-legal r made) g.common)
    where
      at : (s : Stored) → StoredGood t s → Leaves (OnGood t) (stored_on c s)
      at (done d) h = on_with_lem t d c h g
      at beyond h = tt

  loose_off_lem : (c : OffChannel) → DataGood t c.off → Leaves (λ x. DataGood t x.off) (loose_off t r c)
  unfolding loose_off
  loose_off_lem c g = at (add_in_packet t (packet r) c.off) (added-good t (packet r) c.off (range-legal r made) g)
    where
      at : (s : Stored) → StoredGood t s → Leaves (λ x. DataGood t x.off) (stored_off c s)
      at (done d) h = h
      at beyond h = tt

  last_given_lem : (b : Bool) (c : OnChannel) → OnGood t c → Leaves (OnGood t) (last_given b t r c)
  last_given_lem true c g = loose_on_lem c g
  last_given_lem false c g = tt

  rules_on_lem : (reliable last forwarding : Bool) (c : OnChannel) → OnFits c → OnGood t c → Leaves (OnGood t) (rules_on reliable last forwarding t r c)
  rules_on_lem true true forwarding c f g = tt
  rules_on_lem true false forwarding c f g = reliable_in_lem forwarding c f g
  rules_on_lem false true forwarding c f g = last_given_lem (eqb r.lastreliable (sub c.expected 1)) c g
  rules_on_lem false false forwarding c f g = loose_on_lem c g

  rules_off_lem : (reliable last : Bool) (c : OffChannel) → DataGood t c.off → Leaves (λ x. DataGood t x.off) (rules_off reliable last t r c)
  rules_off_lem true true c g = tt
  rules_off_lem true false c g = loose_off_lem (off_with (queued r c.off) c) (queued-good t r c.off (number-legal r made) g)
  rules_off_lem false true c g = tt
  rules_off_lem false false c g = loose_off_lem c g

  pub on_record_lem : (forwarding : Bool) (c : OnChannel) → fits_on c ≡ true → OnGood t c → Leaves (OnGood t) (on_record forwarding t r c)
  unfolding on_record
  on_record_lem forwarding c f g = at (ltb (version_of r) c.version)
    where
      fs : OnFits c
      fs = fits-on_facts c f

      at : (b : Bool) → Leaves (OnGood t) (current b forwarding t r c)
      at true = tt
      at false = rules_on_lem (is_set r.reliable) (is_set r.haslast) forwarding (on_with (acked_on r c.off) c) (record { common = acked-on-fits r c.off fs.common; buffer = fs.buffer; queue = fs.queue }) (on_with_lem t (acked_on r c.off) c (acked-on t r c.off g.common) g)

  pub off_record_lem : (c : OffChannel) → DataGood t c.off → Leaves (λ x. DataGood t x.off) (off_record t r c)
  unfolding off_record
  off_record_lem c g = at (is_set r.hascumulative)
    where
      at : (b : Bool) → Leaves (λ x. DataGood t x.off) (cumulative_given b t r c)
      at true = tt
      at false = rules_off_lem (is_set r.reliable) (is_set r.haslast) (off_with (acked_off r c.off) c) (acked-off t r c.off g)

  -- ---- forwarded out

  pub forward-off : (b : Bool) (c : OffChannel) → DataGood t c.off → Leaves (λ x. DataGood t x.off) (forward_off b t r c)
  forward-off true c g = tt
  forward-off false c g = forwarded-good t false r c.off (number-legal r made) g

  pub forward-on : (c : OnChannel) → OnGood t c → OnGood t (forward_on t r c)
  forward-on c g = on_with_lem t (forwarded (is_set r.hascumulative) t r c.off) c (forwarded-good t (is_set r.hascumulative) r c.off (number-legal r made) g.common) g
