-- A record of a delivery, and one forwarded out, leave the table well formed, granted or refused. Assumes nothing.
use mathlib.Core.Path.{◌≡◌, refl}
use mathlib.Core.Bool.{Bool, true, false}
use mathlib.Core.List.{List, [], ◌∷◌}
use Prim.Native.Nat.{ℕ}
use Rattle.packet.specs.declared.Record.{Record}
use Rattle.packet.specs.Data.{is_set, index_of, version_of, well_made}
use Rattle.model.specs.State.{OffChannel, OnChannel, Protocol, State, off_with, on_with, with_prefix, with_protocol, off_at, on_at}
use Rattle.model.specs.Refusals.{Refusal, Change, nothing, time, prefix, channel, acks, changes, Stages, stage, left}
use Rattle.model.specs.Record.{Outcome, granted, rejected, far_fragment, bare_run, acked_on, acked_off, on_record, off_record}
use Rattle.model.specs.Room.{fits, fits_on}
use Rattle.model.specs.Rust.{outcome_map, keep_on, keep_off, record_of, accept_record, forward_off, forward_on, forward_of, accept_out}
use Rattle.model.specs.Port.{record_channel, record_acks, record_stages, room_record, judge_record, has_place, place_record, made_record, record_step, play}
use Rattle.model.proofs.Room.{fits_facts, fits_data_facts, fits-on_facts}
use Rattle.model.proofs.Wellformed.{DataGood, Good, Well}
use Rattle.kept.proofs.Data.{acked-on, acked-off}
use Rattle.kept.proofs.Room.{off-fits_with, on-fits_with, acked-on-fits, acked-off-fits}
use Rattle.kept.proofs.Channel.{OnGood, on_with_lem, record_key, Leaves, on_record_lem, off_record_lem, forward-off, forward-on}
use Rattle.kept.proofs.Table.{good-numbers, well_numbers, good_put_on, good_put_off, on-at-good, off-at-good, on-at-address, on-at-index, off-at-address, on-at-fits, off-at-fits, well_put_on, well_put_off}

-- ---- what a refusal leaves

-- each of a call's states on the way has it
pub record EachStage (P : State → Type 0) (w : Stages State) : Type 0 where
  pub nothing : P w.nothing
  pub time : P w.time
  pub prefix : P w.prefix
  pub channel : P w.channel
  pub acks : P w.acks

stage-has : (P : State → Type 0) (w : Stages State) → EachStage P w → (c : Change) → P (stage c w)
stage-has P w e nothing = e.nothing
stage-has P w e time = e.time
stage-has P w e prefix = e.prefix
stage-has P w e channel = e.channel
stage-has P w e acks = e.acks

pub left-has : (P : State → Type 0) (w : Stages State) → EachStage P w → (x : Refusal) → P (left x w)
left-has P w e x = stage-has P w e (changes x)

-- ---- a well-made record that has a place

module _ (t a : ℕ) (r : Record) (made : well_made r ≡ true) where
  -- its channel is good, found or made
  its_on : (p : Protocol) → Good t p → is_set r.on ≡ true → OnGood t (on_at a (index_of r) (version_of r) p)
  its_on p g o = on-at-good t p g a (index_of r) (version_of r) (record_key a r made o)

  pub well_channel : (b : Bool) → is_set r.on ≡ b → (p : Protocol) → Well t p → has_place b a (index_of r) p ≡ true → Well t (record_channel b a r p)
  well_channel true o p w h =
      well_put_on t a (index_of r) p w h (on_at a (index_of r) (version_of r) p) (on-at-address a (index_of r) (version_of r) p) (on-at-index a (index_of r) (version_of r) p) (its_on p w.good o)
      (on-at-fits p w.fits a (index_of r) (version_of r))
  well_channel false o p w h = well_put_off t a (index_of r) p w h (off_at a p) (off-at-address a p) (off-at-good t p w.good a) (off-at-fits p w.fits a)

  well_acks : (b : Bool) → is_set r.on ≡ b → (p : Protocol) → Well t p → has_place b a (index_of r) p ≡ true → Well t (record_acks b a r p)
  well_acks true o p w h =
      let c = on_at a (index_of r) (version_of r) p in
      let g : OnGood t c = its_on p w.good o in
      let f : fits_on c ≡ true = on-at-fits p w.fits a (index_of r) (version_of r) in
      well_put_on t a (index_of r) p w h (on_with (acked_on r c.off) c) (on-at-address a (index_of r) (version_of r) p) (on-at-index a (index_of r) (version_of r) p)
      (on_with_lem t (acked_on r c.off) c (acked-on t r c.off g.common) g) (on-fits_with (acked_on r c.off) c (acked-on-fits r c.off (fits-on_facts c f).common) f)
  well_acks false o p w h =
      let c = off_at a p in
      well_put_off t a (index_of r) p w h (off_with (acked_off r c.off) c) (off-at-address a p) (acked-off t r c.off (off-at-good t p w.good a))
      (off-fits_with (acked_off r c.off) c (acked-off-fits r c.off (fits_data_facts c.off (off-at-fits p w.fits a))))

  -- what the Rust makes of it is good; the room is tested
  mapped_on : (p : Protocol) → Good t p → (x : Outcome OnChannel) → Leaves (OnGood t) x → Leaves (Good t) (outcome_map (keep_on p) x)
  mapped_on p g (granted c) h = good_put_on t p g c h
  mapped_on p g (rejected n c) h = tt
  mapped_on p g far_fragment h = tt
  mapped_on p g (bare_run c) h = good_put_on t p g c h

  mapped_off : (p : Protocol) → Good t p → (x : Outcome OffChannel) → Leaves (λ c. DataGood t c.off) x → Leaves (Good t) (outcome_map (keep_off p) x)
  mapped_off p g (granted c) h = good_put_off t p g c h
  mapped_off p g (rejected n c) h = tt
  mapped_off p g far_fragment h = tt
  mapped_off p g (bare_run c) h = good_put_off t p g c h

  record_of_lem : (b : Bool) → is_set r.on ≡ b → (p : Protocol) → Well t p → Leaves (Good t) (record_of b t a r p)
  record_of_lem true o p w =
      let c = on_at a (index_of r) (version_of r) p in
      mapped_on (with_prefix r.prefix p) (good-numbers t p.source r.prefix p.offset p w.good.source w.good) (on_record p.forwarding t r c)
      (on_record_lem t r made p.forwarding c (on-at-fits p w.fits a (index_of r) (version_of r)) (its_on p w.good o))
  record_of_lem false o p w =
      mapped_off (with_prefix r.prefix p) (good-numbers t p.source r.prefix p.offset p w.good.source w.good) (off_record t r (off_at a p)) (off_record_lem t r made (off_at a p) (off-at-good t p w.good a))

  accepted : (p : Protocol) → Well t p → Leaves (Good t) (accept_record t a r p)
  unfolding accept_record
  accepted p w = record_of_lem (is_set r.on) refl p w

  forward_of_lem : (b : Bool) → is_set r.on ≡ b → (p : Protocol) → Well t p → Leaves (Good t) (forward_of b t a r p)
  forward_of_lem true o p w = let c = on_at a (index_of r) (version_of r) p in good_put_on t p w.good (forward_on t r c) (forward-on t r made c (its_on p w.good o))
  forward_of_lem false o p w = mapped_off p w.good (forward_off (is_set r.hascumulative) t r (off_at a p)) (forward-off t r made (is_set r.hascumulative) (off_at a p) (off-at-good t p w.good a))

  pub forwarded-out : (p : Protocol) → Well t p → Leaves (Good t) (accept_out t a r p)
  unfolding accept_out
  forwarded-out p w = forward_of_lem (is_set r.on) refl p w

-- the prefix is no part of the room
place-prefix : (b : Bool) (a i q : ℕ) (p : Protocol) → has_place b a i p ≡ true → has_place b a i (with_prefix q p) ≡ true
place-prefix true a i q p h = h
place-prefix false a i q p h = h

-- ---- one record of a delivery, at the delivery's time

pub record At (t : ℕ) (s : State) : Type 0 where
  pub now : s.latest ≡ t
  pub well : Well t s.protocol

module _ (t a : ℕ) (r : Record) (s : State) (h : At t s) where
  at-protocol : (p : Protocol) → Well t p → At t (with_protocol p s)
  at-protocol p w = record { now = h.now; well = w }

  module _ (made : well_made r ≡ true) (place : has_place (is_set r.on) a (index_of r) s.protocol ≡ true) where
    stages_at : EachStage (At t) (record_stages a r s)
    stages_at =
        let p = with_prefix r.prefix s.protocol in
        let w : Well t p = well_numbers t r.prefix s.protocol.offset s.protocol h.well in
        let l = place-prefix (is_set r.on) a (index_of r) r.prefix s.protocol place in
        record {
          nothing = h;
          time = h;
          prefix = at-protocol p w;
          channel = at-protocol (record_channel (is_set r.on) a r p) (well_channel t a r made (is_set r.on) refl p w l);
          acks = at-protocol (record_acks (is_set r.on) a r p) (well_acks t a r made (is_set r.on) refl p w l);
        }

    room_at : (b : Bool) (p : Protocol) → fits p ≡ b → Good t p → At t (room_record b a r p s).state
    room_at true p f g = at-protocol p (record { fits = fits_facts p f; good = g })
    room_at false p f g = h

    judge_at : (x : Outcome Protocol) → Leaves (Good t) x → At t (judge_record x a r s).state
    judge_at (granted p) g = room_at (fits p) p refl g
    judge_at (rejected x p) g = left-has (At t) (record_stages a r s) stages_at x
    judge_at far_fragment g = h
    judge_at (bare_run p) g = room_at (fits p) p refl g

  pub recorded : At t (record_step t a r s).state
  unfolding record_step
  recorded = at (well_made r) refl
    where
      placed : well_made r ≡ true → (b : Bool) → has_place (is_set r.on) a (index_of r) s.protocol ≡ b → At t (place_record b t a r s).state
      placed m true q = judge_at m q (accept_record t a r s.protocol) (accepted t a r m s.protocol h.well)
      placed m false q = h

      at : (b : Bool) → well_made r ≡ b → At t (made_record b t a r s).state
      at true m = placed m (has_place (is_set r.on) a (index_of r) s.protocol) refl
      at false m = h

-- each record by itself, in order
pub played : (t a : ℕ) (rs : List Record) (s : State) → At t s → At t (play t a rs s).state
unfolding play
played t a [] s h = h
played t a (r ∷ rs) s h = played t a rs (record_step t a r s).state (recorded t a r s h)
