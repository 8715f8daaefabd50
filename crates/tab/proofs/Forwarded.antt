-- Forwarded out, by its channel alone: the model's reply on the whole state is what is settled on the record's channel, put back at its
-- place at the new time. Assumes nothing.
use mathlib.Core.Path.{◌≡◌, refl, ap, sym, ◌∙◌}
use mathlib.Core.Bool.{Bool, true, false}
use Prim.Native.Nat.{ℕ, ◌≤◌, ◌<◌}
use borrow.Author.Tests.{le-leb, lt-leb}
use Rattle.std.specs.Prelude.{Ok, Err}
use Rattle.packet.specs.declared.Record.{Record}
use Rattle.packet.specs.Data.{is_set, well_made, index_of, version_of}
use Rattle.packet.specs.declared.Refusal.TheVariants.{OutOfRange, TimeBelow, TableFull, CumulativeOff, OverLimit}
use Rattle.model.specs.State.{OffChannel, OnChannel, Protocol, State, with_time, with_protocol, off_with, off_at, on_at, put_off, put_on, off_view, on_view}
use Rattle.model.specs.Record.{Outcome, granted}
use Rattle.model.specs.Room.{fits_off, fits_on, fits}
use Rattle.model.specs.Rust as rust
use Rattle.model.specs.Calls as call
use Rattle.model.specs.Port.{Reply, grant, record_channel, room_out, judge_out, on_time, has_place, forward, accept_out_s, reply}
use Rattle.chan.specs.declared.records.Way.TheVariants.{Out}
use Rattle.chan.specs.Settled.{within, settled}
use Rattle.chan.specs.Rules.{outcome_on, outcome_off}
use Rattle.tab.specs.Calls.{answer_of, view_in}
use Rattle.tab.specs.Played.{Step, put_on_p, put_off_p, step_on, step_off, on_step, off_step, placed, on_placed, off_placed, out_if, out_placed}
use Rattle.tab.proofs.Left.{OnKeyed, OffKeyed, on_at_address, on_at_index, off_at_address}
use Rattle.tab.proofs.Whole.{fits_put_on, fits_put_off}
use Rattle.tab.proofs.Stepped.{view_on, view_off, place_on, place_off}

abbrev pub step_of_reply : Reply → Step
step_of_reply w = record { answer = answer_of view_in w.answer; state = w.state }

module _ (t a : ℕ) (r : Record) (s : State) where
  abbrev place : Bool
  place = has_place (is_set r.on) a (index_of r) s.protocol

  pub out_malformed : well_made r ≡ false → reply (call.accept_out t a r) s ≡ record { answer = call.refused OutOfRange; state = s }
  unfolding reply accept_out_s
  out_malformed m = λ j. forward (m j) (on_time t s) place t a r s

  pub out_early : well_made r ≡ true → t < s.latest → reply (call.accept_out t a r) s ≡ record { answer = call.refused TimeBelow; state = s }
  unfolding reply accept_out_s
  out_early m h = λ j. forward (m j) (lt-leb s.latest t h j) place t a r s

  module _ (f : fits s.protocol ≡ true) (m : well_made r ≡ true) (l : s.latest ≤ t) where
    -- at the new time
    abbrev now : State
    now = with_time t s

    past : reply (call.accept_out t a r) s ≡ forward true true place t a r s
    unfolding reply accept_out_s
    past = λ j. forward (m j) (le-leb s.latest t l j) place t a r s

    abbrev on_for : OnChannel
    on_for = on_at a (index_of r) (version_of r) s.protocol

    abbrev off_for : OffChannel
    off_for = off_at a s.protocol

    room_on : is_set r.on ≡ true → (x : OnChannel) → OnKeyed a (index_of r) x → has_place true a (index_of r) s.protocol ≡ true
        → step_of_reply (room_out (fits (put_on x s.protocol)) t a r (put_on x s.protocol) s) ≡ step_on s.protocol.prefix now (within (fits_on x) x on_for)
    unfolding answer_of
    room_on o x k h = rw (fits_put_on s.protocol x f (place_on a (index_of r) s.protocol x k h)) (at (fits_on x))
      where
        at : (b : Bool) → step_of_reply (room_out b t a r (put_on x s.protocol) s) ≡ step_on s.protocol.prefix now (within b x on_for)
        at true = λ j. record { answer = Ok (view_on a r s.protocol x o k j); state = put_on_p s.protocol.prefix now x }
        at false = refl

    room_off : is_set r.on ≡ false → (x : OffChannel) → OffKeyed a x → has_place false a (index_of r) s.protocol ≡ true
        → step_of_reply (room_out (fits (put_off x s.protocol)) t a r (put_off x s.protocol) s) ≡ step_off s.protocol.prefix now (within (fits_off x) x off_for)
    unfolding answer_of
    room_off o x k h = rw (fits_put_off s.protocol x f (place_off a (index_of r) s.protocol x k h)) (at (fits_off x))
      where
        at : (b : Bool) → step_of_reply (room_out b t a r (put_off x s.protocol) s) ≡ step_off s.protocol.prefix now (within b x off_for)
        at true = λ j. record { answer = Ok (view_off a r s.protocol x o k j); state = put_off_p s.protocol.prefix now x }
        at false = refl

    judge_on : is_set r.on ≡ true → has_place true a (index_of r) s.protocol ≡ true
        → step_of_reply (judge_out (rust.forward_of true t a r s.protocol) t a r s) ≡ on_step Out s.protocol.prefix t a r now
    unfolding settled
    judge_on o h = room_on o (rust.forward_on t r on_for) (on_at_address a (index_of r) (version_of r) s.protocol, on_at_index a (index_of r) (version_of r) s.protocol) h

    judge_off : is_set r.on ≡ false → has_place false a (index_of r) s.protocol ≡ true → (b : Bool)
        → step_of_reply (judge_out (rust.outcome_map (rust.keep_off s.protocol) (rust.forward_off b t r off_for)) t a r s) ≡ step_off s.protocol.prefix now (settled fits_off (rust.forward_off b t r off_for) off_for)
    unfolding settled answer_of
    judge_off o h true = λ j. record { answer = Err CumulativeOff; state = with_protocol (record_channel (o j) a r s.protocol) now }
    judge_off o h false = room_off o (off_with (rust.forwarded false t r off_for.off) off_for) (off_at_address a s.protocol) h

    out_if_is : (on here : Bool) → is_set r.on ≡ on → has_place on a (index_of r) s.protocol ≡ here
        → step_of_reply (forward true true here t a r s) ≡ out_if on t a r now
    unfolding rust.accept_out answer_of
    out_if_is true true o h =
        ap (λ (b : Bool). step_of_reply (judge_out (rust.forward_of b t a r s.protocol) t a r s)) o
        ∙ judge_on o h
        ∙ ap (λ (b : Bool). placed b now (on_step Out s.protocol.prefix t a r now)) (sym h)
    out_if_is true false o h = ap (λ (b : Bool). placed b now (on_step Out s.protocol.prefix t a r now)) (sym h)
    out_if_is false true o h =
        ap (λ (b : Bool). step_of_reply (judge_out (rust.forward_of b t a r s.protocol) t a r s)) o
        ∙ judge_off o h (is_set r.hascumulative)
        ∙ ap (λ (b : Bool). placed b now (off_step Out s.protocol.prefix t a r now)) (sym h)
    out_if_is false false o h = ap (λ (b : Bool). placed b now (off_step Out s.protocol.prefix t a r now)) (sym h)

    pub out_is : step_of_reply (reply (call.accept_out t a r) s) ≡ out_placed t a r (with_time t s)
    out_is = ap step_of_reply past ∙ out_if_is (is_set r.on) (has_place (is_set r.on) a (index_of r) s.protocol) refl refl
