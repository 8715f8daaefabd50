-- One record of a delivery, by its channel alone: the model's step on the whole state is what is settled on the channel, put back at its
-- place with the prefix, or nothing where it is refused late. Assumes nothing.
use mathlib.Core.Path.{◌≡◌, refl, ap, sym, subst, ◌∙◌}
use mathlib.Core.Bool.{Bool, true, false, cond, ◌||◌}
use Prim.Native.Nat.{ℕ}
use lib.Dec.{ltb, eqb}
use borrow.Author.Tests.{eq-eqb}
use Rattle.std.specs.Prelude.{Result, Ok, Err, ⊤}
use Rattle.list.specs.Find.{find_by, put_by}
use Rattle.list.proofs.Find.{find_put}
use Rattle.list.proofs.Pad.{never}
use Rattle.packet.specs.declared.Record.{Record}
use Rattle.packet.specs.declared.View.{View}
use Rattle.packet.specs.Data.{is_set, well_made, index_of, version_of}
use Rattle.packet.specs.declared.Refusal.TheVariants.{OutOfRange, TableFull, BeyondGroup, OverLimit}
use Rattle.model.specs.State.{OffChannel, OnChannel, Protocol, State, with_prefix, with_protocol, is_on, is_off, has_on, has_off, off_at, on_at, put_off, put_on, new_on, new_off, off_view, on_view}
use Rattle.model.specs.Refusals.{Refusal, Change, nothing, time, prefix, channel, acks, changes, stage, left}
use Rattle.model.specs.Record.{Outcome, granted, rejected, far_fragment, bare_run, on_record, off_record}
use Rattle.model.specs.Room.{fits_off, fits_on, fits, off_room, on_room}
use Rattle.model.specs.Rust as rust
use Rattle.model.specs.Port.{takes, refuses, Recorded, record_stages, room_record, judge_record, has_place, place_record, made_record, record_step}
use Rattle.chan.specs.Settled.{Settled, kept, refused, within, settled}
use Rattle.chan.proofs.Frame.{is_err}
use Rattle.chan.specs.declared.records.Way.{Way}
use Rattle.chan.specs.declared.records.Way.TheVariants.{In}
use Rattle.tab.specs.Played.{late, Step, step_of, put_on_p, put_off_p, step_if, step_on, step_off, on_step, off_step, placed, on_placed, off_placed}
use Rattle.tab.proofs.Left.{Each, OnKeyed, OffKeyed, on_keyed, off_keyed, Leaves, record_outcome}
use Rattle.tab.proofs.Whole.{fits_put_on, fits_put_off}

-- ---- what is settled keeps the key, and where it is refused late, the channel

module _ {X : Type 0} (fits_x : X → Bool) (P : X → Type 0) (m : X) (pm : P m) where
  room_keyed : (b : Bool) (x : X) → P x → P (within b x m).channel
  room_keyed true x k = k
  room_keyed false x k = pm

  pub settled_keyed : (o : Outcome X) → Each P o → P (settled fits_x o m).channel
  unfolding settled
  settled_keyed (granted x) k = room_keyed (fits_x x) x k
  settled_keyed (rejected n x) k = k.0
  settled_keyed far_fragment k = pm
  settled_keyed (bare_run x) k = room_keyed (fits_x x) x k

  room_late : (b : Bool) (x : X) (e : Refusal) → (within b x m).result ≡ Err e → (within b x m).channel ≡ m
  room_late true x e q = absurd (is_err e q)
  room_late false x e q = refl

  err_is : (n e : Refusal) → ◌≡◌ {A = Result ⊤ Refusal} (Err n) (Err e) → n ≡ e
  err_is n e q = ap inside q
    where
      inside : Result ⊤ Refusal → Refusal
      inside (Ok x) = n
      inside (Err x) = x

  pub settled_late : (o : Outcome X) → Each P o → (e : Refusal) → (settled fits_x o m).result ≡ Err e → late e ≡ true → (settled fits_x o m).channel ≡ m
  unfolding settled
  settled_late (granted x) k e q l = room_late (fits_x x) x e q
  settled_late (rejected n x) k e q l = never (sym k.1 ∙ ap late (err_is n e q) ∙ l)
  settled_late far_fragment k e q l = refl
  settled_late (bare_run x) k e q l = room_late (fits_x x) x e q

-- ---- the step

-- every refusal of a record leaves the time as it is
left_time : (x : Refusal) (a : ℕ) (r : Record) (s : State) → (left x (record_stages a r s)).latest ≡ s.latest
left_time x a r s = at (changes x)
  where
    at : (c : Change) → (stage c (record_stages a r s)).latest ≡ s.latest
    at nothing = refl
    at time = refl
    at prefix = refl
    at channel = refl
    at acks = refl

left_is : (x : Refusal) (a : ℕ) (r : Record) (s : State) (p : Protocol) → (left x (record_stages a r s)).protocol ≡ p → left x (record_stages a r s) ≡ with_protocol p s
left_is x a r s p e = λ k. record { latest = left_time x a r s k; protocol = e k }

is_on_by : (a i : ℕ) (x : OnChannel) → OnKeyed a i x → is_on a i x ≡ true
is_on_by a i x k = rw (eq-eqb x.address a k.0, eq-eqb x.index i k.1)

-- the view of the record's channel in the state that it was put into
found_on : (a i v : ℕ) (x : OnChannel) (p : Protocol) → OnKeyed a i x → on_at a i v (put_on x p) ≡ x
found_on a i v x p k =
    ap (λ (b : ℕ). find_by (is_on a i) (new_on a i v) (put_by (is_on b x.index) x p.ons)) k.0
    ∙ ap (λ (j : ℕ). find_by (is_on a i) (new_on a i v) (put_by (is_on a j) x p.ons)) k.1
    ∙ find_put (is_on a i) (new_on a i v) x p.ons (is_on_by a i x k)

found_off : (a : ℕ) (x : OffChannel) (p : Protocol) → OffKeyed a x → off_at a (put_off x p) ≡ x
found_off a x p k =
    ap (λ (b : ℕ). find_by (is_off a) (new_off a) (put_by (is_off b) x p.offs)) k
    ∙ find_put (is_off a) (new_off a) x p.offs (eq-eqb x.address a k)

pub view_on : (a : ℕ) (r : Record) (p : Protocol) (x : OnChannel) → is_set r.on ≡ true → OnKeyed a (index_of r) x → rust.record_view a r (put_on x p) ≡ on_view x
view_on a r p x o k = rw o (ap (λ (c : OnChannel). on_view c) (found_on a (index_of r) (version_of r) x p k))

pub view_off : (a : ℕ) (r : Record) (p : Protocol) (x : OffChannel) → is_set r.on ≡ false → OffKeyed a x → rust.record_view a r (put_off x p) ≡ off_view x
view_off a r p x o k = rw o (ap (λ (c : OffChannel). off_view c) (found_off a x p k))

-- a place for a channel of that key
pub place_on : (a i : ℕ) (p : Protocol) (x : OnChannel) → OnKeyed a i x → has_place true a i p ≡ true → (has_on x.address x.index p || on_room p) ≡ true
place_on a i p x k h = (λ j. has_on (k.0 j) (k.1 j) p || on_room p) ∙ h

pub place_off : (a i : ℕ) (p : Protocol) (x : OffChannel) → OffKeyed a x → has_place false a i p ≡ true → (has_off x.address p || off_room p) ≡ true
place_off a i p x k h = (λ j. has_off (k j) p || off_room p) ∙ h

abbrev rejected_on : Bool → Refusal → Record → State → OnChannel → Step
rejected_on b n r s x = record { answer = Err n; state = cond b s (put_on_p r.prefix s x) }

abbrev rejected_off : Bool → Refusal → Record → State → OffChannel → Step
rejected_off b n r s x = record { answer = Err n; state = cond b s (put_off_p r.prefix s x) }

module _ (t a : ℕ) (r : Record) (s : State) (f : fits s.protocol ≡ true) where
  abbrev base : Protocol
  base = with_prefix r.prefix s.protocol

  base_fits : fits base ≡ true
  unfolding fits
  base_fits = f

  module _ (o : is_set r.on ≡ true) (h : has_place true a (index_of r) s.protocol ≡ true) (m : OnChannel) where
    room_on : (x : OnChannel) → OnKeyed a (index_of r) x → step_of (room_record (fits (put_on x base)) a r (put_on x base) s) ≡ step_on r.prefix s (within (fits_on x) x m)
    room_on x k = rw (fits_put_on base x base_fits (place_on a (index_of r) base x k h)) (at (fits_on x))
      where
        at : (b : Bool) → step_of (room_record b a r (put_on x base) s) ≡ step_on r.prefix s (within b x m)
        at true = λ j. record { answer = Ok (view_on a r base x o k j); state = put_on_p r.prefix s x }
        at false = refl

    judge_on : (w : Outcome OnChannel) → Each (OnKeyed a (index_of r)) w → Leaves (record_stages a r s) (rust.outcome_map (rust.keep_on base) w)
        → step_of (judge_record (rust.outcome_map (rust.keep_on base) w) a r s) ≡ step_on r.prefix s (settled fits_on w m)
    unfolding settled
    judge_on (granted x) k l = room_on x k
    judge_on (rejected n x) k l =
        (λ j. record { answer = Err n; state = left_is n a r s (put_on x base) l j })
        ∙ ap (λ (b : Bool). rejected_on b n r s x) (sym k.1)
    judge_on far_fragment k l = refl
    judge_on (bare_run x) k l = room_on x k

  module _ (o : is_set r.on ≡ false) (h : has_place false a (index_of r) s.protocol ≡ true) (m : OffChannel) where
    room_off : (x : OffChannel) → OffKeyed a x → step_of (room_record (fits (put_off x base)) a r (put_off x base) s) ≡ step_off r.prefix s (within (fits_off x) x m)
    room_off x k = rw (fits_put_off base x base_fits (place_off a (index_of r) base x k h)) (at (fits_off x))
      where
        at : (b : Bool) → step_of (room_record b a r (put_off x base) s) ≡ step_off r.prefix s (within b x m)
        at true = λ j. record { answer = Ok (view_off a r base x o k j); state = put_off_p r.prefix s x }
        at false = refl

    judge_off : (w : Outcome OffChannel) → Each (OffKeyed a) w → Leaves (record_stages a r s) (rust.outcome_map (rust.keep_off base) w)
        → step_of (judge_record (rust.outcome_map (rust.keep_off base) w) a r s) ≡ step_off r.prefix s (settled fits_off w m)
    unfolding settled
    judge_off (granted x) k l = room_off x k
    judge_off (rejected n x) k l =
        (λ j. record { answer = Err n; state = left_is n a r s (put_off x base) l j })
        ∙ ap (λ (b : Bool). rejected_off b n r s x) (sym k.1)
    judge_off far_fragment k l = refl
    judge_off (bare_run x) k l = room_off x k

  -- past 2 and 4 the Rust's outcome is judged
  judged : (on : Bool) → well_made r ≡ true → is_set r.on ≡ on → has_place on a (index_of r) s.protocol ≡ true → record_step t a r s ≡ judge_record (rust.accept_record t a r s.protocol) a r s
  unfolding record_step
  judged on m o h =
      ap (λ (b : Bool). made_record b t a r s) m
      ∙ ap (λ (b : Bool). place_record (has_place b a (index_of r) s.protocol) t a r s) o
      ∙ ap (λ (b : Bool). place_record b t a r s) h

  on_outcome : is_set r.on ≡ true → rust.accept_record t a r s.protocol ≡ rust.outcome_map (rust.keep_on base) (on_record s.protocol.forwarding t r (on_at a (index_of r) (version_of r) s.protocol))
  unfolding rust.accept_record
  on_outcome o = ap (λ (b : Bool). rust.record_of b t a r s.protocol) o

  off_outcome : is_set r.on ≡ false → rust.accept_record t a r s.protocol ≡ rust.outcome_map (rust.keep_off base) (off_record t r (off_at a s.protocol))
  unfolding rust.accept_record
  off_outcome o = ap (λ (b : Bool). rust.record_of b t a r s.protocol) o

  pub record_on : well_made r ≡ true → is_set r.on ≡ true → has_place true a (index_of r) s.protocol ≡ true → (m : OnChannel)
      → step_of (record_step t a r s) ≡ step_on r.prefix s (settled fits_on (on_record s.protocol.forwarding t r (on_at a (index_of r) (version_of r) s.protocol)) m)
  record_on w o h m =
      ap step_of (judged true w o h)
      ∙ ap (λ (q : Outcome Protocol). step_of (judge_record q a r s)) (on_outcome o)
      ∙ judge_on o h m (on_record s.protocol.forwarding t r (on_at a (index_of r) (version_of r) s.protocol)) (on_keyed (In s.protocol.forwarding) a t r s.protocol) (subst (λ (q : Outcome Protocol). Leaves (record_stages a r s) q) (on_outcome o) (record_outcome t a r s))

  pub record_off : well_made r ≡ true → is_set r.on ≡ false → has_place false a (index_of r) s.protocol ≡ true → (m : OffChannel)
      → step_of (record_step t a r s) ≡ step_off r.prefix s (settled fits_off (off_record t r (off_at a s.protocol)) m)
  record_off w o h m =
      ap step_of (judged false w o h)
      ∙ ap (λ (q : Outcome Protocol). step_of (judge_record q a r s)) (off_outcome o)
      ∙ judge_off o h m (off_record t r (off_at a s.protocol)) (off_keyed (In s.protocol.forwarding) a t r s.protocol) (subst (λ (q : Outcome Protocol). Leaves (record_stages a r s) q) (off_outcome o) (record_outcome t a r s))

-- 2 and 4 leave the state
pub record_malformed : (t a : ℕ) (r : Record) (s : State) → well_made r ≡ false → record_step t a r s ≡ record { result = refuses OutOfRange; state = s }
unfolding record_step
record_malformed t a r s m = rw m

pub record_full : (t a : ℕ) (r : Record) (s : State) (on : Bool) → well_made r ≡ true → is_set r.on ≡ on → has_place on a (index_of r) s.protocol ≡ false → record_step t a r s ≡ record { result = refuses TableFull; state = s }
unfolding record_step
record_full t a r s on m o h = rw (m, o, h)

-- ---- both together

module _ (t a : ℕ) (r : Record) (s : State) (f : fits s.protocol ≡ true) (w : well_made r ≡ true) where
  pub record_on_placed : is_set r.on ≡ true → step_of (record_step t a r s) ≡ on_placed (In s.protocol.forwarding) r.prefix t a r s
  record_on_placed o = at (has_place true a (index_of r) s.protocol) refl
    where
      at : (b : Bool) → has_place true a (index_of r) s.protocol ≡ b → step_of (record_step t a r s) ≡ placed b s (on_step (In s.protocol.forwarding) r.prefix t a r s)
      at true h = record_on t a r s f w o h (on_at a (index_of r) (version_of r) s.protocol)
      at false h = ap step_of (record_full t a r s true w o h)

  pub record_off_placed : is_set r.on ≡ false → step_of (record_step t a r s) ≡ off_placed (In s.protocol.forwarding) r.prefix t a r s
  record_off_placed o = at (has_place false a (index_of r) s.protocol) refl
    where
      at : (b : Bool) → has_place false a (index_of r) s.protocol ≡ b → step_of (record_step t a r s) ≡ placed b s (off_step (In s.protocol.forwarding) r.prefix t a r s)
      at true h = record_off t a r s f w o h (off_at a s.protocol)
      at false h = ap step_of (record_full t a r s false w o h)
