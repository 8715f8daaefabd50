-- 01's refusal table, "exactly when": the rows of every call and of every record in order of checking, each with its condition. A refusal
-- is answered exactly when its condition holds and no earlier one does.
use Rattle.std.specs.Prelude.{◌≡◌, Bool, true, false, not, ◌&&◌, List, [], ◌∷◌, ◌⊎◌, ℕ, ltb, leb, eqb, length}
use Rattle.std.specs.declared.option.Option.{Option}
use Rattle.std.specs.declared.option.Option.TheVariants.{None, Some}
use Rattle.list.specs.Find.{has, find_by}
use Rattle.seq.specs.Num.{sub, dist}
use Rattle.packet.specs.declared.Record.{Record}
use Rattle.packet.specs.declared.Key.{Key}
use Rattle.packet.specs.Data.{Range, no_range, range, range_of, packet, is_set, index_of, version_of, key_index, well_made, key_made}
use Rattle.model.specs.State.{Group, OffChannel, OnChannel, Protocol, State, with_time, off_at, on_at}
use Rattle.packet.specs.declared.Refusal.TheVariants.{OutOfRange, TimeBelow, ChannelAbsent, TableFull, OldVersion, CumulativeOff, LastOnReliable, LastNotExpected, LastOff, BeyondGroup, OverLimit, ListTooShort}
use Rattle.model.specs.Refusals.{Refusal}
use Rattle.model.specs.Acks.{take_written}
use Rattle.model.specs.Group.{span, is_first, new_group, stale, is_beyond}
use Rattle.model.specs.Record.{Outcome, granted, rejected, far_fragment, bare_run}
use Rattle.model.specs.Room.{fits}
use Rattle.model.specs.Rust as rust
use Rattle.model.specs.Calls.{Call, accept, accept_out, channel, next_bundle, prepare, acks_written, take_resends, holds, last_accepted_prefix, reset_prefix_offset, transfer_prefix_offset, Answer, refused, delivered, undelivered, found, no_bundle, bundle, prepared, done, resends, held, prefix_is, flat}
use Rattle.model.specs.Port.{has_place, record_step, delivery_made, asked, on_time, queue_if, reply}
use Rattle.agreement.specs.Effects.{RecordRefused}

-- a row of the table, and whether its condition holds
pub record Row : Type 0 where
  pub refusal : Refusal
  pub holds : Bool

abbrev pub row : Refusal → Bool → Row
row x b = record { refusal = x; holds = b }

-- the condition of x holds, and no earlier one does
unfoldable pub Decides : Refusal → List Row → Type 0
Decides x [] = ⊥
Decides x (w ∷ ws) = ((w.holds ≡ true) × (w.refusal ≡ x)) ⊎ ((w.holds ≡ false) × Decides x ws)

-- no condition holds
unfoldable pub Passes : List Row → Type 0
Passes [] = record {}
Passes (w ∷ ws) = (w.holds ≡ false) × Passes ws

-- ---- one record

-- 10: "fragment beyond its group"; a record that is too late for its group is dropped instead. The flag says that the group is there
abbrev pub far_in : Bool → ℕ → ℕ → Group → Bool
far_in true i t g = not (stale t g) && is_beyond i g
far_in false i t g = is_beyond i g

abbrev pub far_of : Range → ℕ → ℕ → List Group → Bool
far_of no_range t n gs = false
far_of (range f l) t n gs = far_in (has (is_first f) gs) (dist n f) t (find_by (is_first f) (new_group f (span f l) t) gs)

abbrev pub far : ℕ → Record → List Group → Bool
far t r gs = far_of (range_of (packet r)) t (packet r).number gs

-- 11: "resulting state over a limit", where the rules come to an end
abbrev pub ended : Outcome Protocol → Protocol → Protocol
ended (granted p) q = p
ended (rejected x p) q = q
ended far_fragment q = q
ended (bare_run p) q = p

abbrev pub too_much : Outcome Protocol → Protocol → Bool
too_much o q = not (fits (ended o q))

-- 5, 7, 8, 10 and 11 of a record for the on-channel c, whose outcome is o
abbrev pub on_rows : Outcome Protocol → ℕ → Record → OnChannel → Protocol → List Row
on_rows o t r c p =
    row OldVersion (ltb (version_of r) c.version)
    ∷ row LastOnReliable (is_set r.reliable && is_set r.haslast)
    ∷ row LastNotExpected (not (is_set r.reliable) && is_set r.haslast && not (eqb r.lastreliable (sub c.expected 1)))
    ∷ row BeyondGroup (not (is_set r.reliable) && far t r c.off.groups)
    ∷ row OverLimit (too_much o p)
    ∷ []

-- 6, 7, 9, 10 and 11 of a record for the off-channel c
abbrev pub off_rows : Outcome Protocol → ℕ → Record → OffChannel → Protocol → List Row
off_rows o t r c p =
    row CumulativeOff (is_set r.hascumulative)
    ∷ row LastOnReliable (is_set r.reliable && is_set r.haslast)
    ∷ row LastOff (not (is_set r.reliable) && is_set r.haslast)
    ∷ row BeyondGroup (far t r c.off.groups)
    ∷ row OverLimit (too_much o p)
    ∷ []

abbrev pub own_rows : Bool → ℕ → ℕ → Record → Protocol → List Row
own_rows true t a r p = on_rows (rust.record_of true t a r p) t r (on_at a (index_of r) (version_of r) p) p
own_rows false t a r p = off_rows (rust.record_of false t a r p) t r (off_at a p) p

unfoldable pub record_rows : ℕ → ℕ → Record → State → List Row
record_rows t a r s =
    row OutOfRange (not (well_made r))
    ∷ row TableFull (not (has_place (is_set r.on) a (index_of r) s.protocol))
    ∷ own_rows (is_set r.on) t a r s.protocol

-- ---- every call

-- "the answer is the last one's": the rows of the last record, in the state that the earlier ones left
unfoldable pub last_rows : ℕ → ℕ → List Record → State → List Row
last_rows t a [] s = []
last_rows t a (r ∷ []) s = record_rows t a r s
last_rows t a (r ∷ (q ∷ qs)) s = last_rows t a (q ∷ qs) (record_step t a r s).state

abbrev pub delivery_rows : ℕ → ℕ → List Record → State → List Row
delivery_rows t a rs s = row OutOfRange (not (delivery_made rs)) ∷ row TimeBelow (not (on_time t s)) ∷ last_rows t a rs (with_time t s)

abbrev pub out_rows : ℕ → ℕ → Record → State → List Row
out_rows t a r s =
    row OutOfRange (not (well_made r))
    ∷ row TimeBelow (not (on_time t s))
    ∷ row TableFull (not (has_place (is_set r.on) a (index_of r) s.protocol))
    ∷ row CumulativeOff (not (is_set r.on) && is_set r.hascumulative)
    ∷ row OverLimit (too_much (rust.accept_out t a r s.protocol) s.protocol)
    ∷ []

abbrev pub find_rows : Key → State → List Row
find_rows k s = row OutOfRange (not (key_made k)) ∷ row TableFull (not (has_place (is_set k.on) k.address (key_index k) s.protocol)) ∷ []

-- 12 of the bundles that wait; where none does, none is answered
abbrev pub too_short : ℕ → List (List ℕ) → Bool
too_short places [] = false
too_short places (b ∷ bs) = not (leb (length b) places)

abbrev pub next_rows : Key → ℕ → State → List Row
next_rows k places s =
    row OutOfRange (not (key_made k))
    ∷ row ChannelAbsent (not (rust.has_key k s.protocol))
    ∷ row ListTooShort (too_short places (rust.data_of k s.protocol).bundles)
    ∷ []

abbrev pub send_rows : ℕ → Key → ℕ → List ℕ → State → List Row
send_rows t k reliable hs s =
    row OutOfRange (not (asked k reliable (length hs)))
    ∷ row TimeBelow (not (on_time t s))
    ∷ row ChannelAbsent (not (rust.has_key k s.protocol))
    ∷ row OverLimit (not (fits (rust.prepared t k (is_set reliable) hs s.protocol)))
    ∷ []

-- "if one is lacking, refusal 2. An absent channel gives 2 for any name, 13 for an empty list"
abbrev pub lacking : Option (List ℕ) → Bool
lacking None = true
lacking (Some qs) = false

abbrev pub written_rows : Key → List ℕ → State → List Row
written_rows k ns s =
    row OutOfRange (not (key_made k))
    ∷ row OutOfRange (lacking (take_written ns (queue_if (rust.has_key k s.protocol) k s)))
    ∷ row ChannelAbsent (not (rust.has_key k s.protocol))
    ∷ []

abbrev pub resend_rows : ℕ → ℕ → ℕ → ℕ → State → List Row
resend_rows t timeout give_up places s =
    row TimeBelow (not (on_time t s)) ∷ row ListTooShort (not (leb (length (flat (rust.all_rows t timeout give_up s.protocol))) places)) ∷ []

unfoldable pub rows_of : Call → State → List Row
rows_of (accept t a rs) s = delivery_rows t a rs s
rows_of (accept_out t a r) s = out_rows t a r s
rows_of (channel k) s = find_rows k s
rows_of (next_bundle k l) s = next_rows k (length l) s
rows_of (prepare t k reliable hs) s = send_rows t k reliable hs s
rows_of (acks_written k ns) s = written_rows k ns s
rows_of (take_resends t timeout give_up l) s = resend_rows t timeout give_up (length l) s
rows_of (holds h) s = []
rows_of last_accepted_prefix s = []
rows_of reset_prefix_offset s = []
rows_of transfer_prefix_offset s = []

-- the refusal of an answer
abbrev pub refusal_in : Answer → Option Refusal
refusal_in (refused x) = Some x
refusal_in (delivered v n) = None
refusal_in (undelivered x n) = Some x
refusal_in (found v) = None
refusal_in no_bundle = None
refusal_in (bundle b) = None
refusal_in (prepared p) = None
refusal_in done = None
refusal_in (resends xs) = None
refusal_in (held b) = None
refusal_in (prefix_is p) = None

-- exactly when
abbrev pub Iff : Type 0 → Type 0 → Type 0
Iff p q = (p → q) × (q → p)

pub record ExactlyWhen : Type 0 where
  pub records : (t a : ℕ) (r : Record) (s : State) (x : Refusal) → Iff (RecordRefused t a r s x) (Decides x (record_rows t a r s))
  pub calls : (e : Call) (s : State) (x : Refusal) → Iff (refusal_in (reply e s).answer ≡ Some x) (Decides x (rows_of e s))
  pub grants : (e : Call) (s : State) → Iff (refusal_in (reply e s).answer ≡ None) (Passes (rows_of e s))
