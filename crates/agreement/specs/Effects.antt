-- 01's refusal table, as a statement about every call: a refusal leaves what its last column says, and nothing else; and which refusals
-- a call can answer.
use Rattle.std.specs.Prelude.{◌≡◌, Bool, true, false, List, [], ◌∷◌, ◌++◌, ℕ, eqb, length}
use Rattle.list.specs.Find.{has}
use Rattle.packet.specs.declared.Record.{Record}
use Rattle.packet.specs.declared.Key.{Key}
use Rattle.packet.specs.Data.{is_set, well_made}
use Rattle.model.specs.State.{State, with_prefix, with_time, with_protocol}
use Rattle.packet.specs.declared.Refusal.TheVariants.{OldVersion, CumulativeOff}
use Rattle.model.specs.Refusals.{Refusal, number, Stages, left}
use Rattle.model.specs.Calls.{Call, accept, accept_out, channel, next_bundle, prepare, acks_written, take_resends, holds, last_accepted_prefix, reset_prefix_offset, transfer_prefix_offset, refused, undelivered, lent}
use Rattle.model.specs.Port.{untimed, timed, refuses, record_channel, record_acks, record_stages, out_stages, record_step, play, delivery_made, asked, on_time, reply, reply_if}

-- is the refusal's number one of these
abbrev pub among : List ℕ → Refusal → Bool
among ns x = has (λ (n : ℕ). eqb n (number x)) ns

-- a call's states on the way. A delivery that is refused whole, by 1 to 3, changes nothing; from 4 on what a refusal leaves is said of its record
abbrev pub stages_of : Call → State → Stages State
stages_of (accept t a rs) s = timed t s
stages_of (accept_out t a r) s = out_stages t a r s
stages_of (channel k) s = untimed s
stages_of (next_bundle k l) s = untimed s
stages_of (prepare t k reliable hs) s = timed t s
stages_of (acks_written k ns) s = untimed s
stages_of (take_resends t timeout give_up l) s = timed t s
stages_of (holds h) s = untimed s
stages_of last_accepted_prefix s = untimed s
stages_of reset_prefix_offset s = untimed s
stages_of transfer_prefix_offset s = untimed s

-- the numbers that a call on a well-formed table can be refused by
abbrev pub numbers_of : Call → List ℕ
numbers_of (accept t a rs) = 2 ∷ 3 ∷ 4 ∷ 5 ∷ 6 ∷ 7 ∷ 8 ∷ 9 ∷ 10 ∷ 11 ∷ []
numbers_of (accept_out t a r) = 2 ∷ 3 ∷ 4 ∷ 6 ∷ 11 ∷ []
numbers_of (channel k) = 2 ∷ 4 ∷ []
numbers_of (next_bundle k l) = 2 ∷ 13 ∷ 12 ∷ []
numbers_of (prepare t k reliable hs) = 2 ∷ 3 ∷ 13 ∷ 11 ∷ []
numbers_of (acks_written k ns) = 2 ∷ 13 ∷ []
numbers_of (take_resends t timeout give_up l) = 3 ∷ 12 ∷ []
numbers_of (holds h) = []
numbers_of last_accepted_prefix = []
numbers_of reset_prefix_offset = []
numbers_of transfer_prefix_offset = []

-- and those of a record: 2 where it is malformed, the others where it is not
abbrev pub numbers_of_record : Bool → List ℕ
numbers_of_record true = 4 ∷ 5 ∷ 6 ∷ 7 ∷ 8 ∷ 9 ∷ 10 ∷ 11 ∷ []
numbers_of_record false = 2 ∷ []

-- in a state s, call e is refused by x
abbrev pub Refused : Call → State → Refusal → Type 0
Refused e s x = (reply e s).answer ≡ refused x

-- in a state s, a record is refused by x
abbrev pub RecordRefused : ℕ → ℕ → Record → State → Refusal → Type 0
RecordRefused t a r s x = (record_step t a r s).result ≡ refuses x

-- every call
pub record CallEffects : Type 0 where
  -- every call but a delivery: the row of its refusal, among its own states on the way
  pub calls : (e : Call) (s : State) (x : Refusal) → Refused e s x → (reply e s).state ≡ left x (stages_of e s)
  pub call_numbers : (e : Call) (s : State) (x : Refusal) → Refused e s x → among (numbers_of e) x ≡ true
  -- 1: "table not well formed", nothing
  pub not_well_formed_lem : (e : Call) (s : State) → (reply_if false e s).state ≡ s
  -- "Untimed calls change nothing on refusal"
  pub finds : (k : Key) (s : State) (x : Refusal) → Refused (channel k) s x → (reply (channel k) s).state ≡ s
  pub next_bundles : (k : Key) (l : List ℕ) (s : State) (x : Refusal) → Refused (next_bundle k l) s x → (reply (next_bundle k l) s).state ≡ s
  pub written_acks : (k : Key) (ns : List ℕ) (s : State) (x : Refusal) → Refused (acks_written k ns) s x → (reply (acks_written k ns) s).state ≡ s
  -- 2 and 3: nothing, of every call
  pub nothing : (e : Call) (s : State) (x : Refusal) → Refused e s x → among (2 ∷ 3 ∷ []) x ≡ true → (reply e s).state ≡ s
  -- 13, 4, 10, 11, 12 of a timed call: time
  pub forwards_time : (t a : ℕ) (r : Record) (s : State) (x : Refusal) → Refused (accept_out t a r) s x → among (4 ∷ 11 ∷ []) x ≡ true → (reply (accept_out t a r) s).state ≡ with_time t s
  pub sends_time : (t : ℕ) (k : Key) (reliable : ℕ) (hs : List ℕ) (s : State) (x : Refusal) → Refused (prepare t k reliable hs) s x → among (13 ∷ 11 ∷ []) x ≡ true → (reply (prepare t k reliable hs) s).state ≡ with_time t s
  pub resends_time : (t timeout give_up : ℕ) (l : List ℕ) (s : State) (x : Refusal) → Refused (take_resends t timeout give_up l) s x → among (12 ∷ []) x ≡ true → (reply (take_resends t timeout give_up l) s).state ≡ with_time t s
  -- 6 of forwarded out: the time, and the channel found or made; no prefix
  pub forwards_6 : (t a : ℕ) (r : Record) (s : State) → Refused (accept_out t a r) s CumulativeOff → (reply (accept_out t a r) s).state ≡ with_protocol (record_channel (is_set r.on) a r s.protocol) (with_time t s)

-- deliveries and their records
pub record RecordEffects : Type 0 where
  -- every record of a delivery: the row of its refusal, from the state that the earlier records left
  pub records : (t a : ℕ) (r : Record) (s : State) (x : Refusal) → RecordRefused t a r s x → (record_step t a r s).state ≡ left x (record_stages a r s)
  pub record_numbers : (t a : ℕ) (r : Record) (s : State) (x : Refusal) → RecordRefused t a r s x → among (numbers_of_record (well_made r)) x ≡ true
  -- a delivery refused by 2 or 3 changes nothing, and the count is 0
  pub deliveries : (t a : ℕ) (rs : List Record) (s : State) (x : Refusal) (n : ℕ) → (reply (accept t a rs) s).answer ≡ undelivered x n → among (2 ∷ 3 ∷ []) x ≡ true → ((reply (accept t a rs) s).state ≡ s) × (n ≡ 0)
  -- "From refusal 4 on, what a refusal leaves is said of its own record; what earlier records did stays": the last record is refused
  pub last_records :
      (t a : ℕ) (qs : List Record) (r : Record) (s : State) (x : Refusal) (n : ℕ) →
      (reply (accept t a (qs ++ (r ∷ []))) s).answer ≡ undelivered x n →
      among (2 ∷ 3 ∷ []) x ≡ false →
      (reply (accept t a (qs ++ (r ∷ []))) s).state ≡ left x (record_stages a r (play t a qs (with_time t s)).state)
  pub delivery_numbers : (t a : ℕ) (rs : List Record) (s : State) (x : Refusal) (n : ℕ) → (reply (accept t a rs) s).answer ≡ undelivered x n → among (numbers_of (accept t a rs)) x ≡ true
  -- a record: 2, 4, 10 and 11 leave what the earlier records left
  pub record_nothing : (t a : ℕ) (r : Record) (s : State) (x : Refusal) → RecordRefused t a r s x → among (2 ∷ 4 ∷ 10 ∷ 11 ∷ []) x ≡ true → (record_step t a r s).state ≡ s
  -- 5: the prefix
  pub record_5 : (t a : ℕ) (r : Record) (s : State) → RecordRefused t a r s OldVersion → (record_step t a r s).state ≡ with_protocol (with_prefix r.prefix s.protocol) s
  -- 6: the prefix, and the channel found or made
  pub record_6 : (t a : ℕ) (r : Record) (s : State) → RecordRefused t a r s CumulativeOff → (record_step t a r s).state ≡ with_protocol (record_channel (is_set r.on) a r (with_prefix r.prefix s.protocol)) s
  -- 7, 8, 9: the prefix, and the channel with the acks applied
  pub record_7_8_9 : (t a : ℕ) (r : Record) (s : State) (x : Refusal) → RecordRefused t a r s x → among (7 ∷ 8 ∷ 9 ∷ []) x ≡ true → (record_step t a r s).state ≡ with_protocol (record_acks (is_set r.on) a r (with_prefix r.prefix s.protocol)) s

-- whatever is answered: the time, and lent lists
pub record AlwaysEffects : Type 0 where
  -- "A timed call past check 3 always sets the latest time": past 2 and 3, whatever it answers
  pub delivery_sets_time : (t a : ℕ) (rs : List Record) (s : State) → delivery_made rs ≡ true → on_time t s ≡ true → (reply (accept t a rs) s).state.latest ≡ t
  pub forward_sets_time : (t a : ℕ) (r : Record) (s : State) → well_made r ≡ true → on_time t s ≡ true → (reply (accept_out t a r) s).state.latest ≡ t
  pub send_sets_time : (t : ℕ) (k : Key) (reliable : ℕ) (hs : List ℕ) (s : State) → asked k reliable (length hs) ≡ true → on_time t s ≡ true → (reply (prepare t k reliable hs) s).state.latest ≡ t
  pub resends_set_time : (t timeout give_up : ℕ) (l : List ℕ) (s : State) → on_time t s ≡ true → (reply (take_resends t timeout give_up l) s).state.latest ≡ t
  -- "A refused call writes nothing to a lent list"
  pub lent_lists : (x : Refusal) (l : List ℕ) → lent (refused x) l ≡ l
  pub lent_lists_delivery : (x : Refusal) (n : ℕ) (l : List ℕ) → lent (undelivered x n) l ≡ l

pub record Effects : Type 0 where
  pub of_calls : CallEffects
  pub of_records : RecordEffects
  pub always : AlwaysEffects
