-- Demand 2, as a statement: the port and the Rust agree on "every sequence of calls from a new table up to the first record or call that
-- gets an added refusal or would make the Rust panic". The model's History has both runs, and the domain call by call.
use Rattle.std.specs.Prelude.{◌≡◌, Bool, true, false, cond, not, ◌&&◌, List, [], ◌∷◌, ℕ}
use Rattle.std.specs.declared.option.Option.TheVariants.{Some}
use Rattle.packet.specs.declared.Record.{Record}
use Rattle.model.specs.State.{State, new_protocol, new}
use Rattle.model.specs.Rust as rust
use Rattle.model.specs.Calls.{Call, lent}
use Rattle.model.specs.Port.{record_step, play, reply}
use Rattle.model.specs.History.{run, Rust, answers, panicked, RustRecord, gives, stops, rust_record_of, played, rust_play, rust_reply, rust_run, added_result, in_domain, all_in_domain}

-- the Rust does not panic at a record
abbrev pub goes_on : RustRecord → Bool
goes_on (gives x p) = true
goes_on stops = false

-- what the Rust makes of a record in a state
abbrev pub rust_step : ℕ → ℕ → Record → State → RustRecord
rust_step t a r s = rust_record_of (rust.accept_record t a r s.protocol) a r

-- a record that stays in the domain
unfoldable pub record_in_domain : ℕ → ℕ → Record → State → Bool
record_in_domain t a r s = not (added_result (record_step t a r s).result) && goes_on (rust_step t a r s)

-- "up to the first record": the records of a delivery before the first that leaves the domain
unfoldable pub records_inside : ℕ → ℕ → List Record → State → List Record
records_inside t a [] s = []
records_inside t a (r ∷ rs) s = cond (record_in_domain t a r s) (r ∷ records_inside t a rs (record_step t a r s).state) []

-- ".. or call": the calls of a history before the first that leaves the domain
unfoldable pub inside : List Call → State → List Call
inside [] s = []
inside (e ∷ es) s = cond (in_domain e s) (e ∷ inside es (reply e s).state) []

-- a lent list after a call of the Rust
abbrev pub rust_lent : Rust → List ℕ → List ℕ
rust_lent (answers a p) l = lent a l
rust_lent panicked l = l

pub record Demand2 : Type 0 where
  -- a record, in any state: the same result, and the same protocol left
  pub records : (t a : ℕ) (r : Record) (s : State) → record_in_domain t a r s ≡ true → rust_step t a r s ≡ gives (record_step t a r s).result (record_step t a r s).state.protocol
  -- the records of a delivery, as far as they stay in the domain
  pub deliveries :
      (t a : ℕ) (rs : List Record) (s : State) →
      rust_play t a (records_inside t a rs s) s.protocol ≡ played (play t a (records_inside t a rs s) s).results (play t a (records_inside t a rs s) s).state.protocol
  -- a call, in any state: the same answer, and the same protocol left
  pub calls : (e : Call) (s : State) → in_domain e s ≡ true → rust_reply e s.protocol ≡ answers (reply e s).answer (reply e s).state.protocol
  -- and the same contents of a lent list
  pub lent_lists : (e : Call) (s : State) (l : List ℕ) → in_domain e s ≡ true → rust_lent (rust_reply e s.protocol) l ≡ lent (reply e s).answer l
  -- a history from a new table that stays in the domain: the same answers, and the same protocol at its end
  pub histories : (f : Bool) (es : List Call) → all_in_domain es (new f) ≡ true → rust_run es (new_protocol f) ≡ Some (record { answers = (run es (new f)).answers; protocol = (run es (new f)).state.protocol })
  -- any history from a new table, as far as it stays in the domain
  pub up_to_the_first :
      (f : Bool) (es : List Call) →
      rust_run (inside es (new f)) (new_protocol f) ≡ Some (record { answers = (run (inside es (new f)) (new f)).answers; protocol = (run (inside es (new f)) (new f)).state.protocol })
