-- What holds of every history of calls on tables, from a new one: the original's answers and state, bundles in sending order, and tables
-- that stay well formed.
use Rattle.std.specs.Prelude.{◌≡◌, Bool, true, List, ◌++◌, map, reverse, ℕ}
use Rattle.std.specs.declared.option.Option.TheVariants.{Some}
use Rattle.list.specs.Pad.{all_b}
use Rattle.seq.specs.Num.{wrap}
use Rattle.packet.specs.Data.{Range, packet}
use Rattle.model.specs.State.{new, new_protocol}
use Rattle.model.specs.Group.{group}
use Rattle.model.specs.Calls.{Call}
use Rattle.model.specs.History.{rust_run}
use Rattle.order.specs.Sent.{Arrival, sent_as, missing, Near, sent_before}
use Rattle.order.specs.OnKey.{is_reliable, waiting, expected_of}
use Rattle.agreement.specs.Demand2.{inside}
use Rattle.tab.specs.declared.Table.{Table}
use Rattle.tab.specs.Tables.{state_of, repr}
use Rattle.tab.specs.Test.{wfb}
use Rattle.tab.specs.Calls.{called}
use Rattle.histories.specs.Tables.{run_t, granted_t, handed_t}

-- up to the first refusal that the port adds, or panic of the original, the answers and the lists of the tables are the original's
pub record AsTheRust : Type 0 where
  pub up_to_the_first :
      (f : Bool) (es : List Call) →
      rust_run (inside es (new f)) (new_protocol f) ≡ Some (record { answers = (run_t (inside es (new f)) (repr (new f))).answers; protocol = (state_of (run_t (inside es (new f)) (repr (new f))).table).protocol })

-- of an on-channel whose granted records are reliable and are the sent packets that arrive, each near the first missing one: the bundles
-- handed out and those that wait are the grouping's of all packets sent before the first missing one, and that one is expected
pub record InSendingOrder : Type 0 where
  pub bundles :
      (f : Bool) (es : List Call) (a i : ℕ) (s : ℕ → Range) (h : List Arrival) →
      all_b is_reliable (granted_t a i es (repr (new f))) ≡ true →
      map packet (granted_t a i es (repr (new f))) ≡ map (sent_as s) (reverse h) →
      Near h →
      (handed_t a i es (repr (new f)) ++ waiting a i (state_of (run_t es (repr (new f))).table) ≡ (group (sent_before s h (missing h))).made) × (expected_of a i (state_of (run_t es (repr (new f))).table) ≡ wrap (missing h))

-- every call keeps a table well formed, and so does every history from a new one
pub record KeptWellFormed : Type 0 where
  pub call : (e : Call) (t : Table) → wfb t ≡ true → wfb (called e t).table ≡ true
  pub always : (f : Bool) (es : List Call) → wfb (run_t es (repr (new f))).table ≡ true
