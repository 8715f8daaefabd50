-- Every history of tables from a new one is the model's history, put into tables: so the demands hold of the public calls. Assumes nothing.
use mathlib.Core.Path.{◌≡◌, refl, ap, sym, subst, ◌∙◌}
use mathlib.Core.Bool.{Bool, true}
use mathlib.Core.List.{List, [], ◌∷◌, ◌++◌, map, reverse}
use Rattle.std.specs.declared.option.Option.TheVariants.{Some}
use Prim.Native.Nat.{ℕ, ◌+◌}
use Rattle.list.specs.Pad.{all_b}
use Rattle.seq.specs.Num.{wrap}
use Rattle.packet.specs.Data.{Range, packet}
use Rattle.model.specs.State.{State, new, new_protocol}
use Rattle.model.specs.Group.{group}
use Rattle.model.specs.Calls.{Call}
use Rattle.model.specs.Port.{reply}
use Rattle.model.specs.History.{run, rust_run}
use Rattle.model.specs.Wellformed.{well_formed}
use Rattle.order.specs.Sent.{Arrival, sent_as, missing, Near, sent_before}
use Rattle.packet.specs.declared.Record.{Record}
use Rattle.order.specs.OnKey.{is_reliable, granted_by, granted, handed_in, handed_by, handed_out, waiting, expected_of}
use Rattle.order.proofs.Demand3.{demand3}
use Rattle.agreement.specs.Demand2.{inside}
use Rattle.agreement.proofs.Agreement.{demand2}
use Rattle.kept.proofs.Kept.{new-good, kept, kept_run}
use Rattle.tab.specs.declared.Table.{Table}
use Rattle.tab.specs.Tables.{state_of, repr}
use Rattle.tab.specs.Test.{wfb}
use Rattle.tab.proofs.Back.{well-back, well-form}
use Rattle.tab.specs.Calls.{TableReply, table_reply, called}
use Rattle.histories.proofs.Called.{called-granted, test_wf, wf_test}
use Rattle.histories.specs.Tables.{Run, answering, run_t, granted_t, handed_t}

-- a table in the one form of a well-formed state stands for that state, and passes the test
back : (s : State) → well_formed s ≡ true → state_of (repr s) ≡ s
back s w = well-back s w

passes : (s : State) → well_formed s ≡ true → wfb (repr s) ≡ true
passes s w = wf_test (repr s) (well-form s w)

-- one call
pub call_is : (e : Call) (s : State) → well_formed s ≡ true → called e (repr s) ≡ table_reply (reply e s)
call_is e s w = called-granted e (repr s) (passes s w) ∙ ap (λ (q : State). table_reply (reply e q)) (back s w)

-- every call keeps a table well formed
pub kept_table : (e : Call) (t : Table) → wfb t ≡ true → wfb (called e t).table ≡ true
kept_table e t w =
    let v = test_wf t w in
    let q : called e t ≡ table_reply (reply e (state_of t)) = called-granted e t w in
    subst (λ (o : TableReply). wfb o.table ≡ true) (sym q) (passes (reply e (state_of t)).state (kept e (state_of t) v.meets))

-- a whole history
pub runs : (es : List Call) (s : State) → well_formed s ≡ true → run_t es (repr s) ≡ record { answers = (run es s).answers; table = repr (run es s).state }
unfolding run_t run
runs [] s w = refl
runs (e ∷ es) s w =
    let q : called e (repr s) ≡ table_reply (reply e s) = call_is e s w in
    ap (λ (o : TableReply). answering o.answer (run_t es o.table)) q
    ∙ ap (λ (r : Run). answering (reply e s).answer r) (runs es (reply e s).state (kept e s w))

-- from a new table
pub runs_new : (f : Bool) (es : List Call) → run_t es (repr (new f)) ≡ record { answers = (run es (new f)).answers; table = repr (run es (new f)).state }
runs_new f es = runs es (new f) (new-good f)

-- the state that the last table stands for
pub end_state : (f : Bool) (es : List Call) → state_of (run_t es (repr (new f))).table ≡ (run es (new f)).state
end_state f es = ap (λ (r : Run). state_of r.table) (runs_new f es) ∙ back (run es (new f)).state (kept_run es f)

pub well_formed-always : (f : Bool) (es : List Call) → wfb (run_t es (repr (new f))).table ≡ true
well_formed-always f es = subst (λ (r : Run). wfb r.table ≡ true) (sym (runs_new f es)) (passes (run es (new f)).state (kept_run es f))

-- ---- demand 2: the answers and the lists of the tables are the Rust's, up to the first added refusal or panic

pub demand2_tables : (f : Bool) (es : List Call) → rust_run (inside es (new f)) (new_protocol f) ≡ Some (record { answers = (run_t (inside es (new f)) (repr (new f))).answers; protocol = (state_of (run_t (inside es (new f)) (repr (new f))).table).protocol })
demand2_tables f es =
    demand2.up_to_the_first f es
    ∙ (λ k. Some (record { answers = sym (ap (λ (r : Run). r.answers) (runs_new f (inside es (new f)))) k; protocol = sym (ap (λ (s : State). s.protocol) (end_state f (inside es (new f)))) k }))

-- ---- demand 3

granted-is : (a i : ℕ) (es : List Call) (s : State) → well_formed s ≡ true → granted_t a i es (repr s) ≡ granted a i es s
unfolding granted_t granted
granted-is a i [] s w = refl
granted-is a i (e ∷ es) s w =
    ap (λ (q : State). granted_by a i e q ++ granted_t a i es (called e (repr s)).table) (back s w)
    ∙ ap (λ (o : TableReply). granted_by a i e s ++ granted_t a i es o.table) (call_is e s w)
    ∙ ap (λ (l : List Record). granted_by a i e s ++ l) (granted-is a i es (reply e s).state (kept e s w))

handed_is : (a i : ℕ) (es : List Call) (s : State) → well_formed s ≡ true → handed_t a i es (repr s) ≡ handed_out a i es s
unfolding handed_t handed_out
handed_is a i [] s w = refl
handed_is a i (e ∷ es) s w =
    ap (λ (o : TableReply). handed_in a i e o.answer ++ handed_t a i es o.table) (call_is e s w)
    ∙ ap (λ (l : List (List ℕ)). handed_by a i e s ++ l) (handed_is a i es (reply e s).state (kept e s w))

pub demand3_tables : (f : Bool) (es : List Call) (a i : ℕ) (s : ℕ → Range) (h : List Arrival)
    → all_b is_reliable (granted_t a i es (repr (new f))) ≡ true
    → map packet (granted_t a i es (repr (new f))) ≡ map (sent_as s) (reverse h)
    → Near h
    → (handed_t a i es (repr (new f)) ++ waiting a i (state_of (run_t es (repr (new f))).table) ≡ (group (sent_before s h (missing h))).made) × (expected_of a i (state_of (run_t es (repr (new f))).table) ≡ wrap (missing h))
demand3_tables f es a i s h w b n =
    let g : granted_t a i es (repr (new f)) ≡ granted a i es (new f) = granted-is a i es (new f) (new-good f) in
    let d = demand3 f es a i s h (sym (ap (λ (l : List Record). all_b is_reliable l) g) ∙ w) (sym (ap (λ (l : List Record). map packet l) g) ∙ b) n in (
      ap (λ (l : List (List ℕ)). l ++ waiting a i (state_of (run_t es (repr (new f))).table)) (handed_is a i es (new f) (new-good f))
          ∙ ap (λ (q : State). handed_out a i es (new f) ++ waiting a i q) (end_state f es) ∙ d.0,
      ap (λ (q : State). expected_of a i q) (end_state f es) ∙ d.1,
    )
