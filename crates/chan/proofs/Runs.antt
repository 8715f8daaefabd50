-- How many packets follow one another, counted from place i on.
use Rattle.std.proofs.Common.{◌≡◌, ℕ, suc, ◌+◌, ◌≤◌, ◌<◌, List, [], ◌∷◌, length, get_or, drop, drop-cons, add-one, refl, arith, ap, sym, ◌∙◌, eq-eqb, ne_eqb}
use lib.ListN.{drop_of_length-le}
use Rattle.seq.specs.Num.{add}
use Rattle.packet.specs.declared.Packet.{Packet}
use Rattle.chan.specs.Arriving.{run}

run_no : (p : Packet) (q : List Packet) (e : ℕ) → (p.number ≡ e → ⊥) → run e (p ∷ q) ≡ 0
unfolding run
run_no p q e n = rw (ne_eqb _ _ n) refl

run_yes : (p : Packet) (q : List Packet) (e : ℕ) → p.number ≡ e → run e (p ∷ q) ≡ run (add e 1) q + 1
unfolding run
run_yes p q e n = rw (eq-eqb _ _ n) (omega arith)

run_nil : (e : ℕ) → run e [] ≡ 0
unfolding run
run_nil e = refl

pub run_stop : (q : List Packet) (i e : ℕ) (d : Packet) → i < length q → ((get_or q i d).number ≡ e → ⊥) → run e (drop i q) ≡ 0
run_stop q i e d lt n = ap (run e) (drop-cons q i d lt) ∙ run_no (get_or q i d) (drop (suc i) q) e n

pub run_step : (q : List Packet) (i e : ℕ) (d : Packet) → i < length q → (get_or q i d).number ≡ e → run e (drop i q) ≡ run (add e 1) (drop (i + 1) q) + 1
run_step q i e d lt n = ap (run e) (drop-cons q i d lt) ∙ run_yes (get_or q i d) (drop (suc i) q) e n ∙ ap (λ (j : ℕ). run (add e 1) (drop j q) + 1) (sym (add-one i))

pub run_end : (q : List Packet) (i e : ℕ) → length q ≤ i → run e (drop i q) ≡ 0
run_end q i e le = ap (run e) (drop_of_length-le q {i = i} le) ∙ run_nil e
