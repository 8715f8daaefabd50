-- Moving the successors one by one is moving as many as follow one another. Assumes nothing.
use mathlib.Core.Path.{◌≡◌, sym, ◌∙◌}
use mathlib.Core.List.{List, [], ◌∷◌, ◌++◌, append_assoc, append-nil}
use mathlib.Core.Bool.{Bool, true, false, cond}
use Prim.Native.Nat.{ℕ, suc, ◌≤◌, ◌<◌}
use native.Mathlib.Omega.{arith}
use lib.Dec.{eqb}
use lib.ListN.{length, take, drop}
use Rattle.seq.specs.Num.{add}
use Rattle.packet.specs.declared.Packet.{Packet}
use Rattle.model.specs.Reorder.{Reliable, move}
use Rattle.chan.specs.Arriving.{run}

pub run_le : (e : ℕ) (b : List Packet) → run e b ≤ length b
unfolding run
run_le e [] = omega arith
run_le e (p ∷ b) = at (eqb p.number e) (run_le (add e 1) b)
  where
    at : (t : Bool) → run (add e 1) b ≤ length b → cond t (suc (run (add e 1) b)) 0 ≤ suc (length b)
    at true h = omega arith
    at false h = omega arith

abbrev pub moved : ℕ → List Packet → List Packet → List (List ℕ) → ℕ → Reliable
moved e b q bs k = record { expected = add e k; buffer = drop k b; queue = q ++ take k b; bundles = bs }

moved_none : (e : ℕ) → e < 0x1000_0000 → (b q : List Packet) (bs : List (List ℕ)) → ◌≡◌ {A = Reliable} (record { expected = e; buffer = b; queue = q; bundles = bs }) (moved e b q bs 0)
moved_none e h b q bs =
    let z : e ≡ add e 0 = omega arith in
    λ i. record { expected = z i; buffer = b; queue = sym (append-nil q) i; bundles = bs }

moved_more : (e : ℕ) (p : Packet) (b q : List Packet) (bs : List (List ℕ)) (k : ℕ) → moved (add e 1) b (q ++ (p ∷ [])) bs k ≡ moved e (p ∷ b) q bs (suc k)
moved_more e p b q bs k =
    let z : add (add e 1) k ≡ add e (suc k) = omega arith in
    λ i. record { expected = z i; buffer = drop k b; queue = append_assoc q (p ∷ []) (take k b) i; bundles = bs }

pub move-run : (e : ℕ) → e < 0x1000_0000 → (b q : List Packet) (bs : List (List ℕ)) → move e b q bs ≡ moved e b q bs (run e b)
unfolding move run
move-run e h [] q bs = moved_none e h [] q bs
move-run e h (p ∷ b) q bs = at (eqb p.number e) (move-run (add e 1) (omega arith) b (q ++ (p ∷ [])) bs)
  where
    at : (t : Bool) → move (add e 1) b (q ++ (p ∷ [])) bs ≡ moved (add e 1) b (q ++ (p ∷ [])) bs (run (add e 1) b) → cond t (move (add e 1) b (q ++ (p ∷ [])) bs) (record { expected = e; buffer = p ∷ b; queue = q; bundles = bs }) ≡ moved e (p ∷ b) q bs (cond t (suc (run (add e 1) b)) 0)
    at true ih = ih ∙ moved_more e p b q bs (run (add e 1) b)
    at false ih = moved_none e h (p ∷ b) q bs
