-- The rows of a resend fit the list that a scene lends. Assumes nothing.
use Rattle.std.proofs.Common.{◌≡◌, refl, ℕ, ◌*◌, ◌≤◌, List, [], ◌∷◌, length, arith, length-take-le}
use Rattle.std.proofs.lemmas.List.{length-map}
use Rattle.list.specs.Find.{keep_by}
use Rattle.list.proofs.Find.{length-keep}
use Rattle.packet.specs.declared.Resend.{Resend}
use Rattle.model.specs.Calls.{flat}
use Rattle.model.specs.Rust.{young, due, row}
use Rattle.queues.specs.declared.out_list.OutList.{OutList}
use Rattle.queues.specs.declared.out_list.Clock.{Clock}
use Rattle.queues.specs.Out.{entries, due_entries, due_rows, IsOutList}

-- two numbers for each row
length_flat : (xs : List Resend) → length (flat xs) ≡ 2 * length xs
unfolding flat
length_flat [] = refl
length_flat (x ∷ xs) = omega (arith, length_flat xs)

pub rows_few : (a : ℕ) (c : Clock) (o : OutList) → IsOutList o → length (flat (due_rows a c (entries o))) ≤ 64
rows_few a c o w =
    let n : length (entries o) ≤ 32 = omega (arith, w.fits, length-take-le o.len o.entries (omega (arith, w.size, w.fits))) in
    let kept = keep_by (young c.time c.give_up) (entries o) in
    omega (arith, n, length_flat (due_rows a c (entries o)), length-map (due_entries c (entries o)) (row a), length-keep (due c.time c.timeout) kept, length-keep (young c.time c.give_up) (entries o))
