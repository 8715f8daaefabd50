-- One more held record, of any count and nine places.
use Rattle.std.proofs.Common.{◌≡◌, ℕ, ◌+◌, ◌<◌, ◌≤◌, List, length, take, set, arith, sym, ◌∙◌, length-take-le}
use Rattle.std.proofs.lemmas.List.{take_more_set}
use borrow.Author.Tests.{lt-ltb, le-ltb}
use lib.Seq.{take_all}
use Rattle.packet.specs.declared.Record.{Record}
use Rattle.script.specs.Holding.{more}

pub more_room : (n : ℕ) (rs : List Record) (r : Record) → length rs ≡ 9 → n < 9 → take (n + 1) (set rs n r) ≡ more (take n rs) r
more_room n rs r size lt =
    let e : length (take n rs) ≡ n = length-take-le n rs (omega (arith, size)) in
    take_more_set rs n r (omega (arith, size)) ∙ sym (rw (lt-ltb (length (take n rs)) 9 (omega (arith, e))))

pub more_full : (n : ℕ) (rs : List Record) (r : Record) → length rs ≡ 9 → 9 ≤ n → take n rs ≡ more (take n rs) r
more_full n rs r size le =
    let e : take n rs ≡ rs = take_all n rs (omega (arith, size)) in
    rw e (sym (rw (le-ltb (length rs) 9 (omega (arith, size)))))
