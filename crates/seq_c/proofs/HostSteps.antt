-- What each return of an exported function owes. Assumes nothing.
use Rattle.std.proofs.Common.{◌≡◌, ℕ, Bool, true, false, not, sym, ap, ◌∙◌, rules}
use borrow.Author.Tests.{not-true, not-false}
use Rattle.std.specs.declared.cmp.Ordering.{Ordering}
use Rattle.seq.specs.Num.{legal, cmp}
use Rattle.seq_c.specs.Host.{order_number, illegal, given}

-- an argument that is no legal number
pub refused : (n answer : ℕ) (t : Bool) → t ≡ legal n → not t ≡ true → illegal ≡ given n answer
unfolding given
refused n answer t e q = let p : legal n ≡ false = sym e ∙ not-true t q in rw p

-- one that is
pub passed : (n answer r : ℕ) (t : Bool) → t ≡ legal n → not t ≡ false → r ≡ answer → r ≡ given n answer
unfolding given
passed n answer r t e q a = let p : legal n ≡ true = sym e ∙ not-false t q in rw p a

pub ordered : (a b r : ℕ) (o : Ordering) → o ≡ cmp a b → r ≡ order_number o → r ≡ order_number (cmp a b)
ordered a b r o e q = q ∙ ap order_number e

pub ruleset host = (refused, passed, ordered, rules)
