-- Single acks on the ack queue, and the names that leave it.
use Rattle.std.proofs.Common.{◌≡◌, ℕ, ◌+◌, ◌≤◌, ◌<◌, Bool, true, false, List, length, get_or, drop, refl, sym, ap, ◌∙◌}
use Rattle.std.specs.declared.option.Option.{Option}
use Rattle.std.specs.declared.option.Option.TheVariants.{None, Some}
use Rattle.std.specs.List as std
use lib.ListN.{drop_of_length-le}
use Rattle.list.specs.Find.{has, remove_first, swap_remove, swap_remove_first, swap_at}
use Rattle.list.proofs.Positions.{drop_here}
use Rattle.list.proofs.Firsts.{position_is}
use Rattle.model.specs.Acks.{is, ack_in_singles, take_written}

pub swapped_first : (f : ℕ → Bool) (xs : List ℕ) (i : ℕ) (o : Option ℕ) → o ≡ std.position f xs → o ≡ Some i → swap_remove_first 0 f xs ≡ swap_remove 0 i xs
swapped_first f xs i o e s = ap (λ p. swap_at 0 p xs) (sym (position_is f xs) ∙ (sym e ∙ s))

pub none_swapped : (f : ℕ → Bool) (xs : List ℕ) (o : Option ℕ) → o ≡ std.position f xs → o ≡ None → xs ≡ swap_remove_first 0 f xs
none_swapped f xs o e s = sym (ap (λ p. swap_at 0 p xs) (sym (position_is f xs) ∙ (sym e ∙ s)))

pub ack_next : (ns : List ℕ) (i : ℕ) (qs ps : List ℕ) → i < length ns → ps ≡ swap_remove_first 0 (is (get_or ns i 0)) qs
    → ack_in_singles (drop (i + 1) ns) ps ≡ ack_in_singles (drop i ns) qs
unfolding ack_in_singles
ack_next ns i qs ps lt e = rw (drop_here ns i 0 lt, e) refl

pub ack_last : (ns : List ℕ) (i : ℕ) (qs : List ℕ) → length ns ≤ i → qs ≡ ack_in_singles (drop i ns) qs
unfolding ack_in_singles
ack_last ns i qs le = rw (drop_of_length-le ns {i = i} le) refl

-- ---- the names, one after the other

pub take_next : (ns : List ℕ) (i : ℕ) (qs ps : List ℕ) → i < length ns → has (is (get_or ns i 0)) qs ≡ true → ps ≡ remove_first (is (get_or ns i 0)) qs
    → take_written (drop (i + 1) ns) ps ≡ take_written (drop i ns) qs
unfolding take_written
take_next ns i qs ps lt t e = rw (drop_here ns i 0 lt, t, e) refl

pub take_lacks : (ns : List ℕ) (i : ℕ) (qs : List ℕ) → i < length ns → has (is (get_or ns i 0)) qs ≡ false → take_written (drop i ns) qs ≡ None
unfolding take_written
take_lacks ns i qs lt t = rw (drop_here ns i 0 lt, t) refl

pub take_last : (ns : List ℕ) (i : ℕ) (qs : List ℕ) → length ns ≤ i → take_written (drop i ns) qs ≡ Some qs
unfolding take_written
take_last ns i qs le = rw (drop_of_length-le ns {i = i} le) refl
