-- The search of the out list from its end.
use Rattle.std.proofs.Common.{◌≡◌, true, leb, ltb, ℕ, zero, suc, ◌+◌, ◌≤◌, ◌<◌, List, ◌∷◌, take, drop, length-append, length-take, length-drop, length, get_or, refl, arith, add-one, ap, sym, ◌∙◌}
use Rattle.std.specs.declared.cmp.Ordering.{Ordering}
use Rattle.std.specs.declared.cmp.Ordering.TheVariants.{Less, Equal, Greater}
use Rattle.seq.specs.Num.{cmp}
use Rattle.packet.specs.declared.OutEntry.{OutEntry}
use Rattle.std.specs.declared.option.Option.{Option}
use Rattle.std.specs.declared.option.Option.TheVariants.{None, Some}
use Rattle.packet.specs.Data.{no_entry}
use Rattle.std.specs.Prelude.{insert}
use Rattle.list.proofs.Pad.{never}
use Rattle.list.proofs.Edits.{length_items}
use Rattle.queues.specs.declared.out_list.OutList.{OutList}
use Rattle.queues.specs.Out.{entries, IsOutList}
use borrow.Author.Tests.{le-leb}
use Rattle.model.specs.Acks.{look, search, inserted_at, entry_number, insert_out}

pub search_none : (n : ℕ) (l : List OutEntry) (i : ℕ) → i ≤ 0 → search entry_number no_entry n l i ≡ Some 0
unfolding search
search_none n l zero h = refl
search_none n l (suc i) h = absurd (omega arith)

pub search_step : (n : ℕ) (l : List OutEntry) (i : ℕ)
    → search entry_number no_entry n l (i + 1) ≡ look (cmp n (get_or l i no_entry).number) i (search entry_number no_entry n l i)
unfolding search
search_step n l i = rw add-one refl

look_le : (o : Ordering) (i k : ℕ) (front : Option ℕ) → (front ≡ Some k → k ≤ i) → look o i front ≡ Some k → k ≤ suc i
look_le Less i k front h q = omega (arith, h q)
look_le Equal i k front h q = never (cc)
look_le Greater i k front h q = let p : suc i ≡ k = cc in omega arith

-- the place is one of the list's
pub search_le : (n : ℕ) (l : List OutEntry) (i k : ℕ) → search entry_number no_entry n l i ≡ Some k → k ≤ i
unfolding search
search_le n l zero k q = let p : 0 ≡ k = cc in omega arith
search_le n l (suc i) k q = look_le (cmp n (get_or l i no_entry).number) i k (search entry_number no_entry n l i) (search_le n l i k) q

pub again : (p : OutEntry) (b : List OutEntry) (o : Option ℕ) → o ≡ search entry_number no_entry p.number b (length b) → o ≡ None → insert_out p b ≡ b
unfolding insert_out
again p b o e a = ap (λ (x : Option ℕ). inserted_at x p b) (sym e ∙ a)

pub placed : (p : OutEntry) (b : List OutEntry) (o : Option ℕ) (k : ℕ) → o ≡ search entry_number no_entry p.number b (length b) → o ≡ Some k → insert_out p b ≡ insert b k p
unfolding insert_out
placed p b o k e a = ap (λ (x : Option ℕ). inserted_at x p b) (sym e ∙ a)

pub within : (p : OutEntry) (b : List OutEntry) (o : Option ℕ) (k : ℕ) → o ≡ search entry_number no_entry p.number b (length b) → o ≡ Some k → k ≤ length b
within p b o k e a = search_le p.number b (length b) k (sym e ∙ a)

pub too_long : (p : OutEntry) (b : List OutEntry) (o : Option ℕ) (k : ℕ) → o ≡ search entry_number no_entry p.number b (length b) → o ≡ Some k → 32 ≤ length b → 32 < length (insert_out p b)
too_long p b o k e a full =
    let w = within p b o k e a in
    omega (arith, ap length (placed p b o k e a), length-append (take k b) (p ∷ drop k b), length-take k b, length-drop k b)

-- room for an entry in its place, in a list of that length
pub none_room : (p : OutEntry) (o : OutList) (s : Option ℕ) → IsOutList o → s ≡ search entry_number no_entry p.number (entries o) (length (entries o)) → s ≡ None
    → true ≡ leb (length (insert_out p (entries o))) 32
none_room p o s w e a = sym (le-leb _ _ (omega (arith, ap length (again p (entries o) s e a), length_items 32 o.len no_entry o.entries w, w.fits)))

pub some_room : (p : OutEntry) (o : OutList) (s : Option ℕ) (k : ℕ) → IsOutList o → s ≡ search entry_number no_entry p.number (entries o) (length (entries o)) → s ≡ Some k
    → ltb o.len 32 ≡ leb (length (insert_out p (entries o))) 32
some_room p o s k w e a =
    let b = entries o in
    let size : length b ≡ o.len = length_items 32 o.len no_entry o.entries w in
    let one : length (insert_out p b) ≡ suc o.len = omega (arith, within p b s k e a, ap length (placed p b s k e a), length-append (take k b) (p ∷ drop k b), length-take k b, length-drop k b) in
    rw one refl
