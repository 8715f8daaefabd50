-- The entries that a resend lists, one after the other, and those that a cumulative ack passes.
use Rattle.std.proofs.Common.{◌≡◌, ℕ, ◌+◌, ◌≤◌, ◌<◌, Bool, true, false, List, [], ◌∷◌, map, length, get_or, drop, set, refl, ap, arith, subst}
use Rattle.std.specs.declared.cmp.Ordering.TheVariants.{Less, Equal, Greater}
use Rattle.seq.specs.Num.{cmp}
use Rattle.list.specs.Find.{keep_by}
use Rattle.list.proofs.Find.{keep-keep}
use Rattle.list.proofs.Positions.{drop_here}
use Rattle.list.proofs.Copies.{Writing, writing_step}
use Rattle.packet.specs.declared.OutEntry.{OutEntry}
use Rattle.packet.specs.Data.{no_entry}
use Rattle.model.specs.Acks.{ack_cumulative, ack_single, ack_singles}
use Rattle.model.specs.Calls.{flat}
use Rattle.model.specs.Rust.{young, due, row}
use lib.ListN.{drop_of_length-le}
use Rattle.queues.specs.declared.out_list.Clock.{Clock}
use Rattle.queues.specs.Out.{listed, due_entries, due_rows}

abbrev lists : Clock → OutEntry → Bool
lists c e = listed c.time c.timeout c.give_up e

due_is : (c : Clock) (es : List OutEntry) → due_entries c es ≡ keep_by (lists c) es
due_is c es = keep-keep (due c.time c.timeout) (young c.time c.give_up) (lists c) (λ e. refl) es

abbrev here : List OutEntry → ℕ → OutEntry
here es i = get_or es i no_entry

due_here : (c : Clock) (es : List OutEntry) (i : ℕ) → i < length es → lists c (here es i) ≡ true
    → due_entries c (drop i es) ≡ here es i ∷ due_entries c (drop (i + 1) es)
unfolding keep_by
due_here c es i lt t = rw (due_is, due_is, drop_here es i no_entry lt, t) refl

none_here : (c : Clock) (es : List OutEntry) (i : ℕ) → i < length es → lists c (here es i) ≡ false
    → due_entries c (drop i es) ≡ due_entries c (drop (i + 1) es)
unfolding keep_by
none_here c es i lt t = rw (due_is, due_is, drop_here es i no_entry lt, t) refl

-- ---- counting

pub count_yes : (c : Clock) (es : List OutEntry) (i n m : ℕ) → i < length es → lists c (here es i) ≡ true
    → n + length (due_entries c (drop i es)) ≡ m → n + 1 + length (due_entries c (drop (i + 1) es)) ≡ m
count_yes c es i n m lt t h = omega (arith, h, ap length (due_here c es i lt t))

pub count_no : (c : Clock) (es : List OutEntry) (i n m : ℕ) → i < length es → lists c (here es i) ≡ false
    → n + length (due_entries c (drop i es)) ≡ m → n + length (due_entries c (drop (i + 1) es)) ≡ m
count_no c es i n m lt t h = omega (arith, h, ap length (none_here c es i lt t))

-- ---- writing rows

module _ (a : ℕ) (c : Clock) (es : List OutEntry) (i : ℕ) (d w l : List ℕ) (at k : ℕ) (lt : i < length es) (s : Writing d at w l k (flat (due_rows a c (drop i es)))) where
  row_here : lists c (here es i) ≡ true → flat (due_rows a c (drop i es)) ≡ a ∷ (here es i).handle ∷ flat (due_rows a c (drop (i + 1) es))
  unfolding flat
  row_here t = rw (due_here c es i lt t) refl

  pub room_here : lists c (here es i) ≡ true → k + 1 < length l
  room_here t = omega (arith, s.fits, s.size, ap length (row_here t))

  pub row_yes : lists c (here es i) ≡ true
      → Writing d at w (set (set l k a) (k + 1) (here es i).handle) (k + 2) (flat (due_rows a c (drop (i + 1) es)))
  row_yes t =
      let two : k + 1 + 1 ≡ k + 2 = omega arith in
      let s0 : Writing d at w l k (a ∷ (here es i).handle ∷ flat (due_rows a c (drop (i + 1) es))) = subst (Writing d at w l k) (row_here t) s in
      let s1 = writing_step d at w l k a _ s0 in
      let s2 = writing_step d at w (set l k a) (k + 1) (here es i).handle _ s1 in
      subst (λ n. Writing d at w (set (set l k a) (k + 1) (here es i).handle) n (flat (due_rows a c (drop (i + 1) es)))) two s2

  pub row_no : lists c (here es i) ≡ false → Writing d at w l k (flat (due_rows a c (drop (i + 1) es)))
  row_no t = subst (λ r. Writing d at w l k (flat (map (row a) r))) (none_here c es i lt t) s

-- ---- a cumulative ack

pub pass_on : (n : ℕ) (es : List OutEntry) (i : ℕ) → i < length es → cmp n (here es i).number ≡ Greater
    → ack_cumulative n (drop i es) ≡ ack_cumulative n (drop (i + 1) es)
unfolding ack_cumulative
pass_on n es i lt t = rw (drop_here es i no_entry lt, t) refl

pub stop_equal : (n : ℕ) (es : List OutEntry) (i : ℕ) → i < length es → cmp n (here es i).number ≡ Equal → drop i es ≡ ack_cumulative n (drop i es)
unfolding ack_cumulative
stop_equal n es i lt t = rw (drop_here es i no_entry lt, t) refl

pub stop_less : (n : ℕ) (es : List OutEntry) (i : ℕ) → i < length es → cmp n (here es i).number ≡ Less → drop i es ≡ ack_cumulative n (drop i es)
unfolding ack_cumulative
stop_less n es i lt t = rw (drop_here es i no_entry lt, t) refl

pub none_left : (n : ℕ) (es : List OutEntry) (i : ℕ) → length es ≤ i → drop i es ≡ ack_cumulative n (drop i es)
unfolding ack_cumulative
none_left n es i le = rw (drop_of_length-le es {i = i} le) refl

-- ---- single acks, one after the other

pub ack_next : (ns : List ℕ) (i : ℕ) (es fs : List OutEntry) → i < length ns → fs ≡ ack_single (get_or ns i 0) es
    → ack_singles (drop (i + 1) ns) fs ≡ ack_singles (drop i ns) es
unfolding ack_singles
ack_next ns i es fs lt e = rw (drop_here ns i 0 lt, e) refl

pub ack_last : (ns : List ℕ) (i : ℕ) (es : List OutEntry) → length ns ≤ i → es ≡ ack_singles (drop i ns) es
unfolding ack_singles
ack_last ns i es le = rw (drop_of_length-le ns {i = i} le) refl

-- no entry is left to list
pub none_due : (c : Clock) (es : List OutEntry) (i : ℕ) → length es ≤ i → due_entries c (drop i es) ≡ []
unfolding keep_by
none_due c es i le = rw (drop_of_length-le es {i = i} le) refl

pub no_rows : (a : ℕ) (c : Clock) (es : List OutEntry) (i : ℕ) → length es ≤ i → flat (due_rows a c (drop i es)) ≡ []
unfolding flat
no_rows a c es i le = rw (none_due c es i le) refl
