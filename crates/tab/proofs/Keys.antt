-- Keys that are distinct, found one by one.
use Rattle.std.proofs.Common.{◌≡◌, ℕ, ◌+◌, ◌≤◌, ◌<◌, Bool, true, false, not, ◌&&◌, List, [], ◌∷◌, map, length, drop, get_or, refl, sym, ap, ◌∙◌}
use lib.ListN.{drop_of_length-le}
use Rattle.std.specs.List.{list_any}
use Rattle.list.specs.Find.{has}
use Rattle.list.proofs.Positions.{drop_here}
use lib.Dec.{eqb}
use Rattle.model.specs.Wellformed.{distinct, same_off, same_on}
use Rattle.chan.specs.declared.OffChannel.{OffChannel}
use Rattle.chan.specs.declared.OnChannel.{OnChannel}
use Rattle.chan.specs.Channels.{off_of, on_of}

module _ {X Y : Type 0} where
  pub any_has : (f : X → Bool) (g : Y → Bool) (h : X → Y) → ((x : X) → f x ≡ g (h x)) → (xs : List X) → list_any f xs ≡ has g (map h xs)
  unfolding has
  any_has f g h e [] = refl
  any_has f g h e (x ∷ xs) = rw (e x, any_has f g h e xs)

  -- one that stands again: not distinct
  module _ (same : Y → Y → Bool) (h : X → Y) (f : X → X → Bool) (e : (x y : X) → f x y ≡ same (h x) (h y)) (s : List X) (i : ℕ) (x : X) (rest : List X) (lt : drop i s ≡ x ∷ rest) (r : Bool) (q : r ≡ list_any (f x) rest) where
    here : distinct same (map h (drop i s)) ≡ not r && distinct same (map h rest)
    unfolding distinct
    here =
        let a = any_has (f x) (same (h x)) h (e x) rest in
        ap (λ (l : List X). distinct same (map h l)) lt ∙ ap (λ (b : Bool). not b && distinct same (map h rest)) (sym (q ∙ a))

    pub again : r ≡ true → distinct same (map h (drop i s)) ≡ false
    again t = here ∙ ap (λ (b : Bool). not b && distinct same (map h rest)) t

    pub once : r ≡ false → distinct same (map h (drop i s)) ≡ distinct same (map h rest)
    once t = here ∙ ap (λ (b : Bool). not b && distinct same (map h rest)) t

  pub none_left : (same : Y → Y → Bool) (h : X → Y) (s : List X) (i : ℕ) → length s ≤ i → distinct same (map h (drop i s)) ≡ true
  unfolding distinct
  none_left same h s i le = ap (λ (l : List X). distinct same (map h l)) (drop_of_length-le s {i = i} le)

-- ---- by address, and by address and index

abbrev off_key : OffChannel → OffChannel → Bool
off_key x y = eqb y.address x.address

abbrev on_key : OnChannel → OnChannel → Bool
on_key x y = eqb y.address x.address && eqb y.index x.index

module _ (s : List OffChannel) (i a : ℕ) (rest : List OffChannel) (r : Bool) (d : OffChannel) (lt : i < length s) (p : a ≡ (get_or s i d).address) (w : rest ≡ drop (i + 1) s) (q : r ≡ list_any (λ y. eqb y.address a) rest) where
  off_any : r ≡ list_any (off_key (get_or s i d)) (drop (i + 1) s)
  off_any = q ∙ (λ k. list_any (λ y. eqb y.address (p k)) (w k))

  pub off_again : r ≡ true → distinct same_off (map off_of (drop i s)) ≡ false
  off_again t = again same_off off_of off_key (λ x y. refl) s i (get_or s i d) (drop (i + 1) s) (drop_here s i d lt) r off_any t

  pub off_once : r ≡ false → distinct same_off (map off_of (drop i s)) ≡ distinct same_off (map off_of (drop (i + 1) s))
  off_once t = once same_off off_of off_key (λ x y. refl) s i (get_or s i d) (drop (i + 1) s) (drop_here s i d lt) r off_any t

module _ (s : List OnChannel) (i a j : ℕ) (rest : List OnChannel) (r : Bool) (d : OnChannel) (lt : i < length s) (p : a ≡ (get_or s i d).address) (o : j ≡ (get_or s i d).index) (w : rest ≡ drop (i + 1) s) (q : r ≡ list_any (λ y. eqb y.address a && eqb y.index j) rest) where
  on_any : r ≡ list_any (on_key (get_or s i d)) (drop (i + 1) s)
  on_any = q ∙ (λ k. list_any (λ y. eqb y.address (p k) && eqb y.index (o k)) (w k))

  pub on_again : r ≡ true → distinct same_on (map on_of (drop i s)) ≡ false
  on_again t = again same_on on_of on_key (λ x y. refl) s i (get_or s i d) (drop (i + 1) s) (drop_here s i d lt) r on_any t

  pub on_once : r ≡ false → distinct same_on (map on_of (drop i s)) ≡ distinct same_on (map on_of (drop (i + 1) s))
  on_once t = once same_on on_of on_key (λ x y. refl) s i (get_or s i d) (drop (i + 1) s) (drop_here s i d lt) r on_any t
