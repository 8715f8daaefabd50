-- Channels that are sent again one after the other: those behind are as they were, and the rows so far stand in the lent list.
use Rattle.std.proofs.Common.{◌≡◌, ℕ, zero, suc, ◌+◌, ◌*◌, ◌≤◌, ◌<◌, arith, add-one, List, [], ◌∷◌, ◌++◌, map, length, take, drop, get_or, set, length-append, refl, ap, sym, ◌∙◌}
use Rattle.std.proofs.lemmas.List.{append-nil, take_more, take_at, length-map, map-append, map-set}
use Rattle.std.proofs.Math.ListN.{get_or-map}
use lib.ListN.{drop_of_length-le}
use Rattle.list.specs.Find.{joined, written_at}
use Rattle.list.proofs.Joined.{joined-append, joined-part}
use Rattle.list.proofs.Copies.{written_after, length-written, written_none}
use Rattle.list.proofs.Positions.{drop_here}
use Rattle.packet.specs.declared.Resend.{Resend}
use Rattle.model.specs.Calls.{flat}

-- ---- rows as numbers

pub flat-append : (xs ys : List Resend) → flat (xs ++ ys) ≡ flat xs ++ flat ys
unfolding flat
flat-append [] ys = refl
flat-append (x ∷ xs) ys = ap (λ (l : List ℕ). x.address ∷ x.handle ∷ l) (flat-append xs ys)

pub length-flat : (xs : List Resend) → length (flat xs) ≡ 2 * length xs
unfolding flat
length-flat [] = refl
length-flat (x ∷ xs) = omega (arith, length-flat xs)

flat_none : flat [] ≡ []
unfolding flat
flat_none = refl

module _ {Y : Type 0} (f : Y → Y) where
  -- the first i are changed
  abbrev pub part : ℕ → List Y → List Y
  part i ys = map f (take i ys) ++ drop i ys

  part_get : (ys : List Y) (i : ℕ) (e : Y) → get_or (part i ys) i e ≡ get_or ys i e
  part_get [] zero e = refl
  part_get [] (suc i) e = refl
  part_get (y ∷ ys) zero e = refl
  part_get (y ∷ ys) (suc i) e = part_get ys i e

  part_suc : (ys : List Y) (i : ℕ) (e : Y) → i < length ys → set (part i ys) i (f (get_or ys i e)) ≡ part (suc i) ys
  part_suc [] i e lt = absurd (omega arith)
  part_suc (y ∷ ys) zero e lt = refl
  part_suc (y ∷ ys) (suc i) e lt = ap (λ (l : List Y). f y ∷ l) (part_suc ys i e (omega arith))

  part_set : (ys : List Y) (i : ℕ) (e : Y) → i < length ys → set (part i ys) i (f (get_or ys i e)) ≡ part (i + 1) ys
  part_set ys i e lt = part_suc ys i e lt ∙ ap (λ (n : ℕ). part n ys) (sym (add-one i))

-- structs that each stand for an item: the items of the first i are changed
module _ {X Y : Type 0} (view : X → Y) (f : Y → Y) (old new : List X) (i : ℕ) (items : map view new ≡ part f i (map view old)) where
  pub struct_seen : (d : X) → view (get_or new i d) ≡ get_or (map view old) i (view d)
  struct_seen d = sym (get_or-map view new i d) ∙ ap (λ (l : List Y). get_or l i (view d)) items ∙ part_get f (map view old) i (view d)

  pub struct_set : (d c : X) → i < length (map view old) → view c ≡ f (view (get_or new i d)) → map view (set new i c) ≡ part f (i + 1) (map view old)
  struct_set d c lt is =
      map-set view new i c
      ∙ (λ j. set (items j) i ((is ∙ ap f (struct_seen d)) j))
      ∙ part_set f (map view old) i (view d) lt

-- structs that stand for the changed items, in front of an array in place of the n in use
pub front_changed : {X Y : Type 0} (view : X → Y) (f : Y → Y) (n : ℕ) (old new rest : List X) → length old ≡ n → map view new ≡ map f (map view old) → map view (take n (new ++ rest)) ≡ map f (map view old)
front_changed view f n old new rest size items =
    let long : length new ≡ n = omega (arith, size, ap length items, length-map new view, length-map (map view old) f, length-map old view) in
    ap (map view) (take_at new rest n long) ∙ items

module _ {Y : Type 0} (g : Y → List Resend) where
  -- the rows of the first i
  abbrev pub rows_to : ℕ → List Y → List ℕ
  rows_to i ys = flat (joined (map g (take i ys)))

  pub record Listed (at : ℕ) (old : List ℕ) (ys : List Y) (i : ℕ) (new : List ℕ) (next : ℕ) : Type 0 where
    pub rows : new ≡ written_at at (rows_to i ys) old
    pub place : next ≡ at + length (rows_to i ys)

  rows_more : (ys : List Y) (i : ℕ) (e : Y) → i < length ys → rows_to (i + 1) ys ≡ rows_to i ys ++ flat (g (get_or ys i e))
  unfolding joined
  rows_more ys i e lt =
      let one : joined (g (get_or ys i e) ∷ []) ≡ g (get_or ys i e) = append-nil (g (get_or ys i e)) in
      rw (take_more ys i e lt, map-append, joined-append, flat-append) (ap (λ (l : List Resend). rows_to i ys ++ flat l) one)

  few_rows : (ys : List Y) (i : ℕ) → length (rows_to i ys) ≤ length (flat (joined (map g ys)))
  few_rows ys i = omega (arith, length-flat (joined (map g (take i ys))), length-flat (joined (map g ys)), joined-part g i ys)

  pub listed_start : (at : ℕ) (old : List ℕ) (ys : List Y) → Listed at old ys 0 old at
  unfolding flat joined
  listed_start at old ys = record { rows = written_none at old; place = omega arith }

  module _ (at : ℕ) (old : List ℕ) (ys : List Y) (i : ℕ) (new : List ℕ) (next : ℕ) (room : at + length (flat (joined (map g ys))) ≤ length old) (s : Listed at old ys i new next) where
    pub listed_room : (y e : Y) → i < length ys → y ≡ get_or ys i e → next + length (flat (g y)) ≤ length new
    listed_room y e lt is =
        let more = ap length (rows_more ys i e lt) ∙ length-append (rows_to i ys) (flat (g (get_or ys i e))) in
        let one : length (flat (g y)) ≡ length (flat (g (get_or ys i e))) = ap (λ x. length (flat (g x))) is in
        let long : length new ≡ length old = ap length s.rows ∙ length-written at (rows_to i ys) old (omega (arith, few_rows ys i)) in
        omega (arith, more, one, long, few_rows ys (i + 1), s.place)

    pub listed_step : (y e : Y) → i < length ys → y ≡ get_or ys i e → (l : List ℕ) (k : ℕ) → l ≡ written_at next (flat (g y)) new → k ≡ next + length (flat (g y))
        → Listed at old ys (i + 1) l k
    listed_step y e lt is l k wrote to =
        let one : flat (g y) ≡ flat (g (get_or ys i e)) = ap (λ x. flat (g x)) is in
        let all = rows_more ys i e lt in
        record {
          rows =
              wrote
              ∙ (λ j. written_at (s.place j) (one j) (s.rows j))
              ∙ written_after at (rows_to i ys) (flat (g (get_or ys i e))) old (omega arith)
              ∙ ap (λ (w : List ℕ). written_at at w old) (sym all);
          place = omega (arith, to, s.place, ap length one, ap length all, length-append (rows_to i ys) (flat (g (get_or ys i e))));
        }

  -- ---- counting

  pub counted_step : (ys : List Y) (i n m : ℕ) (y e : Y) → i < length ys → y ≡ get_or ys i e → n + length (joined (map g (drop i ys))) ≡ m → n + length (g y) + length (joined (map g (drop (i + 1) ys))) ≡ m
  unfolding joined
  counted_step ys i n m y e lt is h =
      let one : length (g y) ≡ length (g (get_or ys i e)) = ap (λ x. length (g x)) is in
      let more : length (joined (map g (drop i ys))) ≡ length (g (get_or ys i e)) + length (joined (map g (drop (i + 1) ys))) =
      ap (λ (l : List Y). length (joined (map g l))) (drop_here ys i e lt) ∙ length-append (g (get_or ys i e)) (joined (map g (drop (i + 1) ys))) in
      omega (arith, one, more, h)

  pub counted_end : (ys : List Y) (i n m : ℕ) → length ys ≤ i → n + length (joined (map g (drop i ys))) ≡ m → n ≡ m
  unfolding joined
  counted_end ys i n m le h = omega (arith, h, ap (λ (l : List Y). length (joined (map g l))) (drop_of_length-le ys {i = i} le))
