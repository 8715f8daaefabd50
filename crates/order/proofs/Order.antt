-- Demand 3 for one channel: the main invariant, kept by every arrival, and the ordering theorem. Assumes nothing.
use mathlib.Core.Path.{◌≡◌, refl, sym, ◌∙◌}
use Rattle.std.proofs.lemmas.Option.{none-some}
use Rattle.std.specs.declared.option.Option.{Option}
use Rattle.std.specs.declared.option.Option.TheVariants.{None, Some}
use mathlib.Core.List.{List, [], ◌∷◌, ◌++◌, map, append-nil, map-append}
use Prim.Native.Nat.{ℕ, zero, suc, ◌+◌, ◌-◌, ◌≤◌, ◌<◌}
use native.Mathlib.Omega.{arith}
use native.Mathlib.Decide.{dec_lt}
use Rattle.std.specs.declared.cmp.Ordering.TheVariants.{Less, Equal, Greater}
use Rattle.seq.specs.Num.{wrap, cmp}
use Rattle.seq.specs.NumLaws.{cmp-same, cmp_less, cmp_greater}
use Rattle.packet.specs.declared.Packet.{Packet}
use Rattle.packet.specs.Data.{Range}
use Rattle.model.specs.Group.{group_n, group}
use Rattle.model.specs.Reorder.{Reliable, fresh, insert_buffered, move, reorder, regroup, arrive}
use Rattle.order.specs.Sent.{Arrival, sent_as, received, copy, above, missing, Near, firsts, sent_before}
use Rattle.order.proofs.Stable.{stable}
use Rattle.order.proofs.Copies.{copy_old, copy-new, copy_other, Gap, gap_unique, missing_gap}
use Rattle.model.proofs.Search.{Each, insert_new, insert_again}
use Rattle.order.proofs.Buffer.{sent_as-number, firsts_cong, firsts_split, firsts-none, firsts_some, firsts-each, Moved, moves, move-one}

-- ---- one arrival, by the answer of the comparison

reorder_less : (c : Reliable) (p : Packet) → cmp p.number c.expected ≡ Less → reorder c p ≡ c
unfolding reorder
reorder_less c p e = rw e

reorder_equal : (c : Reliable) (p : Packet) → cmp p.number c.expected ≡ Equal → p.number ≡ c.expected → reorder c p ≡ move c.expected (p ∷ c.buffer) c.queue c.bundles
unfolding reorder
reorder_equal c p e d = rw e (sym (move-one c.expected p c.buffer c.queue c.bundles d))

reorder_greater : (c : Reliable) (p : Packet) (b : List Packet) → cmp p.number c.expected ≡ Greater → insert_buffered p c.buffer ≡ b
    → reorder c p ≡ record { expected = c.expected; buffer = b; queue = c.queue; bundles = c.bundles }
unfolding reorder
reorder_greater c p b e d = rw (e, d)

-- ---- the invariant: f is the first copies, m the missing place, top past every arrival
pub record Inv (s : ℕ → Range) (top : ℕ) (f : ℕ → Option ℕ) (c : Reliable) (m : ℕ) : Type 0 where
  pub room : ℕ
  pub reach : m + room ≡ top
  pub end : f top ≡ None
  pub gap : Gap f m
  pub near : (q : ℕ) → (f q ≡ None → ⊥) → q < m + 0x800_0000
  pub is_expected : c.expected ≡ wrap m
  pub is_buffer : c.buffer ≡ map (sent_as s) (firsts f m room)
  pub is_grouped : group (map (sent_as s) (firsts f 0 m)) ≡ record { made = c.bundles; rest = c.queue }

-- what the reorder rule must leave
record Next (s : ℕ → Range) (top : ℕ) (f g : ℕ → Option ℕ) (c c' : Reliable) (m n : ℕ) : Type 0 where
  room : ℕ
  reach : n + room ≡ top
  end : g top ≡ None
  gap : Gap g n
  near : (q : ℕ) → (g q ≡ None → ⊥) → q < n + 0x800_0000
  added : List Packet
  sent : map (sent_as s) (firsts g 0 n) ≡ map (sent_as s) (firsts f 0 m) ++ added
  result : c' ≡ record { expected = wrap n; buffer = map (sent_as s) (firsts g n room); queue = c.queue ++ added; bundles = c.bundles }

-- then the grouping keeps the invariant
finish : (s : ℕ → Range) (top : ℕ) (f g : ℕ → Option ℕ) (c : Reliable) (p : Packet) (m n : ℕ) → Inv s top f c m → Next s top f g c (reorder c p) m n → Inv s top g (arrive c p) n
unfolding arrive regroup
finish s top f g c p m n i x = record {
  room = x.room;
  reach = x.reach;
  end = x.end;
  gap = x.gap;
  near = x.near;
  is_expected = rw x.result;
  is_buffer = rw x.result;
  is_grouped = rw (x.result, x.sent, stable (map (sent_as s) (firsts f 0 m)) x.added, i.is_grouped);
}

-- ---- the cases of one arrival

module _ (s : ℕ → Range) (top : ℕ) (h : List Arrival) (a : Arrival) (c : Reliable) where
  -- a repeat that the reorder rule drops
  same : (m x : ℕ) → copy h a.place ≡ Some x → Inv s top (copy h) c m → reorder c (sent_as s a) ≡ c → Inv s top (copy (a ∷ h)) (arrive c (sent_as s a)) m
  same m x o i e = rw (copy_old a h o) (finish s top (copy h) (copy h) c (sent_as s a) m m i (record {
    room = i.room;
    reach = i.reach;
    end = i.end;
    gap = i.gap;
    near = i.near;
    added = [];
    sent = rw append-nil;
    result = rw (append-nil, ← i.is_expected, ← i.is_buffer) e;
  }))

  -- first copies elsewhere stay
  other : (q : ℕ) → (a.place ≡ q → ⊥) → copy (a ∷ h) q ≡ copy h q
  other q d = copy_other a h q d

  -- what arrived stays near
  near_new : (m : ℕ) → Inv s top (copy h) c m → a.place < m + 0x800_0000 → (q : ℕ) → (copy (a ∷ h) q ≡ None → ⊥) → q < m + 0x800_0000
  near_new m i u q z = at (dec_lt q a.place) (dec_lt a.place q)
    where
      at : Dec (q < a.place) → Dec (a.place < q) → q < m + 0x800_0000
      at (yes l) _ = omega arith
      at (no l) (yes k) = i.near q (λ y. z (other q (λ d. omega arith) ∙ y))
      at (no l) (no k) = omega arith

  -- behind the missing place: dropped
  late : (m : ℕ) → Inv s top (copy h) c m → a.place < m → m < a.place + 0x800_0000 → Inv s top (copy (a ∷ h)) (arrive c (sent_as s a)) m
  late m i l u = at (copy h a.place) refl
    where
      at : (o : Option ℕ) → copy h a.place ≡ o → Inv s top (copy (a ∷ h)) (arrive c (sent_as s a)) m
      at None e = absurd (i.gap.full a.place l e)
      at (Some x) e = same m x e i (reorder_less c (sent_as s a) (rw (sent_as-number s a, i.is_expected) (cmp_less a.place m l u)))

  -- first copies at places up to this one, and after it, stay
  kept-below : (q n : ℕ) → q + n ≤ a.place → firsts (copy (a ∷ h)) q n ≡ firsts (copy h) q n
  kept-below q n l = firsts_cong (copy (a ∷ h)) (copy h) q n (λ r u v. other r (λ d. omega arith))

  kept_above : (n : ℕ) → firsts (copy (a ∷ h)) (suc a.place) n ≡ firsts (copy h) (suc a.place) n
  kept_above n = firsts_cong (copy (a ∷ h)) (copy h) (suc a.place) n (λ r u v. other r (λ d. omega arith))

  -- the missing place: it and its successors move
  fills_by : (i : Inv s top (copy h) c a.place) → a.place < top → (v : Moved s (copy (a ∷ h)) a.place i.room c.queue c.bundles) → Inv s top (copy (a ∷ h)) (arrive c (sent_as s a)) v.next
  fills_by i t v = finish s top (copy h) (copy (a ∷ h)) c (sent_as s a) a.place v.next i (record {
    room = v.left;
    reach = omega arith;
    end = other top (λ d. omega arith) ∙ i.end;
    gap = record { full = full; open' = v.open' };
    near = λ q z. let u : q < a.place + 0x800_0000 = near_new a.place i (omega arith) q z in omega arith;
    added = map (sent_as s) (firsts (copy (a ∷ h)) a.place v.done);
    sent = rw (firsts_split (copy (a ∷ h)) 0 a.place a.place v.done v.next (omega arith) (omega arith), kept-below 0 a.place (omega arith), map-append);
    result = reorder_equal c (sent_as s a) (rw (sent_as-number s a, i.is_expected) (cmp-same (wrap a.place))) (sent_as-number s a ∙ sym i.is_expected) ∙ rw (i.is_expected, i.is_buffer) (rw (front i.room (omega arith)) at v.result);
  })
    where
      full : (q : ℕ) → q < v.next → copy (a ∷ h) q ≡ None → ⊥
      full q l z = at (dec_lt q a.place)
        where
          at : Dec (q < a.place) → ⊥
          at (yes k) = i.gap.full q k (sym (other q (λ d. omega arith)) ∙ z)
          at (no k) = v.full q (omega arith) l z

      front : (r : ℕ) → 0 < r → map (sent_as s) (firsts (copy (a ∷ h)) a.place r) ≡ sent_as s a ∷ map (sent_as s) (firsts (copy h) a.place r)
      front zero l = absurd (omega arith)
      front (suc r) l = rw (firsts_some (copy (a ∷ h)) a.place r (copy-new a h i.gap.open'), firsts-none (copy h) a.place r i.gap.open', kept_above r)

  fills : Inv s top (copy h) c a.place → a.place < top → (n : ℕ) × Inv s top (copy (a ∷ h)) (arrive c (sent_as s a)) n
  fills i t =
      let v : Moved s (copy (a ∷ h)) a.place i.room c.queue c.bundles = moves s (copy (a ∷ h)) a.place i.room c.queue c.bundles (rw i.reach (other top (λ d. omega arith) ∙ i.end)) (near_new a.place i (omega arith)) in
      (v.next, fills_by i t v)

  -- past the missing place: the buffer's entries in front of it, and behind it
  module _ (m : ℕ) (i : Inv s top (copy h) c m) (l : m < a.place) (u : a.place < m + 0x800_0000) where
    greater : cmp (sent_as s a).number c.expected ≡ Greater
    greater = rw (sent_as-number s a, i.is_expected) (cmp_greater a.place m l u)

    smaller : (n : ℕ) → m + n ≡ a.place → Each (λ b. cmp (sent_as s a).number b.number ≡ Greater) (map (sent_as s) (firsts (copy h) m n))
    smaller n e = firsts-each s (λ b. cmp (sent_as s a).number b.number ≡ Greater) (copy h) m n (λ b v w z. rw (sent_as-number s a, sent_as-number s b) (cmp_greater a.place b.place (omega arith) (omega arith)))

    larger : (n : ℕ) → Each (λ b. cmp (sent_as s a).number b.number ≡ Less) (map (sent_as s) (firsts (copy h) (suc a.place) n))
    larger n = firsts-each s (λ b. cmp (sent_as s a).number b.number ≡ Less) (copy h) (suc a.place) n
        (λ b v w z. let y : b.place < m + 0x800_0000 = i.near b.place (λ o. none-some _ (sym o ∙ z)) in rw (sent_as-number s a, sent_as-number s b) (cmp_less a.place b.place (omega arith) (omega arith)))

    -- a repeat of a buffered packet
    ahead_again : (x n k : ℕ) → copy h a.place ≡ Some x → m + n ≡ a.place → n + suc k ≡ i.room → Inv s top (copy (a ∷ h)) (arrive c (sent_as s a)) m
    ahead_again x n k o e r = same m x o i (reorder_greater c (sent_as s a) c.buffer greater (rw whole (insert_again (sent_as s a) b xs ys same_number (larger k))))
      where
        b : Packet
        b = sent_as s (record { place = a.place; handle = x })

        xs : List Packet
        xs = map (sent_as s) (firsts (copy h) m n)

        ys : List Packet
        ys = map (sent_as s) (firsts (copy h) (suc a.place) k)

        same_number : cmp (sent_as s a).number b.number ≡ Equal
        same_number = rw (sent_as-number s a, sent_as-number s (record { place = a.place; handle = x })) (cmp-same (wrap a.place))

        whole : c.buffer ≡ xs ++ (b ∷ ys)
        whole = rw (i.is_buffer, firsts_split (copy h) m n a.place (suc k) i.room e r, firsts_some (copy h) a.place k o, map-append)

    -- the first copy of a packet past the missing one
    ahead-new : (n k : ℕ) → copy h a.place ≡ None → a.place < top → m + n ≡ a.place → n + suc k ≡ i.room → Inv s top (copy (a ∷ h)) (arrive c (sent_as s a)) m
    ahead-new n k o t e r = finish s top (copy h) (copy (a ∷ h)) c (sent_as s a) m m i (record {
      room = i.room;
      reach = i.reach;
      end = other top (λ d. omega arith) ∙ i.end;
      gap = record { full = λ q v z. i.gap.full q v (sym (other q (λ d. omega arith)) ∙ z); open' = other m (λ d. omega arith) ∙ i.gap.open' };
      near = near_new m i u;
      added = [];
      sent = rw (kept-below 0 m (omega arith), append-nil);
      result = reorder_greater c (sent_as s a) (map (sent_as s) (firsts (copy (a ∷ h)) m i.room)) greater (rw (whole, after) (insert_new (sent_as s a) xs ys (smaller n e) (larger k))) ∙ rw (append-nil, i.is_expected);
    })
      where
        xs : List Packet
        xs = map (sent_as s) (firsts (copy h) m n)

        ys : List Packet
        ys = map (sent_as s) (firsts (copy h) (suc a.place) k)

        whole : c.buffer ≡ xs ++ ys
        whole = rw (i.is_buffer, firsts_split (copy h) m n a.place (suc k) i.room e r, firsts-none (copy h) a.place k o, map-append)

        after : map (sent_as s) (firsts (copy (a ∷ h)) m i.room) ≡ xs ++ (sent_as s a ∷ ys)
        after = rw (firsts_split (copy (a ∷ h)) m n a.place (suc k) i.room e r, firsts_some (copy (a ∷ h)) a.place k (copy-new a h o), kept-below m n (omega arith), kept_above k, map-append)

    ahead : a.place < top → Inv s top (copy (a ∷ h)) (arrive c (sent_as s a)) m
    ahead t = at (copy h a.place) refl
      where
        at : (o : Option ℕ) → copy h a.place ≡ o → Inv s top (copy (a ∷ h)) (arrive c (sent_as s a)) m
        at None e = ahead-new (a.place - m) (top - suc a.place) e t (omega arith) (omega arith)
        at (Some x) e = ahead_again x (a.place - m) (top - suc a.place) e (omega arith) (omega arith)

  -- every near arrival keeps the invariant
  one : (m : ℕ) → Inv s top (copy h) c m → a.place < top → a.place < m + 0x800_0000 → m < a.place + 0x800_0000 → (n : ℕ) × Inv s top (copy (a ∷ h)) (arrive c (sent_as s a)) n
  one m i t u v = at (dec_lt a.place m) (dec_lt m a.place)
    where
      at : Dec (a.place < m) → Dec (m < a.place) → (n : ℕ) × Inv s top (copy (a ∷ h)) (arrive c (sent_as s a)) n
      at (yes l) _ = (m, late m i l v)
      at (no _) (yes l) = (m, ahead m i l u t)
      at (no l) (no k) = let e : m ≡ a.place = omega arith in fills (rw e at i) t

-- ---- every history

none_yet : (p n : ℕ) → firsts (copy []) p n ≡ []
unfolding copy firsts
none_yet p zero = refl
none_yet p (suc n) = none_yet (suc p) n

start : (s : ℕ → Range) (top : ℕ) → Inv s top (copy []) fresh 0
unfolding copy firsts group group_n
start s top = record {
  room = top;
  reach = omega arith;
  end = refl;
  gap = record { full = λ q l. absurd (omega arith); open' = refl };
  near = λ q z. absurd (z refl);
  is_expected = refl;
  is_buffer = rw none_yet;
  is_grouped = refl;
}

-- the invariant's place is the missing one
settle : (s : ℕ → Range) (top : ℕ) (h : List Arrival) (c : Reliable) → (n : ℕ) × Inv s top (copy h) c n → Inv s top (copy h) c (missing h)
settle s top h c x = let e : x.0 ≡ missing h = gap_unique (copy h) x.0 (missing h) x.1.gap (missing_gap h) in rw e at x.1

pub invariant : (s : ℕ → Range) (top : ℕ) (h : List Arrival) → above h ≤ top → Near h → Inv s top (copy h) (received s h) (missing h)
unfolding received above
invariant s top [] t w = settle s top [] fresh (0, start s top)
invariant s top (a ∷ h) t w =
    let ahead = w.1 in
    let behind = w.2 in
    settle s top (a ∷ h) (arrive (received s h) (sent_as s a)) (one s top h a (received s h) (missing h) (invariant s top h (omega arith) w.0) (omega arith) (omega arith) (omega arith))

-- Demand 3 for one channel. In any arrival order, repeats included, the bundles made so far are exactly those that the grouping
-- makes of all packets sent before the missing one, each taken once, by its first copy, in sending order.
pub ordered : (s : ℕ → Range) (h : List Arrival) → Near h → ((received s h).bundles ≡ (group (sent_before s h (missing h))).made) × ((received s h).expected ≡ wrap (missing h))
ordered s h w = let i : Inv s (above h) (copy h) (received s h) (missing h) = invariant s (above h) h (omega arith) w in (rw i.is_grouped, i.is_expected)
