-- An on-channel's reliable side stays well formed under any legal packet: "Distances of buffered numbers from expected strictly
-- increase within 1 to 2^27; the contiguous queue is consecutive and ends at expected - 1". Assumes nothing.
use mathlib.Core.Path.{◌≡◌, refl, ap}
use mathlib.Core.Bool.{Bool, true, false, cond, ◌&&◌}
use mathlib.Core.List.{List, [], ◌∷◌, ◌++◌}
use Prim.Native.Nat.{ℕ, suc, ◌+◌, ◌≤◌, ◌<◌}
use native.Mathlib.Omega.{arith}
use native.Mathlib.Decide.{dec_lt}
use lib.Dec.{ltb, leb, eqb}
use lib.ListN.{length, length-append}
use borrow.Author.Tests.{lt-ltb, le-ltb, le-leb, eq-eqb, ne_eqb, eqb-true, eqb-false, ltb-true, ltb-false, leb-true}
use Rattle.list.specs.Pad.{all_b}
use Rattle.list.proofs.Pad.{never, and_left, and_right}
use Rattle.list.proofs.Tests.{and_both, all_b_head, all_b_tail, all_b_snoc, all_b-behind, all_b_parts}
use Rattle.std.specs.declared.cmp.Ordering.{Ordering}
use Rattle.std.specs.declared.cmp.Ordering.TheVariants.{Less, Equal, Greater}
use Rattle.seq.specs.Num.{legal, add, dist, sub, answer, cmp}
use Rattle.seq.specs.NumLaws.{cmp-same}
use Rattle.packet.specs.declared.Packet.{Packet}
use Rattle.std.specs.declared.option.Option.{Option}
use Rattle.std.specs.declared.option.Option.TheVariants.{None, Some}
use Rattle.packet.specs.Data.{no_packet, is_set, is_flag}
use Rattle.model.specs.Acks.{search, inserted_at}
use Rattle.model.specs.Group.{group}
use Rattle.model.specs.Reorder.{Reliable, packet_number, insert_buffered, move, place, reorder, regroup}
use Rattle.model.specs.Wellformed.{range_good, packet_good, rising, consecutive}
use Rattle.model.proofs.Search.{Each, insert_new, insert_again}
use Rattle.kept.proofs.Grouping.{Ends, group-ends}

-- ---- numbers

pub below-legal : (n : ℕ) → n < 0x1000_0000 → legal n ≡ true
below-legal n h = le-leb n 0x0FFF_FFFF (omega arith)

pub legal-below : (n : ℕ) → legal n ≡ true → n < 0x1000_0000
legal-below n h = omega (arith, leb-true n 0x0FFF_FFFF h)

pub add-legal : (a n : ℕ) → legal (add a n) ≡ true
add-legal a n = below-legal (add a n) (omega arith)

-- comparing by the distance from a third number
module _ (e a b : ℕ) (he : e < 0x1000_0000) (ha : a < 0x1000_0000) (hb : b < 0x1000_0000) where
  dist_less : dist a e < dist b e → dist b e ≤ 0x800_0000 → 0 < dist a e → cmp a b ≡ Less
  unfolding cmp
  dist_less h k l =
      let n : a ≡ b → ⊥ = λ q. (let z : dist a e ≡ dist b e = ap (λ (x : ℕ). dist x e) q in omega arith) in
      let d : 0x800_0000 < dist a b = omega arith in
      rw (ne_eqb a b n, lt-ltb 0x800_0000 (dist a b) d)

  dist_greater : dist b e < dist a e → dist a e ≤ 0x800_0000 → cmp a b ≡ Greater
  unfolding cmp
  dist_greater h k =
      let d : dist a b ≤ 0x800_0000 = omega arith in
      let n : a ≡ b → ⊥ = λ q. (let z : dist a e ≡ dist b e = ap (λ (x : ℕ). dist x e) q in omega arith) in
      rw (ne_eqb a b n, le-ltb 0x800_0000 (dist a b) d)

  dist_same : dist a e ≡ dist b e → a ≡ b
  dist_same h = omega arith

-- what each answer says
greater_dist : (a e : ℕ) → a < 0x1000_0000 → e < 0x1000_0000 → cmp a e ≡ Greater → (0 < dist a e) × (dist a e ≤ 0x800_0000)
unfolding cmp
greater_dist a e ha he h = at (eqb a e) refl (ltb 0x800_0000 (dist a e)) refl h
  where
    at : (t : Bool) → eqb a e ≡ t → (u : Bool) → ltb 0x800_0000 (dist a e) ≡ u → answer t u ≡ Greater → (0 < dist a e) × (dist a e ≤ 0x800_0000)
    at true q u r z = never (cc)
    at false q true r z = never (cc)
    at false q false r z = let n : a ≡ e → ⊥ = eqb-false a e q in let l : dist a e ≤ 0x800_0000 = ltb-false _ _ r in (omega arith, l)

equal_same : (a b : ℕ) → cmp a b ≡ Equal → a ≡ b
unfolding cmp
equal_same a b h = at (eqb a b) refl (ltb 0x800_0000 (dist a b)) h
  where
    at : (t : Bool) → eqb a b ≡ t → (u : Bool) → answer t u ≡ Equal → a ≡ b
    at true q u z = eqb-true a b q
    at false q true z = never (cc)
    at false q false z = never (cc)

-- ---- the buffer

-- distances from e strictly increase, from k on and up to 2^27
abbrev Rising : ℕ → ℕ → List Packet → Type 0
Rising e k [] = Unit {0}
Rising e k (p ∷ b) = (k ≤ dist p.number e) × (dist p.number e ≤ 0x800_0000) × (p.number < 0x1000_0000) × Rising e (suc (dist p.number e)) b

packet-below : (p : Packet) → packet_good p ≡ true → p.number < 0x1000_0000
packet-below p h = legal-below p.number (and_left _ _ (and_left (legal p.number && is_flag p.ranged) (range_good (is_set p.ranged) p.first p.last) h))

rising-out : (e d : ℕ) (b : List Packet) → rising e d b ≡ true → all_b packet_good b ≡ true → Rising e (suc d) b
unfolding rising
rising-out e d [] h g = tt
rising-out e d (p ∷ b) h g =
    let l : (ltb d (dist p.number e) && leb (dist p.number e) 0x800_0000) ≡ true = and_left _ (rising e (dist p.number e) b) h in
    (ltb-true d (dist p.number e) (and_left _ (leb (dist p.number e) 0x800_0000) l), leb-true (dist p.number e) 0x800_0000 (and_right (ltb d (dist p.number e)) _ l), packet-below p (all_b_head packet_good p b g), rising-out e (dist p.number e) b (and_right (ltb d (dist p.number e) && leb (dist p.number e) 0x800_0000) _ h) (all_b_tail packet_good p b g))

rising_in : (e d : ℕ) (b : List Packet) → Rising e (suc d) b → rising e d b ≡ true
unfolding rising
rising_in e d [] r = refl
rising_in e d (p ∷ b) r = and_both (and_both (lt-ltb d (dist p.number e) r.0) (le-leb (dist p.number e) 0x800_0000 r.1)) (rising_in e (dist p.number e) b r.3)

rising_less : (e k a : ℕ) (b : List Packet) → e < 0x1000_0000 → a < 0x1000_0000 → 0 < dist a e → dist a e < k → Rising e k b → Each (λ q. cmp a q.number ≡ Less) b
rising_less e k a [] he ha l h r = tt
rising_less e k a (q ∷ b) he ha l h r = (dist_less e a q.number he ha r.2 (omega arith) r.1 l, rising_less e (suc (dist q.number e)) a b he ha l (omega arith) r.3)

-- where a packet goes
data Put (e k : ℕ) (p : Packet) (b : List Packet) : Type 0 where
  is_new : (xs ys : List Packet) → b ≡ xs ++ ys → Each (λ q. cmp p.number q.number ≡ Greater) xs → Each (λ q. cmp p.number q.number ≡ Less) ys → Rising e k (xs ++ (p ∷ ys)) → Put e k p b
  is_again : (q : Packet) (xs ys : List Packet) → b ≡ xs ++ (q ∷ ys) → cmp p.number q.number ≡ Equal → Each (λ q. cmp p.number q.number ≡ Less) ys → Put e k p b

module _ (e : ℕ) (p : Packet) (he : e < 0x1000_0000) (hp : p.number < 0x1000_0000) (low : 0 < dist p.number e) (high : dist p.number e ≤ 0x800_0000) where
  puts : (k : ℕ) (b : List Packet) → k ≤ dist p.number e → Rising e k b → Put e k p b
  puts k [] h r = is_new [] [] refl tt tt (h, high, hp, tt)
  puts k (q ∷ b) h r = at (dec_lt (dist p.number e) (dist q.number e)) (dec_lt (dist q.number e) (dist p.number e)) (λ l. puts (suc (dist q.number e)) b l r.3)
    where
      behind : dist q.number e < dist p.number e → Put e (suc (dist q.number e)) p b → Put e k p (q ∷ b)
      behind l (is_new xs ys w g s i) = is_new (q ∷ xs) ys (ap (λ (x : List Packet). q ∷ x) w) (dist_greater e p.number q.number he hp r.2 l high, g) s (r.0, r.1, r.2, i)
      behind l (is_again z xs ys w g s) = is_again z (q ∷ xs) ys (ap (λ (x : List Packet). q ∷ x) w) g s

      at : Dec (dist p.number e < dist q.number e) → Dec (dist q.number e < dist p.number e) → (dist q.number e < dist p.number e → Put e (suc (dist q.number e)) p b) → Put e k p (q ∷ b)
      at (yes l) _ ih = is_new [] (q ∷ b) refl tt (rising_less e (dist q.number e) p.number (q ∷ b) he hp low l (omega arith, r.1, r.2, r.3)) (h, high, hp, (l, r.1, r.2, r.3))
      at (no l) (yes u) ih = behind u (ih u)
      at (no l) (no u) ih =
          let z : p.number ≡ q.number = dist_same e p.number q.number he hp r.2 (omega arith) in
          is_again q [] b refl (rw z (cmp-same q.number)) (rising_less e (suc (dist q.number e)) p.number b he hp low (omega arith) r.3)

  rising_insert : (b : List Packet) → Rising e 1 b → Rising e 1 (insert_buffered p b)
  rising_insert b r = at (puts 1 b low r)
    where
      at : Put e 1 p b → Rising e 1 (insert_buffered p b)
      at (is_new xs ys w g l i) = rw (w, insert_new p xs ys g l) i
      at (is_again q xs ys w z l) = rw (w, insert_again p q xs ys z l) (rw w at r)

-- expected goes one on
shift : (e k : ℕ) (b : List Packet) → e < 0x1000_0000 → Rising e (suc k) b → Rising (add e 1) k b
shift e k [] he r = tt
shift e k (p ∷ b) he r =
    let z : suc (dist p.number (add e 1)) ≡ dist p.number e = dist-next p.number r.2 r.0 in
    (omega (arith, r.0), omega (arith, r.1), r.2, rw z (shift e (dist p.number e) b he r.3))
  where
    dist-next : (a : ℕ) → a < 0x1000_0000 → suc k ≤ dist a e → suc (dist a (add e 1)) ≡ dist a e
    dist-next a ha l = omega arith

-- ---- the contiguous queue: each stands as far before e as its place from the end

abbrev Behind : ℕ → List Packet → Type 0
Behind e [] = Unit {0}
Behind e (p ∷ q) = (p.number ≡ sub e (suc (length q))) × Behind e q

behind-out : (e : ℕ) (q : List Packet) → consecutive e q ≡ true → Behind e q
unfolding consecutive
behind-out e [] h = tt
behind-out e (p ∷ q) h = (eqb-true p.number (sub e (suc (length q))) (and_left _ (consecutive e q) h), behind-out e q (and_right (eqb p.number (sub e (suc (length q)))) _ h))

behind_in : (e : ℕ) (q : List Packet) → Behind e q → consecutive e q ≡ true
unfolding consecutive
behind_in e [] b = refl
behind_in e (p ∷ q) b = and_both (eq-eqb p.number (sub e (suc (length q))) b.0) (behind_in e q b.1)

-- no queue is so long that its places wrap
behind_snoc : (e : ℕ) (q : List Packet) (p : Packet) → e < 0x1000_0000 → length q < 0xFFFF_FFFF → Behind e q → p.number ≡ e → Behind (add e 1) (q ++ (p ∷ []))
behind_snoc e [] p he l b z = (omega arith, tt)
behind_snoc e (x ∷ q) p he l b z =
    let m : length (q ++ (p ∷ [])) ≡ suc (length q) = omega (arith, length-append q (p ∷ [])) in
    (omega (arith, b.0), behind_snoc e q p he (omega arith) b.1 z)

behind_end : (e : ℕ) (xs q : List Packet) → Behind e (xs ++ q) → Behind e q
behind_end e [] q b = b
behind_end e (x ∷ xs) q b = behind_end e xs q b.1

-- ---- the reliable side

pub record Side (c : Reliable) : Type 0 where
  pub legal : c.expected < 0x1000_0000
  pub buffered : all_b packet_good c.buffer ≡ true
  pub waiting : all_b packet_good c.queue ≡ true
  pub rising : Rising c.expected 1 c.buffer
  pub behind : Behind c.expected c.queue

side_move : (e : ℕ) (b q : List Packet) (bs : List (List ℕ)) → e < 0x1000_0000 → length b + length q < 0xFFFF_FFFF → all_b packet_good b ≡ true → all_b packet_good q ≡ true → Rising e 0 b → Behind e q → Side (move e b q bs)
unfolding move
side_move e [] q bs he l gb gq r h = record { legal = he; buffered = gb; waiting = gq; rising = tt; behind = h }
side_move e (p ∷ b) q bs he l gb gq r h = at (eqb p.number e) refl (λ z. side_move (add e 1) b (q ++ (p ∷ [])) bs (omega arith) (omega (arith, length-append q (p ∷ []))) (all_b_tail packet_good p b gb) (all_b_snoc packet_good q p gq (all_b_head packet_good p b gb)) (shift e 0 b he (up z)) (behind_snoc e q p he (omega arith) h z))
  where
    up : p.number ≡ e → Rising e 1 b
    up z = let y : dist p.number e ≡ 0 = omega arith in rw y at r.3

    at : (t : Bool) → eqb p.number e ≡ t → (p.number ≡ e → Side (move (add e 1) b (q ++ (p ∷ [])) bs)) → Side (cond t (move (add e 1) b (q ++ (p ∷ [])) bs) (record { expected = e; buffer = p ∷ b; queue = q; bundles = bs }))
    at true z ih = ih (eqb-true p.number e z)
    at false z ih =
        let y : p.number ≡ e → ⊥ = eqb-false p.number e z in
        let d : 1 ≤ dist p.number e = omega (arith, r.2) in
        record { legal = he; buffered = gb; waiting = gq; rising = (d, r.1, r.2, r.3); behind = h }

pub all_b-inserted : {A : Type 0} (f : A → Bool) (k : Option ℕ) (x : A) (l : List A) → f x ≡ true → all_b f l ≡ true → all_b f (inserted_at k x l) ≡ true
all_b-inserted f None x l h g = g
all_b-inserted f (Some k) x l h g = all_b_parts f k x l h g

good_insert : (p : Packet) (b : List Packet) → packet_good p ≡ true → all_b packet_good b ≡ true → all_b packet_good (insert_buffered p b) ≡ true
unfolding insert_buffered
good_insert p b h g = all_b-inserted packet_good (search packet_number no_packet p.number b (length b)) p b h g

-- the reorder rule keeps it
pub side_reorder : (c : Reliable) (p : Packet) → packet_good p ≡ true → length c.buffer + length c.queue < 0xFFFF_FFFE → Side c → Side (reorder c p)
unfolding reorder
side_reorder c p g l w = at (cmp p.number c.expected) refl
  where
    hp : p.number < 0x1000_0000
    hp = packet-below p g

    at : (o : Ordering) → cmp p.number c.expected ≡ o → Side (place o c p)
    at Less z = w
    at Equal z =
        side_move (add c.expected 1) c.buffer (c.queue ++ (p ∷ [])) c.bundles (omega arith) (omega (arith, length-append c.queue (p ∷ []))) w.buffered (all_b_snoc packet_good c.queue p w.waiting g) (shift c.expected 0 c.buffer w.legal w.rising)
        (behind_snoc c.expected c.queue p w.legal (omega arith) w.behind (equal_same p.number c.expected z))
    at Greater z =
        let d : (0 < dist p.number c.expected) × (dist p.number c.expected ≤ 0x800_0000) = greater_dist p.number c.expected hp w.legal z in
        record { legal = w.legal; buffered = good_insert p c.buffer g w.buffered; waiting = w.waiting; rising = rising_insert c.expected p w.legal hp d.0 d.1 c.buffer w.rising; behind = w.behind }

-- and so does the grouping
pub side_regroup : (c : Reliable) → Side c → Side (regroup c)
unfolding regroup
side_regroup c w =
    let x : Ends c.queue (group c.queue).rest = group-ends c.queue in
    record {
      legal = w.legal;
      buffered = w.buffered;
      waiting = all_b-behind packet_good x.front (group c.queue).rest (rw x.whole at w.waiting);
      rising = w.rising;
      behind = behind_end c.expected x.front (group c.queue).rest (rw x.whole at w.behind);
    }

-- ---- from and to the tests

pub side_out : (c : Reliable) → legal c.expected ≡ true → all_b packet_good c.buffer ≡ true → all_b packet_good c.queue ≡ true → rising c.expected 0 c.buffer ≡ true → consecutive c.expected c.queue ≡ true → Side c
side_out c l b q r k = record { legal = legal-below c.expected l; buffered = b; waiting = q; rising = rising-out c.expected 0 c.buffer r b; behind = behind-out c.expected c.queue k }

pub side_rising : (c : Reliable) → Side c → rising c.expected 0 c.buffer ≡ true
side_rising c w = rising_in c.expected 0 c.buffer w.rising

pub side_consecutive : (c : Reliable) → Side c → consecutive c.expected c.queue ≡ true
side_consecutive c w = behind_in c.expected c.queue w.behind
