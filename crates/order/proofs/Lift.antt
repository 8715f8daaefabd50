-- Arrivals one after the other, oldest first, and bundles already handed out. Assumes nothing.
use mathlib.Core.Path.{◌≡◌, refl, ap, ◌∙◌}
use mathlib.Core.Bool.{Bool, true, false, cond}
use mathlib.Core.List.{List, [], ◌∷◌, ◌++◌, map, append_assoc, reverse, reverse_aux}
use Prim.Native.Nat.{ℕ}
use lib.Dec.{eqb}
use Rattle.std.specs.declared.cmp.Ordering.{Ordering}
use Rattle.std.specs.declared.cmp.Ordering.TheVariants.{Less, Equal, Greater}
use Rattle.seq.specs.Num.{add, cmp}
use Rattle.packet.specs.declared.Packet.{Packet}
use Rattle.packet.specs.Data.{Range}
use Rattle.model.specs.Reorder.{Reliable, fresh, move, place, reorder, regroup, arrive}
use Rattle.order.specs.Sent.{Arrival, sent_as, received, Near}
use Rattle.order.specs.InOrder.{HasOrdered}
use Rattle.order.proofs.Order.{ordered}

-- several arrivals, oldest first
unfoldable pub feed : Reliable → List Packet → Reliable
feed c [] = c
feed c (p ∷ ps) = feed (arrive c p) ps

pub feed_append : (c : Reliable) (ps qs : List Packet) → feed c (ps ++ qs) ≡ feed (feed c ps) qs
unfolding feed
feed_append c [] qs = refl
feed_append c (p ∷ ps) qs = feed_append (arrive c p) ps qs

feed_received : (s : ℕ → Range) (h g : List Arrival) → feed fresh (map (sent_as s) (reverse_aux h g)) ≡ feed (received s h) (map (sent_as s) g)
unfolding feed received
feed_received s [] g = refl
feed_received s (a ∷ h) g = feed_received s h (a ∷ g)

pub received_feed : (s : ℕ → Range) (h : List Arrival) → feed fresh (map (sent_as s) (reverse h)) ≡ received s h
unfolding feed
received_feed s h = feed_received s h []

-- an earlier moment of a history whose arrivals were near
pub near_earlier : (g h : List Arrival) → Near (g ++ h) → Near h
near_earlier [] h n = n
near_earlier (a ∷ g) h n = near_earlier g h n.0

-- ---- bundles already handed out stand in front of those that wait, and no arrival looks at them

abbrev pub handed : List (List ℕ) → Reliable → Reliable
handed bs c = record { expected = c.expected; buffer = c.buffer; queue = c.queue; bundles = bs ++ c.bundles }

handed_move : (bs : List (List ℕ)) (e : ℕ) (b q : List Packet) (w : List (List ℕ)) → move e b q (bs ++ w) ≡ handed bs (move e b q w)
unfolding move
handed_move bs e [] q w = refl
handed_move bs e (p ∷ b) q w = at (eqb p.number e) (handed_move bs (add e 1) b (q ++ (p ∷ [])) w)
  where
    at : (t : Bool) → move (add e 1) b (q ++ (p ∷ [])) (bs ++ w) ≡ handed bs (move (add e 1) b (q ++ (p ∷ [])) w)
        → cond t (move (add e 1) b (q ++ (p ∷ [])) (bs ++ w)) (record { expected = e; buffer = p ∷ b; queue = q; bundles = bs ++ w })
        ≡ handed bs (cond t (move (add e 1) b (q ++ (p ∷ [])) w) (record { expected = e; buffer = p ∷ b; queue = q; bundles = w }))
    at true ih = ih
    at false ih = refl

handed_place : (bs : List (List ℕ)) (o : Ordering) (c : Reliable) (p : Packet) → place o (handed bs c) p ≡ handed bs (place o c p)
handed_place bs Less c p = refl
handed_place bs Equal c p = handed_move bs (add c.expected 1) c.buffer (c.queue ++ (p ∷ [])) c.bundles
handed_place bs Greater c p = refl

handed_arrive : (bs : List (List ℕ)) (c : Reliable) (p : Packet) → arrive (handed bs c) p ≡ handed bs (arrive c p)
unfolding arrive reorder regroup
handed_arrive bs c p = rw (handed_place bs (cmp p.number c.expected) c p, append_assoc)

pub handed_feed : (bs : List (List ℕ)) (c : Reliable) (ps : List Packet) → feed (handed bs c) ps ≡ handed bs (feed c ps)
unfolding feed
handed_feed bs c [] = refl
handed_feed bs c (p ∷ ps) = rw (handed_arrive bs c p) (handed_feed bs (arrive c p) ps)

pub handed_append : (bs ds : List (List ℕ)) (c : Reliable) → handed (bs ++ ds) c ≡ handed bs (handed ds c)
handed_append bs ds c = rw append_assoc

-- ---- a channel that was new

pub has_ordered : (ps : List Packet) (c : Reliable) → c ≡ feed fresh ps → HasOrdered ps c
has_ordered ps c e s h same near =
    let whole : c ≡ received s h = e ∙ ap (feed fresh) same ∙ received_feed s h in
    let o = ordered s h near in
    record { bundles = ap (λ (r : Reliable). r.bundles) whole ∙ o.0; expected = ap (λ (r : Reliable). r.expected) whole ∙ o.1 }
