-- Some packets have arrived, and one more.
use Rattle.std.proofs.Common.{◌≡◌, false, ℕ, ◌+◌, ◌≤◌, ◌<◌, List, [], ◌∷◌, ◌++◌, length, get_or, take, add-one, refl, ap, sym, subst, ◌∙◌}
use lib.Seq.{take-suc, take_all}
use Rattle.std.proofs.lemmas.List.{get_or_default}
use Rattle.packet.specs.declared.Packet.{Packet}
use Rattle.packet.specs.Data.{no_packet}
use Rattle.model.specs.Reorder.{Reliable, fresh, arrive}
use Rattle.model.specs.Record.{with_reliable}
use Rattle.model.specs.Room.{fits_on}
use Rattle.chan.specs.declared.OnChannel.{OnChannel}
use Rattle.chan.specs.Channels.{on_of}
use Rattle.chan.specs.Arriving.{reliable}
use Rattle.order.specs.InOrder.{HasOrdered}
use Rattle.order.proofs.Lift.{feed, feed_append, has_ordered}
use Rattle.arrivals.specs.Refused.{FrontOrdered}

pub fed_none : (c : Reliable) (ps : List Packet) → c ≡ feed c (take 0 ps)
unfolding feed
fed_none c ps = refl

feed_one : (c : Reliable) (p : Packet) → feed c (p ∷ []) ≡ arrive c p
unfolding feed
feed_one c p = refl

pub fed : (c n first : Reliable) (ps : List Packet) (i : ℕ) (d : Packet) → i < length ps → n ≡ arrive c (get_or ps i d) → c ≡ feed first (take i ps) → n ≡ feed first (take (i + 1) ps)
fed c n first ps i d lt is so_far =
    let p = get_or ps i d in
    is
    ∙ ap (λ (r : Reliable). arrive r p) so_far
    ∙ sym (feed_one (feed first (take i ps)) p)
    ∙ sym (feed_append first (take i ps) (p ∷ []))
    ∙ ap (feed first) (sym (take-suc ps i d lt))
    ∙ ap (λ (j : ℕ). feed first (take j ps)) (sym (add-one i))

module _ (c first : Reliable) (ps : List Packet) (i : ℕ) (new : first ≡ fresh) (so_far : c ≡ feed first (take i ps)) where
  front : HasOrdered (take i ps) c
  front = has_ordered (take i ps) c (so_far ∙ ap (λ (r : Reliable). feed r (take i ps)) new)

  pub fed_all : length ps ≤ i → HasOrdered ps c
  fed_all end = subst (λ (qs : List Packet). HasOrdered qs c) (take_all i ps end) front

-- the packet at place i was refused, and the channel is as it was
module _ (x was : OnChannel) (first : Reliable) (ps : List Packet) (i : ℕ) (d : Packet) (unchanged : x ≡ was) where
  pub fed_front : first ≡ fresh → reliable was ≡ feed first (take i ps) → i < length ps → fits_on (with_reliable (arrive (reliable was) (get_or ps i d)) (on_of was)) ≡ false → FrontOrdered ps (on_of x)
  fed_front new so_far lt full =
      record {
        n = i;
        before = lt;
        ordered = front (reliable x) first ps i new (ap reliable unchanged ∙ so_far);
        refused = (λ j. fits_on (with_reliable (arrive (reliable (unchanged j)) (get_or_default ps i no_packet d lt j)) (on_of (unchanged j)))) ∙ full;
      }
