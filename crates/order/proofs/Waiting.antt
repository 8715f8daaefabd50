-- What waits is what "next-bundle calls, repeated now, would hand out". Assumes nothing.
use mathlib.Core.Path.{◌≡◌, refl, ap, ◌∙◌}
use mathlib.Core.Bool.{Bool, true, false}
use mathlib.Core.List.{List, [], ◌∷◌, ◌++◌}
use Prim.Native.Nat.{ℕ}
use lib.Dec.{eqb}
use lib.ListN.{length, replicate}
use borrow.Author.Tests.{eqb-true}
use Rattle.list.specs.Pad.{all_b}
use Rattle.list.specs.Find.{has}
use Rattle.list.proofs.Pad.{never, and_left, and_right}
use Rattle.list.proofs.Find.{find_absent}
use Rattle.packet.specs.declared.Key.{Key}
use Rattle.packet.specs.Data.{is_set, key_index, key_made}
use Rattle.model.specs.State.{OnChannel, State, new_on, is_on}
use Rattle.model.specs.Reorder.{Reliable}
use Rattle.model.specs.Rust as rust
use Rattle.model.specs.Calls.{next_bundle}
use Rattle.model.specs.Port.{next_bundle_s, reply}
use Rattle.order.specs.OnKey.{same_key, names, handed_by, handed_out, waiting}
pub use Rattle.order.specs.Ever.{taking}
use Rattle.order.proofs.Lift.{feed}
use Rattle.order.proofs.Channels.{seen, seen_version}
use Rattle.order.proofs.Calls.{call_law}

module _ (a i : ℕ) (k : Key) (l : List ℕ) (m : key_made k ≡ true) (n : names a i k ≡ true) where
  on : is_set k.on ≡ true
  on = and_left (is_set k.on) (same_key k.address (key_index k) a i) n

  same : same_key k.address (key_index k) a i ≡ true
  same = and_right (is_set k.on) (same_key k.address (key_index k) a i) n

  address : k.address ≡ a
  address = eqb-true _ _ (and_left (eqb k.address a) (eqb (key_index k) i) same)

  index : key_index k ≡ i
  index = eqb-true _ _ (and_right (eqb k.address a) (eqb (key_index k) i) same)

  -- a channel where something waits is there
  here : (s : State) (b : List ℕ) (bs : List (List ℕ)) → waiting a i s ≡ b ∷ bs → rust.has_key k s.protocol ≡ true
  here s b bs e = rw (on, address, index) (at (has (is_on a i) s.protocol.ons) refl)
    where
      at : (t : Bool) → has (is_on a i) s.protocol.ons ≡ t → t ≡ true
      at true q = refl
      at false q =
          let z : waiting a i s ≡ [] = ap (λ (c : OnChannel). c.off.bundles) (find_absent (is_on a i) (new_on a i 0) s.protocol.ons q) in
          never (cc)

  front : (s : State) → (rust.data_of k s.protocol).bundles ≡ waiting a i s
  front s =
      rw on (ap (λ (c : Reliable). c.bundles) (seen_version k.address (key_index k) (rust.first_version k) s.protocol ∙ ap (λ (x : ℕ). seen x (key_index k) s.protocol) address ∙ ap (λ (x : ℕ). seen a x s.protocol) index))

  -- the first that waits is handed out
  hands : (s : State) (b : List ℕ) (bs : List (List ℕ)) → waiting a i s ≡ b ∷ bs → taking l b ≡ true → handed_by a i (next_bundle k l) s ≡ b ∷ []
  unfolding reply next_bundle_s
  hands s b bs e f = rw (n, m, here s b bs e, front s, e, f)

  -- and the others wait on
  leaves : (s : State) (b : List ℕ) (bs : List (List ℕ)) → waiting a i s ≡ b ∷ bs → taking l b ≡ true → waiting a i (reply (next_bundle k l) s).state ≡ bs
  unfolding feed all_b
  leaves s b bs e f =
      let w : handed_by a i (next_bundle k l) s ++ waiting a i (reply (next_bundle k l) s).state ≡ waiting a i s = ap (λ (c : Reliable). c.bundles) (call_law a i (next_bundle k l) s refl) in
      let v : b ∷ waiting a i (reply (next_bundle k l) s).state ≡ b ∷ bs = (rw (hands s b bs e f) at w) ∙ e in
      cc

  all_handed : (w : List (List ℕ)) (s : State) → waiting a i s ≡ w → all_b (taking l) w ≡ true → handed_out a i (replicate (length w) (next_bundle k l)) s ≡ w
  unfolding handed_out all_b
  all_handed [] s e f = refl
  all_handed (b ∷ bs) s e f =
      let t : taking l b ≡ true = and_left (taking l b) (all_b (taking l) bs) f in
      rw (hands s b bs e t, all_handed bs (reply (next_bundle k l) s).state (leaves s b bs e t) (and_right (taking l b) (all_b (taking l) bs) f))

-- as many next-bundle calls on the channel as bundles wait, with a lent list that takes each, hand out just these, in their order
pub repeated_now : (a i : ℕ) (k : Key) (l : List ℕ) (s : State) → key_made k ≡ true → names a i k ≡ true → all_b (taking l) (waiting a i s) ≡ true
    → handed_out a i (replicate (length (waiting a i s)) (next_bundle k l)) s ≡ waiting a i s
repeated_now a i k l s m n f = all_handed a i k l m n (waiting a i s) s refl f
