-- The one table of a state within its limits: it is in its form, and stands for that state.
use Rattle.std.proofs.Common.{◌≡◌, ℕ, ◌≤◌, ◌<◌, Bool, true, false, cond, List, [], ◌∷◌, length, take, map, refl, ap, sym, arith, ◌∙◌}
use native.Mathlib.Nat.{le_of_suc-le-suc, not-suc-le-zero}
use Prim.Native.Nat.{zero, suc}
use lib.ListN.{length-map}
use Rattle.std.specs.List.{All}
use Rattle.list.specs.Pad.{pad, all_b}
use Rattle.list.specs.Lists.{IsList}
use Rattle.list.proofs.Pad.{take-pad, and_left, and_right}
use Rattle.queues.proofs.Back.{padded}
use Rattle.packet.specs.Data.{is_set}
use Rattle.model.specs.State as model
use Rattle.model.specs.Room.{fits_off, fits_on, fits}
use Rattle.model.specs.Wellformed.{distinct, good, well_formed}
use Rattle.model.proofs.Wellformed.{well_facts}
use Rattle.chan.specs.Channels.{off_of, IsOffChannel, repr_off, no_off_channel, on_of, IsOnChannel, repr_on, no_on_channel}
use Rattle.chan.proofs.Back.{off-back, off-form, on-back, on-form}
use Rattle.tab.specs.declared.Table.{Table}
use Rattle.tab.specs.Tables.{state_of, IsTable, repr}
use Rattle.tab.specs.Test.{IsWellFormed}

-- ---- an array of channels

module _ {X Y : Type 0} (P : X → Type 0) (view : X → Y) (make : Y → X) (fits : Y → Bool) (back : (y : Y) → fits y ≡ true → view (make y) ≡ y) (form : (y : Y) → fits y ≡ true → P (make y)) where
  all-back : (ys : List Y) → all_b fits ys ≡ true → map view (map make ys) ≡ ys
  unfolding all_b
  all-back [] h = refl
  all-back (y ∷ ys) h =
      let a = back y (and_left (fits y) (all_b fits ys) h) in
      let b = all-back ys (and_right (fits y) (all_b fits ys) h) in
      λ i. a i ∷ b i

  all-form : (ys : List Y) → all_b fits ys ≡ true → All P (map make ys)
  unfolding all_b
  all-form [] h k d lt = absurd (not-suc-le-zero lt)
  all-form (y ∷ ys) h zero d lt = form y (and_left (fits y) (all_b fits ys) h)
  all-form (y ∷ ys) h (suc k) d lt = all-form ys (and_right (fits y) (all_b fits ys) h) k d (le_of_suc-le-suc lt)

  module _ (n : ℕ) (blank : X) (ys : List Y) (few : length ys ≤ n) where
    many : length (map make ys) ≡ length ys
    many = length-map ys make

    front : take (length ys) (pad n blank (map make ys)) ≡ map make ys
    front = ap (λ (m : ℕ). take m (pad n blank (map make ys))) (sym many) ∙ take-pad n blank (map make ys) (omega (arith, many))

    array-list : IsList n blank (length ys) (pad n blank (map make ys))
    array-list =
        let l : IsList n blank (length (map make ys)) (pad n blank (map make ys)) = padded n blank (map make ys) (omega (arith, many)) in
        rw (← many) l

    array-form : all_b fits ys ≡ true → All P (take (length ys) (pad n blank (map make ys)))
    array-form h = rw front (all-form ys h)

    array-back : all_b fits ys ≡ true → map view (take (length ys) (pad n blank (map make ys))) ≡ ys
    array-back h = ap (λ (r : List X). map view r) front ∙ all-back ys h

-- ---- the table

flag_back : (f : Bool) → is_set (cond f 1 0) ≡ f
flag_back true = refl
flag_back false = refl

flag_small : (f : Bool) → cond f 1 0 ≤ 1
flag_small true = omega arith
flag_small false = omega arith

module _ (s : model.State) (few_offs : length s.protocol.offs ≤ 4) (few_ons : length s.protocol.ons ≤ 8) (offs : all_b fits_off s.protocol.offs ≡ true) (ons : all_b fits_on s.protocol.ons ≡ true) where
  pub table-back : state_of (repr s) ≡ s
  unfolding state_of repr
  table-back =
      let p = array-back IsOffChannel off_of repr_off fits_off off-back off-form 4 no_off_channel s.protocol.offs few_offs offs in
      let q = array-back IsOnChannel on_of repr_on fits_on on-back on-form 8 no_on_channel s.protocol.ons few_ons ons in
      let b = flag_back s.protocol.forwarding in
      λ i. record {
        latest = s.latest;
        protocol =
            record {
              offs = p i;
              ons = q i;
              source = s.protocol.source;
              prefix = s.protocol.prefix;
              offset = s.protocol.offset;
              forwarding = b i;
            };
      }

  pub table-form : IsTable (repr s)
  unfolding repr
  table-form =
      record {
        forwarding = flag_small s.protocol.forwarding;
        offs = array-list IsOffChannel off_of repr_off fits_off off-back off-form 4 no_off_channel s.protocol.offs few_offs;
        each_off = array-form IsOffChannel off_of repr_off fits_off off-back off-form 4 no_off_channel s.protocol.offs few_offs offs;
        ons = array-list IsOnChannel on_of repr_on fits_on on-back on-form 8 no_on_channel s.protocol.ons few_ons;
        each_on = array-form IsOnChannel on_of repr_on fits_on on-back on-form 8 no_on_channel s.protocol.ons few_ons ons;
      }

-- ---- of a well-formed state

module _ (s : model.State) (w : well_formed s ≡ true) where
  pub well-back : state_of (repr s) ≡ s
  well-back = let f = (well_facts s w).fits in table-back s f.offs f.ons f.each_off f.each_on

  pub well-form : IsWellFormed (repr s)
  well-form =
      let f = (well_facts s w).fits in
      record { form = table-form s f.offs f.ons f.each_off f.each_on; meets = ap well_formed well-back ∙ w }

-- a new table
pub new-wf : (f : Bool) → IsWellFormed (repr (model.new f))
unfolding well_formed fits good all_b distinct
new-wf f = well-form (model.new f) refl
