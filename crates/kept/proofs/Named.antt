-- A channel named by a key, and what both kinds have: found or made, and put back, the table stays well formed. Assumes nothing.
use mathlib.Core.Path.{◌≡◌, refl}
use mathlib.Core.Bool.{Bool, true, false}
use mathlib.Core.List.{List, ◌++◌}
use Prim.Native.Nat.{ℕ}
use lib.ListN.{length}
use Rattle.list.proofs.Tests.{or_left}
use Rattle.seq.specs.Num.{legal, add}
use Rattle.packet.specs.declared.Key.{Key}
use Rattle.packet.specs.Data.{is_set, key_index, key_made}
use Rattle.model.specs.State.{OffData, Protocol, off_with, on_with, with_out, with_source}
use Rattle.model.specs.Room.{off_room, on_room}
use Rattle.model.specs.Rust.{first_version, key_on, key_off, made_if, made, has_if, has_key, data_if, data_of, put_data_if, put_data, sent_entries, allocates, source_of, advanced, advanced_if, joined_out, prepared}
use Rattle.model.specs.Port.{has_place}
use Rattle.model.proofs.Room.{DataFits, fits_data_facts, fits-on_facts}
use Rattle.model.proofs.Wellformed.{DataGood, Good, Well}
use Rattle.kept.proofs.Reorder.{add-legal}
use Rattle.kept.proofs.Data.{sent_good}
use Rattle.kept.proofs.Room.{off-fits_with, on-fits_with}
use Rattle.kept.proofs.Channel.{OnGood, on_with_lem, on-source, key_key}
use Rattle.kept.proofs.Table.{good-numbers, good_put_on, good_put_off, on-at-good, off-at-good, on-at-address, on-at-index, off-at-address, on-at-fits, off-at-fits, well_put_on, well_put_off}

module _ (t : ℕ) (k : Key) (valid : key_made k ≡ true) where
  key_on_lem : (p : Protocol) → Good t p → is_set k.on ≡ true → OnGood t (key_on k p)
  key_on_lem p g o = on-at-good t p g k.address (key_index k) (first_version k) (key_key k valid o)

  -- ---- find or create

  well_made_if : (b : Bool) → is_set k.on ≡ b → (p : Protocol) → Well t p → has_place b k.address (key_index k) p ≡ true → Well t (made_if b k p)
  well_made_if true o p w h =
      well_put_on t k.address (key_index k) p w h (key_on k p) (on-at-address k.address (key_index k) (first_version k) p) (on-at-index k.address (key_index k) (first_version k) p) (key_on_lem p w.good o)
      (on-at-fits p w.fits k.address (key_index k) (first_version k))
  well_made_if false o p w h =
      well_put_off t k.address (key_index k) p w h (key_off k p) (off-at-address k.address p) (off-at-good t p w.good k.address) (off-at-fits p w.fits k.address)

  pub well_made_lem : (p : Protocol) → Well t p → has_place (is_set k.on) k.address (key_index k) p ≡ true → Well t (made k p)
  unfolding made
  well_made_lem p w h = well_made_if (is_set k.on) refl p w h

  -- ---- what both kinds have

  data_if_good : (b : Bool) → is_set k.on ≡ b → (p : Protocol) → Good t p → DataGood t (data_if b k p)
  data_if_good true o p g = (key_on_lem p g o).common
  data_if_good false o p g = off-at-good t p g k.address

  pub data_of_good : (p : Protocol) → Good t p → DataGood t (data_of k p)
  data_of_good p g = data_if_good (is_set k.on) refl p g

  data_if_fits : (b : Bool) (p : Protocol) → Well t p → DataFits (data_if b k p)
  data_if_fits true p w = (fits-on_facts (key_on k p) (on-at-fits p w.fits k.address (key_index k) (first_version k))).common
  data_if_fits false p w = fits_data_facts (key_off k p).off (off-at-fits p w.fits k.address)

  pub data_of_fits : (p : Protocol) → Well t p → DataFits (data_of k p)
  data_of_fits p w = data_if_fits (is_set k.on) p w

  good_put_if : (b : Bool) → is_set k.on ≡ b → (p : Protocol) (d : OffData) → Good t p → DataGood t d → Good t (put_data_if b k d p)
  good_put_if true o p d g h = good_put_on t p g (on_with d (key_on k p)) (on_with_lem t d (key_on k p) h (key_on_lem p g o))
  good_put_if false o p d g h = good_put_off t p g (off_with d (key_off k p)) h

  good_put : (p : Protocol) (d : OffData) → Good t p → DataGood t d → Good t (put_data k d p)
  good_put p d g h = good_put_if (is_set k.on) refl p d g h

  well_put_if : (b : Bool) → is_set k.on ≡ b → (p : Protocol) (d : OffData) → Well t p → has_if b k p ≡ true → DataGood t d → DataFits d → Well t (put_data_if b k d p)
  well_put_if true o p d w h g f =
      well_put_on t k.address (key_index k) p w (or_left (on_room p) h) (on_with d (key_on k p)) (on-at-address k.address (key_index k) (first_version k) p) (on-at-index k.address (key_index k) (first_version k) p)
      (on_with_lem t d (key_on k p) g (key_on_lem p w.good o)) (on-fits_with d (key_on k p) f (on-at-fits p w.fits k.address (key_index k) (first_version k)))
  well_put_if false o p d w h g f = well_put_off t k.address (key_index k) p w (or_left (off_room p) h) (off_with d (key_off k p)) (off-at-address k.address p) g (off-fits_with d (key_off k p) f)

  pub well_put : (p : Protocol) (d : OffData) → Well t p → has_key k p ≡ true → DataGood t d → DataFits d → Well t (put_data k d p)
  well_put p d w h g f = well_put_if (is_set k.on) refl p d w h g f

  -- ---- send

  source-legal : (on reliable : Bool) → is_set k.on ≡ on → (p : Protocol) → Good t p → legal (source_of on reliable k p) ≡ true
  source-legal true true o p g = (key_on_lem p g o).source
  source-legal true false o p g = g.source
  source-legal false reliable o p g = g.source

  advanced-good : (on reliable : Bool) → is_set k.on ≡ on → (n : ℕ) (p : Protocol) → Good t p → Good t (advanced on reliable n k p)
  advanced-good true true o n p g = good_put_on t p g (with_source (add (key_on k p).source n) (key_on k p)) (on-source t (add (key_on k p).source n) (key_on k p) (add-legal (key_on k p).source n) (key_on_lem p g o))
  advanced-good true false o n p g = good-numbers t (add p.source n) p.prefix p.offset p (add-legal p.source n) g
  advanced-good false reliable o n p g = good-numbers t (add p.source n) p.prefix p.offset p (add-legal p.source n) g

  advanced_if_lem : (b reliable : Bool) (hs : List ℕ) (p : Protocol) → Good t p → Good t (advanced_if b reliable hs k p)
  advanced_if_lem true reliable hs p g = advanced-good (is_set k.on) reliable refl (length hs) p g
  advanced_if_lem false reliable hs p g = g

  joined-out : (reliable : Bool) (n : ℕ) (hs : List ℕ) (p : Protocol) → legal n ≡ true → Good t p → Good t (joined_out reliable (sent_entries t n hs) k p)
  joined-out true n hs p l g = good_put p (with_out ((data_of k p).out ++ sent_entries t n hs) (data_of k p)) g (sent_good t n hs (data_of k p) l (data_of_good p g))
  joined-out false n hs p l g = g

  pub prepared-good : (reliable : Bool) (hs : List ℕ) (p : Protocol) → Good t p → Good t (prepared t k reliable hs p)
  unfolding prepared
  prepared-good reliable hs p g =
      joined-out reliable (source_of (is_set k.on) reliable k p) hs (advanced_if (allocates reliable hs) reliable hs k p) (source-legal (is_set k.on) reliable refl p g) (advanced_if_lem (allocates reliable hs) reliable hs p g)
