-- A table is well formed: at a later time, and with one channel new. Assumes nothing.
use mathlib.Core.Path.{◌≡◌, refl, sym, ◌∙◌}
use mathlib.Core.Bool.{Bool, true, false, ◌&&◌, ◌||◌}
use Prim.Native.Nat.{ℕ, ◌≤◌}
use native.Mathlib.Omega.{arith}
use lib.Dec.{leb, eqb}
use lib.ListN.{length, length-map}
use borrow.Author.Tests.{leb-true, eqb-true, eq-eqb}
use Rattle.list.proofs.Pad.{never, and_left, and_right}
use Rattle.list.proofs.Find.{all_b_put, length_put_le, find_key}
use Rattle.list.proofs.Tests.{and_both, eqb_turn, all_b-none, all_b_weaken, all_b-find}
use Rattle.list.proofs.Maps.{all_b-map_so}
use Rattle.seq.specs.Num.{legal}
use Rattle.model.specs.State.{OffChannel, OnChannel, Protocol, new, new_off, new_on, is_off, is_on, has_off, has_on, off_at, on_at, put_off, put_on}
use Rattle.model.specs.Room.{fits_off, fits_on, fits}
use Rattle.model.specs.Rust.{resent_off, resent_on, resent_data, resent}
use Rattle.model.specs.Port.{has_place}
use Rattle.model.specs.Wellformed.{key_good, on_good, off_good, same_off, same_on, good}
use Rattle.model.proofs.Room.{fits_data_facts, fits-on_facts, Fits}
use Rattle.model.proofs.Wellformed.{DataGood, data_facts, data_test, Good, Well}
use Rattle.kept.proofs.Distinct.{eqb_alike, apart_none, apart_put, apart_map}
use Rattle.kept.proofs.Data.{data_new, data_later, resent-good}
use Rattle.kept.proofs.Room.{off-new-fits, on-new-fits, off-fits_with, on-fits_with, resent-fits}
use Rattle.kept.proofs.Channel.{OnGood, on_facts, on_test, on-later, on_with_lem, on-new}

-- ---- a later time, other numbers

pub good-later : (t u : ℕ) → t ≤ u → (p : Protocol) → Good t p → Good u p
good-later t u h p g =
    record {
      offs = all_b_weaken (off_good t) (off_good u) (λ c k. data_test u c.off (data_later t u h c.off (data_facts t c.off k))) p.offs g.offs;
      ons = all_b_weaken (on_good t) (on_good u) (λ c k. on_test u c (on-later t u h c (on_facts t c k))) p.ons g.ons;
      apart_offs = g.apart_offs;
      apart_ons = g.apart_ons;
      source = g.source;
    }

pub well_later : (t u : ℕ) → t ≤ u → (p : Protocol) → Well t p → Well u p
well_later t u h p w = record { fits = w.fits; good = good-later t u h p w.good }

pub good-numbers : (t n q o : ℕ) (p : Protocol) → legal n ≡ true → Good t p → Good t (record { offs = p.offs; ons = p.ons; source = n; prefix = q; offset = o; forwarding = p.forwarding })
good-numbers t n q o p h g = record { offs = g.offs; ons = g.ons; apart_offs = g.apart_offs; apart_ons = g.apart_ons; source = h }

pub fits-numbers : (n q o : ℕ) (p : Protocol) → Fits p → Fits (record { offs = p.offs; ons = p.ons; source = n; prefix = q; offset = o; forwarding = p.forwarding })
fits-numbers n q o p f = record { offs = f.offs; ons = f.ons; each_off = f.each_off; each_on = f.each_on }

pub well_numbers : (t q o : ℕ) (p : Protocol) → Well t p → Well t (record { offs = p.offs; ons = p.ons; source = p.source; prefix = q; offset = o; forwarding = p.forwarding })
well_numbers t q o p w = record { fits = fits-numbers p.source q o p w.fits; good = good-numbers t p.source q o p w.good.source w.good }

-- ---- a channel put in the place of its key

on_alike : (c d e : OnChannel) → same_on c d ≡ true → same_on c e ≡ same_on d e
on_alike c d e h =
    let a : c.address ≡ d.address = sym (eqb-true d.address c.address (and_left (eqb d.address c.address) (eqb d.index c.index) h)) in
    let b : c.index ≡ d.index = sym (eqb-true d.index c.index (and_right (eqb d.address c.address) (eqb d.index c.index) h)) in
    λ k. eqb e.address (a k) && eqb e.index (b k)

on_turn : (c d : OnChannel) → same_on c d ≡ same_on d c
on_turn c d = λ k. eqb_turn d.address c.address k && eqb_turn d.index c.index k

module _ (t : ℕ) (p : Protocol) (g : Good t p) where
  pub good_put_on : (c : OnChannel) → OnGood t c → Good t (put_on c p)
  good_put_on c h =
      record {
        offs = g.offs;
        ons = all_b_put (on_good t) (is_on c.address c.index) c p.ons g.ons ∙ on_test t c h;
        apart_offs = g.apart_offs;
        apart_ons = apart_put same_on on_turn on_alike c p.ons g.apart_ons;
        source = g.source;
      }

  pub good_put_off : (c : OffChannel) → DataGood t c.off → Good t (put_off c p)
  good_put_off c h =
      record {
        offs = all_b_put (off_good t) (is_off c.address) c p.offs g.offs ∙ data_test t c.off h;
        ons = g.ons;
        apart_offs = apart_put same_off (λ y z. eqb_turn z.address y.address) (λ y z u q. eqb_alike y.address z.address u.address q) c p.offs g.apart_offs;
        apart_ons = g.apart_ons;
        source = g.source;
      }

  -- the channel found, or a new one
  pub on-at-good : (a i v : ℕ) → key_good (new_on a i v) ≡ true → OnGood t (on_at a i v p)
  on-at-good a i v h = on_facts t (on_at a i v p) (all_b-find (on_good t) (is_on a i) (new_on a i v) p.ons (on_test t (new_on a i v) (on-new t a i v h)) g.ons)

  pub off-at-good : (a : ℕ) → DataGood t (off_at a p).off
  off-at-good a = data_facts t (off_at a p).off (all_b-find (off_good t) (is_off a) (new_off a) p.offs (data_test t (new_off a).off (data_new t)) g.offs)

-- has the key that it was looked for by
on_at_lem : (a i v : ℕ) (p : Protocol) → is_on a i (on_at a i v p) ≡ true
on_at_lem a i v p = find_key (is_on a i) (new_on a i v) p.ons (and_both (eq-eqb a a refl) (eq-eqb i i refl))

pub on-at-address : (a i v : ℕ) (p : Protocol) → (on_at a i v p).address ≡ a
on-at-address a i v p = let c = on_at a i v p in eqb-true c.address a (and_left (eqb c.address a) (eqb c.index i) (on_at_lem a i v p))

pub on-at-index : (a i v : ℕ) (p : Protocol) → (on_at a i v p).index ≡ i
on-at-index a i v p = let c = on_at a i v p in eqb-true c.index i (and_right (eqb c.address a) (eqb c.index i) (on_at_lem a i v p))

pub off-at-address : (a : ℕ) (p : Protocol) → (off_at a p).address ≡ a
off-at-address a p = eqb-true (off_at a p).address a (find_key (is_off a) (new_off a) p.offs (eq-eqb a a refl))

-- ---- room: "4: the channel is there, or there is a place for one more"

absent_short : (t : Bool) (n m : ℕ) → t || leb n m ≡ true → t ≡ false → n ≤ m
absent_short true n m h e = never (sym e)
absent_short false n m h e = leb-true n m h

module _ (p : Protocol) (f : Fits p) where
  pub on-at-fits : (a i v : ℕ) → fits_on (on_at a i v p) ≡ true
  on-at-fits a i v = all_b-find fits_on (is_on a i) (new_on a i v) p.ons (on-new-fits a i v) f.each_on

  pub off-at-fits : (a : ℕ) → fits_off (off_at a p) ≡ true
  off-at-fits a = all_b-find fits_off (is_off a) (new_off a) p.offs (off-new-fits a) f.each_off

  fits_put_on : (c : OnChannel) → has_place true c.address c.index p ≡ true → fits_on c ≡ true → Fits (put_on c p)
  fits_put_on c h k =
      record {
        offs = f.offs;
        ons = length_put_le (is_on c.address c.index) c p.ons 7 f.ons (absent_short (has_on c.address c.index p) (length p.ons) 7 h);
        each_off = f.each_off;
        each_on = all_b_put fits_on (is_on c.address c.index) c p.ons f.each_on ∙ k;
      }

  fits_put_off : (c : OffChannel) → has_place false c.address 0 p ≡ true → fits_off c ≡ true → Fits (put_off c p)
  fits_put_off c h k =
      record {
        offs = length_put_le (is_off c.address) c p.offs 3 f.offs (absent_short (has_off c.address p) (length p.offs) 3 h);
        ons = f.ons;
        each_off = all_b_put fits_off (is_off c.address) c p.offs f.each_off ∙ k;
        each_on = f.each_on;
      }

-- a channel of the key (a, i), or (a), for which there is a place
pub well_put_on : (t a i : ℕ) (p : Protocol) → Well t p → has_place true a i p ≡ true → (c : OnChannel) → c.address ≡ a → c.index ≡ i → OnGood t c → fits_on c ≡ true → Well t (put_on c p)
well_put_on t a i p w h c x y g k = record { fits = fits_put_on p w.fits c (rw (x, y) h) k; good = good_put_on t p w.good c g }

pub well_put_off : (t a i : ℕ) (p : Protocol) → Well t p → has_place false a i p ≡ true → (c : OffChannel) → c.address ≡ a → DataGood t c.off → fits_off c ≡ true → Well t (put_off c p)
well_put_off t a i p w h c x g k = record { fits = fits_put_off p w.fits c (rw x h) k; good = good_put_off t p w.good c g }

-- ---- resends go through every channel

pub well_resent : (t timeout give_up : ℕ) (p : Protocol) → Well t p → Well t (resent t timeout give_up p)
unfolding resent
well_resent t timeout give_up p w =
    record {
      fits =
          record {
            offs = omega (arith, w.fits.offs, length-map p.offs (resent_off t timeout give_up));
            ons = omega (arith, w.fits.ons, length-map p.ons (resent_on t timeout give_up));
            each_off = all_b-map_so fits_off fits_off (resent_off t timeout give_up) (λ c k. off-fits_with (resent_data t timeout give_up c.off) c (resent-fits t timeout give_up c.off (fits_data_facts c.off k))) p.offs w.fits.each_off;
            each_on = all_b-map_so fits_on fits_on (resent_on t timeout give_up) (λ c k. on-fits_with (resent_data t timeout give_up c.off) c (resent-fits t timeout give_up c.off (fits-on_facts c k).common) k) p.ons w.fits.each_on;
          };
      good =
          record {
            offs = all_b-map_so (off_good t) (off_good t) (resent_off t timeout give_up) (λ c k. data_test t (resent_data t timeout give_up c.off) (resent-good t timeout give_up c.off (data_facts t c.off k))) p.offs w.good.offs;
            ons = all_b-map_so (on_good t) (on_good t) (resent_on t timeout give_up) (λ c k. on_test t (resent_on t timeout give_up c) (on_with_lem t (resent_data t timeout give_up c.off) c (resent-good t timeout give_up c.off (on_facts t c k).common) (on_facts t c k))) p.ons w.good.ons;
            apart_offs = apart_map same_off (resent_off t timeout give_up) (λ x y. refl) p.offs w.good.apart_offs;
            apart_ons = apart_map same_on (resent_on t timeout give_up) (λ x y. refl) p.ons w.good.apart_ons;
            source = w.good.source;
          };
    }

-- ---- a new table

pub well_new : (t : ℕ) (b : Bool) → Well t (new b).protocol
well_new t b =
    record {
      fits = record { offs = omega arith; ons = omega arith; each_off = all_b-none fits_off; each_on = all_b-none fits_on };
      good = record { offs = all_b-none (off_good t); ons = all_b-none (on_good t); apart_offs = apart_none same_off; apart_ons = apart_none same_on; source = refl };
    }
