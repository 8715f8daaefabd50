-- The test of a table is true exactly where the table is well formed. Assumes nothing.
use Rattle.std.proofs.Common.{◌≡◌, ℕ, Bool, true, false, ◌&&◌, ◌↔◌, List, map, length, take, drop, take-append-drop, IsTrue, All, refl, sym, subst, arith, ◌∙◌}
use borrow.Author.Tests.{leb-true, le-leb, eqb-true, eq-eqb}
use lib.Dec.{leb, eqb}
use lib.ListN.{length-map}
use Rattle.std.proofs.lemmas.List.Elements.{All-append, All-take, All-drop}
use Rattle.list.specs.Pad.{all_b}
use Rattle.list.proofs.Pad.{and_left, and_right}
use Rattle.list.proofs.Tests.{and_both, and_3, and_4}
use Rattle.list.proofs.Maps.{all_b-map}
use Rattle.list.proofs.Edits.{length_items}
use Rattle.seq.specs.Num.{legal}
use Rattle.packet.specs.Data.{is_flag}
use Rattle.model.specs.Room.{fits_off, fits_on}
use Rattle.model.specs.Wellformed.{distinct, off_good, on_good, same_off, same_on, well_formed}
use Rattle.model.proofs.Wellformed.{well_facts, well_test}
use Rattle.queues.proofs.TestForms.{all_so, all_b_so, list_of, spare_of}
use Rattle.chan.specs.declared.OffChannel.{OffChannel}
use Rattle.chan.specs.declared.OnChannel.{OnChannel}
use Rattle.chan.specs.Channels.{off_of, IsOffChannel, no_off_channel, on_of, IsOnChannel, no_on_channel}
use Rattle.chan.specs.Tests.{off_test, on_test, idle_off, idle_on}
use Rattle.chan.specs.Good.{IsGoodOff, IsGoodOn, IsIdleOff, IsIdleOn}
use Rattle.chan.proofs.TestForms.{off_is, is_off_good, off_form, off_model, off_from, on_is, is_on_good, on_form, on_model, on_from, idle_off_is, is_idle_off, idle_on_is, is_idle_on, off_none, on_none, none_off, none_on, idle_none_off, idle_none_on}
use Rattle.chan.proofs.Fits.{off_fits, on_fits}
use Rattle.tab.specs.declared.Table.{Table}
use Rattle.tab.specs.Tables.{state_of, IsTable}
use Rattle.tab.specs.Test.{IsWellFormed, numbers_good, spare_off, spare_on, offs_good, ons_good, wfb}
use Rattle.tab.specs.Good.{AreGoodCounts, IsGoodTable}

-- ---- the parts of the test, each channel by its own test

pub record Parts (t : Table) : Type 0 where
  pub counts : AreGoodCounts t
  pub four : length t.offs ≡ 4
  pub eight : length t.ons ≡ 8
  pub offs : all_b (off_test t.latest) (take t.offcount t.offs) ≡ true
  pub spare_offs : all_b (spare_off t.latest) (drop t.offcount t.offs) ≡ true
  pub ons : all_b (on_test t.latest) (take t.oncount t.ons) ≡ true
  pub spare_ons : all_b (spare_on t.latest) (drop t.oncount t.ons) ≡ true
  pub apart_offs : distinct same_off (map off_of (take t.offcount t.offs)) ≡ true
  pub apart_ons : distinct same_on (map on_of (take t.oncount t.ons)) ≡ true

counts_is : (t : Table) → numbers_good t ≡ true → AreGoodCounts t
counts_is t h =
    let l = and_4 (is_flag t.forwarding) (legal t.source.next) (leb t.offcount 4) (leb t.oncount 8) h in
    record { forwarding = leb-true _ _ l.0; source = leb-true _ _ l.1; offcount = leb-true _ _ l.2; oncount = leb-true _ _ l.3 }

is_counts : (t : Table) → AreGoodCounts t → numbers_good t ≡ true
is_counts t g =
    let a = le-leb t.forwarding 1 g.forwarding in
    let b = le-leb t.source.next 0x0FFF_FFFF g.source in
    let c = le-leb t.offcount 4 g.offcount in
    let d = le-leb t.oncount 8 g.oncount in
    λ i. a i && b i && c i && d i

pub test_parts : (t : Table) → wfb t ≡ true → Parts t
unfolding wfb offs_good ons_good
test_parts t h =
    let x = eqb (length t.offs) 4 in
    let a = all_b (off_test t.latest) (take t.offcount t.offs) in
    let b = all_b (spare_off t.latest) (drop t.offcount t.offs) in
    let y = eqb (length t.ons) 8 in
    let c = all_b (on_test t.latest) (take t.oncount t.ons) in
    let d = all_b (spare_on t.latest) (drop t.oncount t.ons) in
    let e = distinct same_off (map off_of (take t.offcount t.offs)) in
    let f = distinct same_on (map on_of (take t.oncount t.ons)) in
    let l = and_4 (numbers_good t) (x && a && b) (y && c && d) (e && f) h in
    let m = and_3 x a b l.1 in
    let n = and_3 y c d l.2 in
    record {
      counts = counts_is t l.0;
      four = eqb-true _ _ m.0;
      eight = eqb-true _ _ n.0;
      offs = m.1;
      spare_offs = m.2;
      ons = n.1;
      spare_ons = n.2;
      apart_offs = and_left e f l.3;
      apart_ons = and_right e f l.3;
    }

pub parts_test : (t : Table) → Parts t → wfb t ≡ true
unfolding wfb offs_good ons_good
parts_test t p =
    let n = is_counts t p.counts in
    let x = eq-eqb (length t.offs) 4 p.four in
    let y = eq-eqb (length t.ons) 8 p.eight in
    let a = p.offs in
    let b = p.spare_offs in
    let c = p.ons in
    let d = p.spare_ons in
    let e = p.apart_offs in
    let f = p.apart_ons in
    λ i. n i && (x i && a i && b i) && (y i && c i && d i) && (e i && f i)

-- ---- as the code finds it: each of all the channels is good, and those past the count have nothing in them

module _ {X : Type 0} (P Q : X → Type 0) (n : ℕ) (xs : List X) where
  all_of : All P (take n xs) → All P (drop n xs) → All P xs
  all_of a b = subst (All P) (take-append-drop n xs) (All-append P (take n xs) (drop n xs) a b)

abbrev unused_off : ℕ → OffChannel → Type 0
unused_off latest c = IsGoodOff latest c × IsIdleOff c

abbrev unused_on : ℕ → OnChannel → Type 0
unused_on latest c = IsGoodOn latest c × IsIdleOn c

off_unused : (latest : ℕ) (c : OffChannel) → spare_off latest c ≡ true → unused_off latest c
off_unused latest c h = (off_is latest c (and_left (off_test latest c) (idle_off c) h), idle_off_is c (and_right (off_test latest c) (idle_off c) h))

unused_off_test : (latest : ℕ) (c : OffChannel) → unused_off latest c → spare_off latest c ≡ true
unused_off_test latest c u = and_both (is_off_good latest c u.0) (is_idle_off c u.1)

on_unused : (latest : ℕ) (c : OnChannel) → spare_on latest c ≡ true → unused_on latest c
on_unused latest c h = (on_is latest c (and_left (on_test latest c) (idle_on c) h), idle_on_is c (and_right (on_test latest c) (idle_on c) h))

unused_on_test : (latest : ℕ) (c : OnChannel) → unused_on latest c → spare_on latest c ≡ true
unused_on_test latest c u = and_both (is_on_good latest c u.0) (is_idle_on c u.1)

pub parts_good : (t : Table) → Parts t → IsGoodTable t
parts_good t p =
    let a = all_so (off_test t.latest) (IsGoodOff t.latest) (off_is t.latest) (take t.offcount t.offs) p.offs in
    let b = all_so (spare_off t.latest) (unused_off t.latest) (off_unused t.latest) (drop t.offcount t.offs) p.spare_offs in
    let c = all_so (on_test t.latest) (IsGoodOn t.latest) (on_is t.latest) (take t.oncount t.ons) p.ons in
    let d = all_so (spare_on t.latest) (unused_on t.latest) (on_unused t.latest) (drop t.oncount t.ons) p.spare_ons in
    record {
      counts = p.counts;
      offs = record { size = p.four; each = all_of (IsGoodOff t.latest) IsIdleOff t.offcount t.offs a (λ k e h. (b k e h).0); idle = λ k e h. (b k e h).1 };
      ons = record { size = p.eight; each = all_of (IsGoodOn t.latest) IsIdleOn t.oncount t.ons c (λ k e h. (d k e h).0); idle = λ k e h. (d k e h).1 };
      apart_offs = p.apart_offs;
      apart_ons = p.apart_ons;
    }

pub good_parts : (t : Table) → IsGoodTable t → Parts t
good_parts t g =
    let b = All-drop (IsGoodOff t.latest) t.offcount t.offs g.offs.each in
    let d = All-drop (IsGoodOn t.latest) t.oncount t.ons g.ons.each in
    record {
      counts = g.counts;
      four = g.offs.size;
      eight = g.ons.size;
      offs = all_b_so (off_test t.latest) (IsGoodOff t.latest) (is_off_good t.latest) (take t.offcount t.offs) (All-take (IsGoodOff t.latest) t.offcount t.offs g.offs.each);
      spare_offs = all_b_so (spare_off t.latest) (unused_off t.latest) (unused_off_test t.latest) (drop t.offcount t.offs) (λ k e h. (b k e h, g.offs.idle k e h));
      ons = all_b_so (on_test t.latest) (IsGoodOn t.latest) (is_on_good t.latest) (take t.oncount t.ons) (All-take (IsGoodOn t.latest) t.oncount t.ons g.ons.each);
      spare_ons = all_b_so (spare_on t.latest) (unused_on t.latest) (unused_on_test t.latest) (drop t.oncount t.ons) (λ k e h. (d k e h, g.ons.idle k e h));
      apart_offs = g.apart_offs;
      apart_ons = g.apart_ons;
    }

-- an answer that is true exactly of a good table is the test's
pub answer_is : (t : Table) (r : Bool) → (IsTrue r ↔ IsGoodTable t) → r ≡ wfb t
answer_is t r e = at r (wfb t) refl refl
  where
    at : (a b : Bool) → r ≡ a → wfb t ≡ b → r ≡ wfb t
    at true b p q = p ∙ sym (parts_test t (good_parts t (e.0 p)))
    at false true p q = e.1 (parts_good t (test_parts t q)) ∙ sym q
    at false false p q = p ∙ sym q

-- ---- the test is true: the table is in its form, and its state is well formed

off_is_none : (latest : ℕ) (c : OffChannel) → spare_off latest c ≡ true → c ≡ no_off_channel
off_is_none latest c h = let u = off_unused latest c h in off_none latest c u.0 u.1

on_is_none : (latest : ℕ) (c : OnChannel) → spare_on latest c ≡ true → c ≡ no_on_channel
on_is_none latest c h = let u = on_unused latest c h in on_none latest c u.0 u.1

abbrev off_fits_at : OffChannel → Bool
off_fits_at c = fits_off (off_of c)

abbrev on_fits_at : OnChannel → Bool
on_fits_at c = fits_on (on_of c)

abbrev off_good_at : ℕ → OffChannel → Bool
off_good_at latest c = off_good latest (off_of c)

abbrev on_good_at : ℕ → OnChannel → Bool
on_good_at latest c = on_good latest (on_of c)

module _ (t : Table) (p : Parts t) where
  good_offs : All (IsGoodOff t.latest) (take t.offcount t.offs)
  good_offs = all_so (off_test t.latest) (IsGoodOff t.latest) (off_is t.latest) (take t.offcount t.offs) p.offs

  good_ons : All (IsGoodOn t.latest) (take t.oncount t.ons)
  good_ons = all_so (on_test t.latest) (IsGoodOn t.latest) (on_is t.latest) (take t.oncount t.ons) p.ons

  parts_form : IsTable t
  parts_form =
      record {
        forwarding = p.counts.forwarding;
        offs = list_of (spare_off t.latest) no_off_channel (off_is_none t.latest) 4 t.offcount t.offs p.four p.counts.offcount p.spare_offs;
        each_off = λ k d h. off_form t.latest _ (good_offs k d h);
        ons = list_of (spare_on t.latest) no_on_channel (on_is_none t.latest) 8 t.oncount t.ons p.eight p.counts.oncount p.spare_ons;
        each_on = λ k d h. on_form t.latest _ (good_ons k d h);
      }

  parts_meet : well_formed (state_of t) ≡ true
  unfolding state_of
  parts_meet =
      let os = take t.offcount t.offs in
      let ns = take t.oncount t.ons in
      let w = parts_form in
      well_test (state_of t)
      record {
        fits =
            record {
              offs = omega (arith, length-map os off_of, length_items 4 t.offcount no_off_channel t.offs w.offs, w.offs.fits);
              ons = omega (arith, length-map ns on_of, length_items 8 t.oncount no_on_channel t.ons w.ons, w.ons.fits);
              each_off = all_b-map fits_off off_of os ∙ all_b_so off_fits_at IsOffChannel off_fits os w.each_off;
              each_on = all_b-map fits_on on_of ns ∙ all_b_so on_fits_at IsOnChannel on_fits ns w.each_on;
            };
        good =
            record {
              offs = all_b-map (off_good t.latest) off_of os ∙ all_b_so (off_good_at t.latest) (IsGoodOff t.latest) (off_model t.latest) os good_offs;
              ons = all_b-map (on_good t.latest) on_of ns ∙ all_b_so (on_good_at t.latest) (IsGoodOn t.latest) (on_model t.latest) ns good_ons;
              apart_offs = p.apart_offs;
              apart_ons = p.apart_ons;
              source = le-leb t.source.next 0x0FFF_FFFF p.counts.source;
            };
      }

pub test_well : (t : Table) → wfb t ≡ true → IsWellFormed t
test_well t h = let p = test_parts t h in record { form = parts_form t p; meets = parts_meet t p }

-- ---- a well-formed table passes the test

well_parts : (t : Table) → IsWellFormed t → Parts t
unfolding state_of
well_parts t w =
    let f = w.form in
    let m = well_facts (state_of t) w.meets in
    let os = take t.offcount t.offs in
    let ns = take t.oncount t.ons in
    let go : All (λ c. off_good_at t.latest c ≡ true) os = all_so (off_good_at t.latest) (λ c. off_good_at t.latest c ≡ true) (λ c q. q) os (sym (all_b-map (off_good t.latest) off_of os) ∙ m.good.offs) in
    let gn : All (λ c. on_good_at t.latest c ≡ true) ns = all_so (on_good_at t.latest) (λ c. on_good_at t.latest c ≡ true) (λ c q. q) ns (sym (all_b-map (on_good t.latest) on_of ns) ∙ m.good.ons) in
    record {
      counts = record { forwarding = f.forwarding; source = leb-true t.source.next 0x0FFF_FFFF m.good.source; offcount = f.offs.fits; oncount = f.ons.fits };
      four = f.offs.size;
      eight = f.ons.size;
      offs = all_b_so (off_test t.latest) (IsGoodOff t.latest) (is_off_good t.latest) os (λ k d h. off_from t.latest _ (f.each_off k d h) (go k d h));
      spare_offs = spare_of (spare_off t.latest) no_off_channel (unused_off_test t.latest no_off_channel (none_off t.latest, idle_none_off)) 4 t.offcount t.offs f.offs;
      ons = all_b_so (on_test t.latest) (IsGoodOn t.latest) (is_on_good t.latest) ns (λ k d h. on_from t.latest _ (f.each_on k d h) (gn k d h));
      spare_ons = spare_of (spare_on t.latest) no_on_channel (unused_on_test t.latest no_on_channel (none_on t.latest, idle_none_on)) 8 t.oncount t.ons f.ons;
      apart_offs = m.good.apart_offs;
      apart_ons = m.good.apart_ons;
    }

pub well_test_true : (t : Table) → IsWellFormed t → wfb t ≡ true
well_test_true t w = parts_test t (well_parts t w)

-- the test is true exactly where the table is well formed
pub wfb-iff : (t : Table) → wfb t ≡ true ↔ IsWellFormed t
wfb-iff t = (test_well t, well_test_true t)
