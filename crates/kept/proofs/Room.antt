-- What keeps the limits of 01, "Room": acks, written acks, a bundle handed out and resends only shorten lists.
-- Assumes nothing.
use mathlib.Core.Path.{◌≡◌, refl, ap}
use mathlib.Core.Bool.{Bool, true, false, cond}
use mathlib.Core.List.{List, [], ◌∷◌, map}
use Rattle.std.specs.declared.option.Option.TheVariants.{None}
use Prim.Native.Nat.{ℕ, suc, ◌≤◌}
use native.Mathlib.Omega.{arith}
use lib.ListN.{length, length-map}
use Rattle.list.specs.Pad.{all_b}
use Rattle.list.specs.Find.{has, remove_first, joined}
use Rattle.list.proofs.Find.{length_remove, length-keep}
use Rattle.list.proofs.Joined.{length-joined_tail}
use Rattle.seq.specs.Num.{cmp}
use Rattle.packet.specs.declared.OutEntry.{OutEntry}
use Rattle.packet.specs.declared.Record.{Record}
use Rattle.packet.specs.Data.{is_set, single_acks}
use Rattle.model.specs.State.{OffData, OffChannel, OnChannel, no_data, new_off, new_on, with_out, with_acks, with_bundles, off_with, on_with}
use Rattle.model.specs.Acks.{is_greater, ack_cumulative, has_number, ack_singles, is, take_written}
use Rattle.model.specs.Record.{cumulated, acked_on, acked_off}
use Rattle.model.specs.Room.{fits_off, fits_on}
use Rattle.model.specs.Rust.{young, mark, kept, resent_data}
use Rattle.model.proofs.Room.{DataFits, fits_data_test, OnFits, fits-on_facts, fits-on_test}
use Rattle.kept.proofs.Data.{Taken}

-- ---- a new channel

data_new-fits : DataFits no_data
unfolding all_b joined
data_new-fits = record { out = omega arith; acks = omega arith; groups = omega arith; places = refl; bundles = omega arith; handles = omega arith }

pub off-new-fits : (a : ℕ) → fits_off (new_off a) ≡ true
off-new-fits a = fits_data_test no_data data_new-fits

pub on-new-fits : (a i v : ℕ) → fits_on (new_on a i v) ≡ true
on-new-fits a i v = fits-on_test (new_on a i v) (record { common = data_new-fits; buffer = omega arith; queue = omega arith })

-- ---- what both have, new in a channel

pub off-fits_with : (d : OffData) (c : OffChannel) → DataFits d → fits_off (off_with d c) ≡ true
off-fits_with d c f = fits_data_test d f

pub on-fits_with : (d : OffData) (c : OnChannel) → DataFits d → fits_on c ≡ true → fits_on (on_with d c) ≡ true
on-fits_with d c f h = let g : OnFits c = fits-on_facts c h in fits-on_test (on_with d c) (record { common = f; buffer = g.buffer; queue = g.queue })

-- ---- what only shortens

module _ (d : OffData) (f : DataFits d) where
  out-fits : (l : List OutEntry) → length l ≤ length d.out → DataFits (with_out l d)
  out-fits l h = record { out = omega (arith, f.out); acks = f.acks; groups = f.groups; places = f.places; bundles = f.bundles; handles = f.handles }

  pub acks-fits : (l : List ℕ) → length l ≤ length d.acks → DataFits (with_acks l d)
  acks-fits l h = record { out = f.out; acks = omega (arith, f.acks); groups = f.groups; places = f.places; bundles = f.bundles; handles = f.handles }

  pub popped-fits : (b : List ℕ) (bs : List (List ℕ)) → d.bundles ≡ b ∷ bs → DataFits (with_bundles bs d)
  popped-fits b bs e =
      record {
        out = f.out;
        acks = f.acks;
        groups = f.groups;
        places = f.places;
        bundles = omega (arith, f.bundles, ap length e);
        handles = omega (arith, f.handles, ap (λ (l : List (List ℕ)). length (joined l)) e, length-joined_tail b bs);
      }

cumulative-short : (n : ℕ) (es : List OutEntry) → length (ack_cumulative n es) ≤ length es
unfolding ack_cumulative
cumulative-short n [] = omega arith
cumulative-short n (e ∷ es) = at (is_greater (cmp n e.number)) (cumulative-short n es)
  where
    at : (b : Bool) → length (ack_cumulative n es) ≤ length es → length (cond b (ack_cumulative n es) (e ∷ es)) ≤ suc (length es)
    at true h = omega arith
    at false h = omega arith

cumulated-short : (b : Bool) (n : ℕ) (es : List OutEntry) → length (cumulated b n es) ≤ length es
cumulated-short true n es = cumulative-short n es
cumulated-short false n es = omega arith

singles_short : (ns : List ℕ) (es : List OutEntry) → length (ack_singles ns es) ≤ length es
unfolding ack_singles
singles_short [] es = omega arith
singles_short (n ∷ ns) es = omega (arith, singles_short ns (remove_first (has_number n) es), length_remove (has_number n) es)

pub acked-on-fits : (r : Record) (d : OffData) → DataFits d → DataFits (acked_on r d)
acked-on-fits r d f =
    let c = cumulated (is_set r.hascumulative) r.cumulative d.out in
    out-fits d f (ack_singles (single_acks r) c) (omega (arith, singles_short (single_acks r) c, cumulated-short (is_set r.hascumulative) r.cumulative d.out))

pub acked-off-fits : (r : Record) (d : OffData) → DataFits d → DataFits (acked_off r d)
acked-off-fits r d f = out-fits d f (ack_singles (single_acks r) d.out) (singles_short (single_acks r) d.out)

pub taken-short : (n : ℕ) (ns qs : List ℕ) → length qs ≤ n → Taken (λ l. length l ≤ n) (take_written ns qs)
unfolding take_written
taken-short n [] qs h = h
taken-short n (m ∷ ns) qs h = at (has (is m) qs) (taken-short n ns (remove_first (is m) qs) (omega (arith, length_remove (is m) qs)))
  where
    at : (b : Bool) → Taken (λ l. length l ≤ n) (take_written ns (remove_first (is m) qs)) → Taken (λ l. length l ≤ n) (cond b (take_written ns (remove_first (is m) qs)) None)
    at true ih = ih
    at false ih = tt

pub resent-fits : (t timeout give_up : ℕ) (d : OffData) → DataFits d → DataFits (resent_data t timeout give_up d)
resent-fits t timeout give_up d f =
    out-fits d f (map (mark t timeout) (kept t give_up d)) (omega (arith, length-map (kept t give_up d) (mark t timeout), length-keep (young t give_up) d.out))
