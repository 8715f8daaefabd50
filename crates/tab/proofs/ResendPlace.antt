-- A resend in a table: the model's reply, and the channels and rows of both kinds put together.
use Rattle.std.proofs.Common.{◌≡◌, ℕ, ◌+◌, ◌*◌, ◌≤◌, ◌<◌, arith, List, ◌++◌, map, length, take, drop, length-append, true, false, refl, ap, sym, ◌∙◌, leb, le-leb}
use Rattle.std.proofs.lemmas.Bool.{lt-leb}
use Rattle.std.specs.Prelude.{Ok}
use Rattle.list.specs.Find.{written, written_at}
use Rattle.list.proofs.Copies.{written_after, length-written}
use Rattle.list.proofs.Edits.{length_items}
use Rattle.packet.specs.declared.Resend.{Resend}
use Rattle.packet.specs.declared.Refusal.TheVariants.{TimeBelow, ListTooShort}
use Rattle.model.specs.State.{Protocol, State, with_time, with_protocol}
use Rattle.model.specs.Rust.{resent, all_rows}
use Rattle.model.specs.Calls as calls
use Rattle.model.specs.Calls.{flat}
use Rattle.model.specs.Port.{Reply, timed, refuse, grant, on_time, resend, take_resends_s, reply}
use Rattle.queues.specs.declared.out_list.Clock.{Clock}
use Rattle.chan.specs.declared.OffChannel.{OffChannel as OffStruct}
use Rattle.chan.specs.declared.OnChannel.{OnChannel as OnStruct}
use Rattle.chan.specs.Channels.{off_of, on_of, no_off_channel, no_on_channel}
use Rattle.tab.specs.declared.Table.{Table}
use Rattle.tab.specs.Tables.{IsTable, state_of}
use Rattle.tab.specs.Calls as table
use Rattle.tab.specs.Resending.{off_after, on_after, off_rows, on_rows}
use Rattle.tab.proofs.Listed.{front_changed, flat-append, length-flat}

-- ---- the model's reply: 3, 12, or the rows

module _ (k : Clock) (l : List ℕ) (s : State) where
  abbrev rows : List Resend
  rows = all_rows k.time k.timeout k.give_up s.protocol

  pub again_late : on_time k.time s ≡ false → reply (calls.take_resends k.time k.timeout k.give_up l) s ≡ refuse TimeBelow (timed k.time s)
  unfolding reply take_resends_s
  again_late h = λ j. resend (h j) (leb (length (flat rows)) (length l)) k.time k.timeout k.give_up s

  pub again_short : on_time k.time s ≡ true → length l < 2 * length rows → reply (calls.take_resends k.time k.timeout k.give_up l) s ≡ refuse ListTooShort (timed k.time s)
  unfolding reply take_resends_s
  again_short h lt =
      let room = lt-leb (length (flat rows)) (length l) (omega (arith, length-flat rows)) in
      λ j. resend (h j) (room j) k.time k.timeout k.give_up s

  pub again_granted : on_time k.time s ≡ true → 2 * length rows ≤ length l
      → reply (calls.take_resends k.time k.timeout k.give_up l) s ≡ grant (calls.resends rows) (with_protocol (resent k.time k.timeout k.give_up s.protocol) (with_time k.time s))
  unfolding reply take_resends_s
  again_granted h le =
      let room = le-leb (length (flat rows)) (length l) (omega (arith, length-flat rows)) in
      λ j. resend (h j) (room j) k.time k.timeout k.give_up s

-- off-channels, then on-channels
module _ (k : Clock) (p : Protocol) where
  rows_are : all_rows k.time k.timeout k.give_up p ≡ off_rows k p.offs ++ on_rows k p.ons
  unfolding all_rows
  rows_are = refl

  pub rows_count : length (all_rows k.time k.timeout k.give_up p) ≡ length (off_rows k p.offs) + length (on_rows k p.ons)
  rows_count = ap length rows_are ∙ length-append (off_rows k p.offs) (on_rows k p.ons)

  pub flat_count : 2 * length (all_rows k.time k.timeout k.give_up p) ≡ length (flat (off_rows k p.offs)) + length (flat (on_rows k p.ons))
  flat_count = omega (arith, rows_count, length-flat (off_rows k p.offs), length-flat (on_rows k p.ons))

  written_front : (w l : List ℕ) → written_at 0 w l ≡ written w l
  unfolding written_at
  written_front w l = let z : 0 + length w ≡ length w = omega arith in ap (λ (n : ℕ). w ++ drop n l) z

  pub both_lent : (l m n : List ℕ) (at : ℕ) → m ≡ written_at 0 (flat (off_rows k p.offs)) l → at ≡ 0 + length (flat (off_rows k p.offs)) → n ≡ written_at at (flat (on_rows k p.ons)) m
      → n ≡ written (flat (all_rows k.time k.timeout k.give_up p)) l
  both_lent l m n at e place f =
      f
      ∙ (λ j. written_at (place j) (flat (on_rows k p.ons)) (e j))
      ∙ written_after 0 (flat (off_rows k p.offs)) (flat (on_rows k p.ons)) l (omega arith)
      ∙ written_front (flat (off_rows k p.offs) ++ flat (on_rows k p.ons)) l
      ∙ ap (λ (w : List ℕ). written w l) (sym (ap flat rows_are ∙ flat-append (off_rows k p.offs) (on_rows k p.ons)))

-- ---- the rows of a table, counted

pub table_rows : (t : Table) (k : Clock) (a b : ℕ) → a ≡ length (off_rows k (map off_of (take t.offcount t.offs))) → b ≡ length (on_rows k (map on_of (take t.oncount t.ons)))
    → a + b ≡ length (all_rows k.time k.timeout k.give_up (state_of t).protocol)
unfolding state_of
table_rows t k a b e f = omega (arith, e, f, rows_count k (state_of t).protocol)

-- ---- the whole: in a table, the channels of each kind sent again, and the time set

module _ (k : Clock) (t : Table) (l : List ℕ) (n : ℕ) (is : n ≡ length (all_rows k.time k.timeout k.give_up (state_of t).protocol)) (room : 2 * n ≤ length l) (due : t.latest ≤ k.time) where
  pub offs_room : 0 + length (flat (off_rows k (map off_of (take t.offcount t.offs)))) ≤ length l
  unfolding state_of
  offs_room = omega (arith, is, flat_count k (state_of t).protocol)

  on_time_is : on_time k.time (state_of t) ≡ true
  unfolding state_of
  on_time_is = le-leb t.latest k.time due

  granted : reply (calls.take_resends k.time k.timeout k.give_up l) (state_of t)
      ≡ grant (calls.resends (all_rows k.time k.timeout k.give_up (state_of t).protocol)) (with_protocol (resent k.time k.timeout k.give_up (state_of t).protocol) (with_time k.time (state_of t)))
  granted = again_granted k l (state_of t) on_time_is (omega (arith, is))

  pub again_answer : Ok n ≡ table.answer_of table.rows_in (reply (calls.take_resends k.time k.timeout k.give_up l) (state_of t)).answer
  unfolding table.answer_of
  again_answer = ap (λ (x : ℕ). Ok x) is ∙ sym (ap (λ (r : Reply). table.answer_of table.rows_in r.answer) granted)

  -- the rows in the lent list
  module _ (m : List ℕ) (at : ℕ) (wrote : m ≡ written_at 0 (flat (off_rows k (map off_of (take t.offcount t.offs)))) l) (place : at ≡ 0 + length (flat (off_rows k (map off_of (take t.offcount t.offs))))) where
    pub ons_room : at + length (flat (on_rows k (map on_of (take t.oncount t.ons)))) ≤ length m
    unfolding state_of
    ons_room =
        omega (
          arith,
          is,
          place,
          flat_count k (state_of t).protocol,
          ap length wrote,
          length-written 0 (flat (off_rows k (map off_of (take t.offcount t.offs)))) l offs_room,
        )

    pub again_lent : (o : List ℕ) → o ≡ written_at at (flat (on_rows k (map on_of (take t.oncount t.ons)))) m → o ≡ calls.lent (reply (calls.take_resends k.time k.timeout k.give_up l) (state_of t)).answer l
    unfolding state_of
    again_lent o wrote2 = both_lent k (state_of t).protocol l m o at wrote place wrote2 ∙ sym (ap (λ (r : Reply). calls.lent r.answer l) granted)

  -- the channels: those in use are others now, and past them stands what stood
  module _ (h : IsTable t) (offs offs_past : List OffStruct) (offs_are : map off_of offs ≡ map (off_after k) (map off_of (take t.offcount t.offs)))
      (ons ons_past : List OnStruct) (ons_are : map on_of ons ≡ map (on_after k) (map on_of (take t.oncount t.ons))) where
    offs_now : map off_of (take t.offcount (offs ++ offs_past)) ≡ map (off_after k) (map off_of (take t.offcount t.offs))
    offs_now = front_changed off_of (off_after k) t.offcount (take t.offcount t.offs) offs offs_past (length_items 4 t.offcount no_off_channel t.offs h.offs) offs_are

    ons_now : map on_of (take t.oncount (ons ++ ons_past)) ≡ map (on_after k) (map on_of (take t.oncount t.ons))
    ons_now = front_changed on_of (on_after k) t.oncount (take t.oncount t.ons) ons ons_past (length_items 8 t.oncount no_on_channel t.ons h.ons) ons_are

    pub again_state : state_of (record t { latest = k.time; offs = offs ++ offs_past; ons = ons ++ ons_past }) ≡ (reply (calls.take_resends k.time k.timeout k.give_up l) (state_of t)).state
    unfolding state_of resent
    again_state =
        (λ j. with_protocol (record (state_of t).protocol { offs = offs_now j; ons = ons_now j }) (with_time k.time (state_of t)))
        ∙ sym (ap (λ (r : Reply). r.state) granted)
