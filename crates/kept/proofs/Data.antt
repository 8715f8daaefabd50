-- What both kinds of channel have stays good under each rule: acks, the ack queue, fragments, entries sent, forwarded and resent.
-- Assumes nothing.
use mathlib.Core.Path.{◌≡◌, refl, ◌∙◌}
use mathlib.Core.Bool.{Bool, true, false, cond, ◌||◌}
use mathlib.Core.List.{List, [], ◌∷◌, ◌++◌, map}
use Rattle.std.specs.declared.option.Option.{Option}
use Rattle.std.specs.declared.option.Option.TheVariants.{None, Some}
use Prim.Native.Nat.{ℕ, ◌≤◌}
use native.Mathlib.Omega.{arith}
use lib.Dec.{leb, eqb}
use lib.ListN.{length}
use borrow.Author.Tests.{leb-true, le-leb, eqb-true, eq-eqb}
use Rattle.list.specs.Pad.{all_b}
use Rattle.list.specs.Find.{has, put_by, remove_first, swap_remove_first}
use Rattle.list.proofs.Pad.{and_left, and_right}
use Rattle.list.proofs.Find.{all_b_put, put_new, find_key}
use Rattle.list.proofs.Tests.{and_both, and_5, eqb_turn, all_b_tail, all_b-none, all_b-cons, all_b_snoc, all_b_weaken, all_b_joins, all_b_remove, all_b-keep, all_b-find, all_b_swap}
use Rattle.list.proofs.Maps.{all_b-map_so}
use Rattle.seq.specs.Num.{legal, add, dist, cmp}
use Rattle.packet.specs.declared.OutEntry.{OutEntry}
use Rattle.packet.specs.declared.Packet.{Packet}
use Rattle.packet.specs.declared.Record.{Record}
use Rattle.packet.specs.Data.{is_set, is_flag, no_entry, Range, no_range, range, range_of, single_acks}
use Rattle.model.specs.State.{Group, OffData, no_data, with_out, with_acks, with_groups, with_bundles}
use Rattle.model.specs.Acks.{is_greater, ack_cumulative, has_number, ack_singles, search, entry_number, forwarded_entry, insert_out, not_before, is, ack_in_singles, take_written}
use Rattle.model.specs.Group.{span, is_first, new_group, full, in_places, store, stale, Stored, done, beyond, stored_in, present, create, is_beyond, in_group, group_at, placed, add_in_packet}
use Rattle.model.specs.Record.{cumulated, acked_on, acked_off, queued}
use Rattle.model.specs.Rust.{cumulated_in, inserted_if, forwarded, sent_entry, sent_entries, due, mark_if, mark, kept, resent_data}
use Rattle.model.specs.Wellformed.{distinct, entry_good, group_good, same_first}
use Rattle.model.proofs.Wellformed.{DataGood}
use Rattle.kept.proofs.Distinct.{eqb_alike, apart_none, apart_remove, apart_put}
use Rattle.kept.proofs.Reorder.{add-legal, all_b-inserted}

-- ---- a new channel

pub data_new : (t : ℕ) → DataGood t no_data
data_new t = record { out = all_b-none (entry_good t); acks = all_b-none legal; groups = all_b-none (group_good t); apart = apart_none same_first }

-- ---- a later time

record EntryGood (t : ℕ) (e : OutEntry) : Type 0 where
  number : legal e.number ≡ true
  flag : is_flag e.held ≡ true
  bare : is_set e.held || eqb e.handle 0 ≡ true
  time : e.time ≤ e.sent
  sent : e.sent ≤ t

entry_facts : (t : ℕ) (e : OutEntry) → entry_good t e ≡ true → EntryGood t e
entry_facts t e h =
    let l = and_5 (legal e.number) (is_flag e.held) (is_set e.held || eqb e.handle 0) (leb e.time e.sent) (leb e.sent t) h in
    record { number = l.0; flag = l.1; bare = l.2; time = leb-true e.time e.sent l.3; sent = leb-true e.sent t l.4 }

entry_test : (t : ℕ) (e : OutEntry) → EntryGood t e → entry_good t e ≡ true
entry_test t e g = and_both (and_both (and_both (and_both g.number g.flag) g.bare) (le-leb e.time e.sent g.time)) (le-leb e.sent t g.sent)

entry-later : (t u : ℕ) → t ≤ u → (e : OutEntry) → entry_good t e ≡ true → entry_good u e ≡ true
entry-later t u h e k =
    let g : EntryGood t e = entry_facts t e k in
    entry_test u e (record { number = g.number; flag = g.flag; bare = g.bare; time = g.time; sent = omega (arith, g.sent) })

group-later : (t u : ℕ) → t ≤ u → (g : Group) → group_good t g ≡ true → group_good u g ≡ true
group-later t u h g k =
    let s : g.updated ≤ t = leb-true g.updated t (and_right (legal g.first) (leb g.updated t) k) in
    and_both (and_left (legal g.first) (leb g.updated t) k) (le-leb g.updated u (omega arith))

pub data_later : (t u : ℕ) → t ≤ u → (d : OffData) → DataGood t d → DataGood u d
data_later t u h d g =
    record {
      out = all_b_weaken (entry_good t) (entry_good u) (entry-later t u h) d.out g.out;
      acks = g.acks;
      groups = all_b_weaken (group_good t) (group_good u) (group-later t u h) d.groups g.groups;
      apart = g.apart;
    }

-- ---- one part new

module _ (t : ℕ) (d : OffData) (g : DataGood t d) where
  pub data_out : (l : List OutEntry) → all_b (entry_good t) l ≡ true → DataGood t (with_out l d)
  data_out l h = record { out = h; acks = g.acks; groups = g.groups; apart = g.apart }

  pub data_acks : (l : List ℕ) → all_b legal l ≡ true → DataGood t (with_acks l d)
  data_acks l h = record { out = g.out; acks = h; groups = g.groups; apart = g.apart }

  pub data_bundles : (l : List (List ℕ)) → DataGood t (with_bundles l d)
  data_bundles l = record { out = g.out; acks = g.acks; groups = g.groups; apart = g.apart }

  data_groups : (l : List Group) → all_b (group_good t) l ≡ true → distinct same_first l ≡ true → DataGood t (with_groups l d)
  data_groups l h a = record { out = g.out; acks = g.acks; groups = h; apart = a }

-- ---- acks on the out list

module _ (f : OutEntry → Bool) where
  cumulative-all : (n : ℕ) (es : List OutEntry) → all_b f es ≡ true → all_b f (ack_cumulative n es) ≡ true
  unfolding ack_cumulative
  cumulative-all n [] h = h
  cumulative-all n (e ∷ es) h = at (is_greater (cmp n e.number)) (cumulative-all n es (all_b_tail f e es h))
    where
      at : (b : Bool) → all_b f (ack_cumulative n es) ≡ true → all_b f (cond b (ack_cumulative n es) (e ∷ es)) ≡ true
      at true ih = ih
      at false ih = h

  cumulated-all : (b : Bool) (n : ℕ) (es : List OutEntry) → all_b f es ≡ true → all_b f (cumulated b n es) ≡ true
  cumulated-all true n es h = cumulative-all n es h
  cumulated-all false n es h = h

  singles_all : (ns : List ℕ) (es : List OutEntry) → all_b f es ≡ true → all_b f (ack_singles ns es) ≡ true
  unfolding ack_singles
  singles_all [] es h = h
  singles_all (n ∷ ns) es h = singles_all ns (remove_first (has_number n) es) (all_b_remove f (has_number n) es h)

pub acked-on : (t : ℕ) (r : Record) (d : OffData) → DataGood t d → DataGood t (acked_on r d)
acked-on t r d g =
    data_out t d g (ack_singles (single_acks r) (cumulated (is_set r.hascumulative) r.cumulative d.out))
    (singles_all (entry_good t) (single_acks r) (cumulated (is_set r.hascumulative) r.cumulative d.out) (cumulated-all (entry_good t) (is_set r.hascumulative) r.cumulative d.out g.out))

pub acked-off : (t : ℕ) (r : Record) (d : OffData) → DataGood t d → DataGood t (acked_off r d)
acked-off t r d g = data_out t d g (ack_singles (single_acks r) d.out) (singles_all (entry_good t) (single_acks r) d.out g.out)

-- ---- the ack queue

pub queued-good : (t : ℕ) (r : Record) (d : OffData) → legal r.number ≡ true → DataGood t d → DataGood t (queued r d)
queued-good t r d h g = data_acks t d g (d.acks ++ (r.number ∷ [])) (all_b_snoc legal d.acks r.number g.acks h)

cumulated_in_all : (b : Bool) (n : ℕ) (qs : List ℕ) → all_b legal qs ≡ true → all_b legal (cumulated_in b n qs) ≡ true
cumulated_in_all true n qs h = all_b-keep legal (not_before n) qs h
cumulated_in_all false n qs h = h

singles_in_all : (ns qs : List ℕ) → all_b legal qs ≡ true → all_b legal (ack_in_singles ns qs) ≡ true
unfolding ack_in_singles
singles_in_all [] qs h = h
singles_in_all (n ∷ ns) qs h = singles_in_all ns (swap_remove_first 0 (is n) qs) (all_b_swap legal (is n) 0 qs h)

-- what the names leave, where they are all there
abbrev pub Taken : (List ℕ → Type 0) → Option (List ℕ) → Type 0
Taken P None = Unit {0}
Taken P (Some qs) = P qs

pub taken-legal : (ns qs : List ℕ) → all_b legal qs ≡ true → Taken (λ l. all_b legal l ≡ true) (take_written ns qs)
unfolding take_written
taken-legal [] qs h = h
taken-legal (n ∷ ns) qs h = at (has (is n) qs) (taken-legal ns (remove_first (is n) qs) (all_b_remove legal (is n) qs h))
  where
    at : (b : Bool) → Taken (λ l. all_b legal l ≡ true) (take_written ns (remove_first (is n) qs)) → Taken (λ l. all_b legal l ≡ true) (cond b (take_written ns (remove_first (is n) qs)) None)
    at true ih = ih
    at false ih = tt

-- ---- fragments

abbrev pub StoredGood : ℕ → Stored → Type 0
StoredGood t (done d) = DataGood t d
StoredGood t beyond = Unit {0}

module _ (t : ℕ) (d : OffData) (g : DataGood t d) where
  groups_put : (x : Group) → group_good t x ≡ true → DataGood t (with_groups (put_by (is_first x.first) x d.groups) d)
  groups_put x h =
      data_groups t d g (put_by (is_first x.first) x d.groups) (all_b_put (group_good t) (is_first x.first) x d.groups g.groups ∙ h)
      (apart_put same_first (λ y z. eqb_turn z.first y.first) (λ y z u p. eqb_alike y.first z.first u.first p) x d.groups g.apart)

  groups-add : (x : Group) → group_good t x ≡ true → has (is_first x.first) d.groups ≡ false → DataGood t (with_groups (d.groups ++ (x ∷ [])) d)
  groups-add x h a = rw (put_new (is_first x.first) x d.groups a) at (groups_put x h)

  stored_in_lem : (b : Bool) (x : Group) → group_good t x ≡ true → DataGood t (stored_in b x d)
  stored_in_lem true x h =
      let k = remove_first (is_first x.first) d.groups in
      data_bundles t (with_groups k d) (data_groups t d g k (all_b_remove (group_good t) (is_first x.first) d.groups g.groups) (apart_remove same_first (is_first x.first) d.groups g.apart))
      (d.bundles ++ (in_places x.places ∷ []))
  stored_in_lem false x h = groups_put x h

  present-good : (old far : Bool) (i h : ℕ) (x : Group) → group_good t (store i h t x) ≡ true → StoredGood t (present old far i h t x d)
  present-good true far i h x k = g
  present-good false true i h x k = tt
  present-good false false i h x k = stored_in_lem (full (store i h t x)) (store i h t x) k

  create-good : (far : Bool) (i h : ℕ) (x : Group) → group_good t (store i h t x) ≡ true → has (is_first x.first) d.groups ≡ false → StoredGood t (create far i h t x d)
  create-good true i h x k a = tt
  create-good false i h x k a = groups-add (store i h t x) k a

  now : leb t t ≡ true
  now = le-leb t t (omega arith)

  -- the group found, or a new one, is good and has the first number looked for
  at-good : (f n : ℕ) → legal f ≡ true → group_good t (group_at f n t d) ≡ true
  at-good f n l = all_b-find (group_good t) (is_first f) (new_group f n t) d.groups (and_both l now) g.groups

  at_first : (f n : ℕ) → (group_at f n t d).first ≡ f
  at_first f n = eqb-true (group_at f n t d).first f (find_key (is_first f) (new_group f n t) d.groups (eq-eqb f f refl))

  stored_good : (i h : ℕ) (x : Group) → group_good t x ≡ true → group_good t (store i h t x) ≡ true
  stored_good i h x k = and_both (and_left (legal x.first) (leb x.updated t) k) now

  in_group_lem : (f i h n : ℕ) → legal f ≡ true → StoredGood t (in_group (has (is_first f) d.groups) i h t (group_at f n t d) d)
  in_group_lem f i h n l = at (has (is_first f) d.groups) refl (group_at f n t d) (at_first f n) (at-good f n l)
    where
      at : (b : Bool) → has (is_first f) d.groups ≡ b → (x : Group) → x.first ≡ f → group_good t x ≡ true → StoredGood t (in_group b i h t x d)
      at true p x q k = present-good (stale t x) (is_beyond i x) i h x (stored_good i h x k)
      at false p x q k = create-good (is_beyond i x) i h x (stored_good i h x k) (rw q p)

abbrev pub LegalRange : Range → Type 0
LegalRange no_range = Unit {0}
LegalRange (range f l) = legal f ≡ true

pub added-good : (t : ℕ) (p : Packet) (d : OffData) → LegalRange (range_of p) → DataGood t d → StoredGood t (add_in_packet t p d)
unfolding add_in_packet
added-good t p d l g = at (range_of p) l
  where
    at : (r : Range) → LegalRange r → StoredGood t (placed r t p d)
    at no_range l = data_bundles t d g (d.bundles ++ ((p.handle ∷ []) ∷ []))
    at (range f k) l = in_group_lem t d g f (dist p.number f) p.handle (span f k) l

-- ---- forwarded out

forwarded-entry : (t n : ℕ) → legal n ≡ true → entry_good t (forwarded_entry n t) ≡ true
forwarded-entry t n h = entry_test t (forwarded_entry n t) (record { number = h; flag = refl; bare = refl; time = omega arith; sent = omega arith })

inserted-all : (t : ℕ) (b : Bool) (e : OutEntry) (es : List OutEntry) → entry_good t e ≡ true → all_b (entry_good t) es ≡ true → all_b (entry_good t) (inserted_if b e es) ≡ true
unfolding insert_out
inserted-all t true e es h g = all_b-inserted (entry_good t) (search entry_number no_entry e.number es (length es)) e es h g
inserted-all t false e es h g = g

pub forwarded-good : (t : ℕ) (b : Bool) (r : Record) (d : OffData) → legal r.number ≡ true → DataGood t d → DataGood t (forwarded b t r d)
forwarded-good t b r d l g =
    let o = inserted_if (is_set r.reliable) (forwarded_entry r.number t) d.out in
    let h : DataGood t (with_out o d) = data_out t d g o (inserted-all t (is_set r.reliable) (forwarded_entry r.number t) d.out (forwarded-entry t r.number l) g.out) in
    data_acks t (with_out o d) h (ack_in_singles (single_acks r) (cumulated_in b r.cumulative d.acks)) (singles_in_all (single_acks r) (cumulated_in b r.cumulative d.acks) (cumulated_in_all b r.cumulative d.acks g.acks))

-- ---- sent

sent_entry_lem : (t n h : ℕ) → legal n ≡ true → entry_good t (sent_entry t n h) ≡ true
sent_entry_lem t n h l = entry_test t (sent_entry t n h) (record { number = l; flag = refl; bare = refl; time = omega arith; sent = omega arith })

sent_all : (t n : ℕ) (hs : List ℕ) → legal n ≡ true → all_b (entry_good t) (sent_entries t n hs) ≡ true
unfolding sent_entries
sent_all t n [] h = all_b-none (entry_good t)
sent_all t n (x ∷ hs) h = all_b-cons (entry_good t) (sent_entry t n x) (sent_entries t (add n 1) hs) (sent_entry_lem t n x h) (sent_all t (add n 1) hs (add-legal n 1))

pub sent_good : (t n : ℕ) (hs : List ℕ) (d : OffData) → legal n ≡ true → DataGood t d → DataGood t (with_out (d.out ++ sent_entries t n hs) d)
sent_good t n hs d h g = data_out t d g (d.out ++ sent_entries t n hs) (all_b_joins (entry_good t) d.out (sent_entries t n hs) g.out (sent_all t n hs h))

-- ---- resent

mark-good : (t timeout : ℕ) (e : OutEntry) → entry_good t e ≡ true → entry_good t (mark t timeout e) ≡ true
mark-good t timeout e h = at (due t timeout e) (entry_facts t e h)
  where
    at : (b : Bool) → EntryGood t e → entry_good t (mark_if b t e) ≡ true
    at true g = entry_test t (mark_if true t e) (record { number = g.number; flag = g.flag; bare = g.bare; time = omega (arith, g.time, g.sent); sent = omega arith })
    at false g = h

pub resent-good : (t timeout give_up : ℕ) (d : OffData) → DataGood t d → DataGood t (resent_data t timeout give_up d)
resent-good t timeout give_up d g =
    data_out t d g (map (mark t timeout) (kept t give_up d)) (all_b-map_so (entry_good t) (entry_good t) (mark t timeout) (mark-good t timeout) (kept t give_up d) (all_b-keep (entry_good t) _ d.out g.out))
