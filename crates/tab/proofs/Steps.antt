-- A table after a step at one of its channels, or with a channel more: the channel found by its key, and put in its place.
use Rattle.std.proofs.Common.{◌≡◌, ℕ, ◌<◌, ◌≤◌, arith, eqb, ◌++◌, ◌∷◌, [], List, true, false, length, take, set, get_or, map, refl, sym, ◌∙◌}
use Rattle.std.proofs.lemmas.List.{length-map}
use Rattle.std.specs.declared.option.Option.TheVariants.{None, Some}
use Rattle.list.specs.Lists.{IsList}
use Rattle.list.specs.Find.{position, put_by}
use Rattle.list.proofs.Arrays as array
use Rattle.list.proofs.Find.{find_absent, find_key, put_found, put_new}
use Rattle.list.proofs.Pad.{and_left, and_right}
use Rattle.list.proofs.Edits.{length_items}
use Rattle.std.proofs.lemmas.Bool.{eqb-true, eq-eqb, le-leb, lt-leb}
use Rattle.list.proofs.Positions.{stands, none_stands}
use Rattle.model.specs.State as model
use Rattle.model.specs.Room as room
use Rattle.chan.specs.Channels.{off_of, IsOffChannel, no_off_channel, on_of, IsOnChannel, no_on_channel}
use Rattle.chan.specs.declared.OffChannel.{OffChannel}
use Rattle.chan.specs.declared.OnChannel.{OnChannel}
use Rattle.tab.specs.declared.Table.{Table}
use Rattle.tab.specs.Tables.{IsTable, state_of}

-- ---- by key, in any state

module _ (a : ℕ) (p : model.Protocol) where
  pub off_absent : position (model.is_off a) p.offs ≡ None → model.has_off a p ≡ false
  off_absent e = none_stands (model.is_off a) p.offs e

  pub off_made : position (model.is_off a) p.offs ≡ None → model.off_at a p ≡ model.new_off a
  off_made e = find_absent (model.is_off a) (model.new_off a) p.offs (off_absent e)

  pub off_address : (model.off_at a p).address ≡ a
  off_address = eqb-true (model.off_at a p).address a (find_key (model.is_off a) (model.new_off a) p.offs (eq-eqb a a refl))

  -- put back as it is, it changes nothing
  pub off_kept : model.has_off a p ≡ true → model.put_off (model.off_at a p) p ≡ p
  off_kept here =
      let items = put_found (model.is_off a) (model.new_off a) p.offs here in
      (λ j. record p { offs = put_by (model.is_off (off_address j)) (model.off_at a p) p.offs }) ∙ (λ j. record p { offs = items j })

  pub off_there : (i : ℕ) → position (model.is_off a) p.offs ≡ Some i → model.has_off a p ≡ true
  off_there i e = (stands (model.is_off a) p.offs i e).there

module _ (a i : ℕ) (p : model.Protocol) where
  pub on_absent : position (model.is_on a i) p.ons ≡ None → model.has_on a i p ≡ false
  on_absent e = none_stands (model.is_on a i) p.ons e

  pub on_made : (v : ℕ) → position (model.is_on a i) p.ons ≡ None → model.on_at a i v p ≡ model.new_on a i v
  on_made v e = find_absent (model.is_on a i) (model.new_on a i v) p.ons (on_absent e)

  on_key : (v : ℕ) → model.is_on a i (model.on_at a i v p) ≡ true
  on_key v = find_key (model.is_on a i) (model.new_on a i v) p.ons (rw (eq-eqb a a refl, eq-eqb i i refl) refl)

  pub on_address : (v : ℕ) → (model.on_at a i v p).address ≡ a
  on_address v = let c = model.on_at a i v p in eqb-true c.address a (and_left (eqb c.address a) (eqb c.index i) (on_key v))

  pub on_index : (v : ℕ) → (model.on_at a i v p).index ≡ i
  on_index v = let c = model.on_at a i v p in eqb-true c.index i (and_right (eqb c.address a) (eqb c.index i) (on_key v))

  pub on_kept : (v : ℕ) → model.has_on a i p ≡ true → model.put_on (model.on_at a i v p) p ≡ p
  on_kept v here =
      let items = put_found (model.is_on a i) (model.new_on a i v) p.ons here in
      (λ j. record p { ons = put_by (model.is_on (on_address v j) (on_index v j)) (model.on_at a i v p) p.ons }) ∙ (λ j. record p { ons = items j })

  pub on_there : (k : ℕ) → position (model.is_on a i) p.ons ≡ Some k → model.has_on a i p ≡ true
  on_there k e = (stands (model.is_on a i) p.ons k e).there

-- ---- the counts, and whether there is a place for one more

module _ (t : Table) (h : IsTable t) where
  pub off_count : length (state_of t).protocol.offs ≡ t.offcount
  unfolding state_of
  off_count = rw length-map (length_items 4 t.offcount no_off_channel t.offs h.offs)

  pub off_room : t.offcount < 4 → room.off_room (state_of t).protocol ≡ true
  off_room lt = le-leb _ 3 (omega (arith, off_count))

  pub off_full : 4 ≤ t.offcount → room.off_room (state_of t).protocol ≡ false
  off_full le = lt-leb _ 3 (omega (arith, off_count))

  pub on_count : length (state_of t).protocol.ons ≡ t.oncount
  unfolding state_of
  on_count = rw length-map (length_items 8 t.oncount no_on_channel t.ons h.ons)

  pub on_room : t.oncount < 8 → room.on_room (state_of t).protocol ≡ true
  on_room lt = le-leb _ 7 (omega (arith, on_count))

  pub on_full : 8 ≤ t.oncount → room.on_room (state_of t).protocol ≡ false
  on_full le = lt-leb _ 7 (omega (arith, on_count))

-- ---- the off-channel at a place, and changed

module _ (t : Table) (h : IsTable t) (i : ℕ) (lt : i < t.offcount) where
  pub off_good : (d : OffChannel) → IsOffChannel (get_or t.offs i d)
  off_good d = array.good_at IsOffChannel off_of 4 t.offcount no_off_channel t.offs h.offs h.each_off i lt d

  pub off_set : (c : OffChannel) → IsOffChannel c → IsTable (record t { offs = set t.offs i c })
  off_set c good = record {
    forwarding = h.forwarding;
    offs = array.list_set IsOffChannel off_of 4 t.offcount no_off_channel t.offs h.offs h.each_off i lt c;
    each_off = array.each_set IsOffChannel off_of 4 t.offcount no_off_channel t.offs h.offs h.each_off i lt c good;
    ons = h.ons;
    each_on = h.each_on;
  }

  -- it is the one of its key
  pub off_seen : (a : ℕ) (d : OffChannel) → position (model.is_off a) (state_of t).protocol.offs ≡ Some i
      → off_of (get_or t.offs i d) ≡ model.off_at a (state_of t).protocol
  unfolding state_of
  off_seen a d e =
      sym (array.seen_at IsOffChannel off_of 4 t.offcount no_off_channel t.offs h.offs h.each_off i lt d (model.new_off a))
      ∙ sym ((stands (model.is_off a) (map off_of (take t.offcount t.offs)) i e).is_found (model.new_off a) (model.new_off a))

  pub off_put : (a : ℕ) (c : OffChannel) (x : model.OffChannel) → position (model.is_off a) (state_of t).protocol.offs ≡ Some i → off_of c ≡ x → x.address ≡ a
      → state_of (record t { offs = set t.offs i c }) ≡ model.with_protocol (model.put_off x (state_of t).protocol) (state_of t)
  unfolding state_of
  off_put a c x e is key =
      let xs = map off_of (take t.offcount t.offs) in
      let items : map off_of (take t.offcount (set t.offs i c)) ≡ put_by (model.is_off x.address) x xs =
      array.items_set IsOffChannel off_of 4 t.offcount no_off_channel t.offs h.offs h.each_off i lt c
      ∙ (λ j. set xs i (is j))
      ∙ sym ((stands (model.is_off a) xs i e).is_put x)
      ∙ (λ j. put_by (model.is_off (sym key j)) x xs) in
      λ j. model.with_protocol (record (state_of t).protocol { offs = items j }) (state_of t)

-- ---- an off-channel added

module _ (t : Table) (h : IsTable t) (n m : ℕ) (b : OffChannel) (cs : List OffChannel) (c : OffChannel) (is : take n cs ≡ take t.offcount t.offs ++ c ∷ []) where
  pub off_push : m ≡ 4 → b ≡ no_off_channel → IsList m b n cs → IsOffChannel c → IsTable (record t { offcount = n; offs = cs })
  off_push four none list good = record {
    forwarding = h.forwarding;
    offs = rw (← four, ← none) list;
    each_off = array.each_pushed IsOffChannel off_of t.offs cs t.offcount n c is h.each_off good;
    ons = h.ons;
    each_on = h.each_on;
  }

  pub off_new : (a : ℕ) (x : model.OffChannel) → position (model.is_off a) (state_of t).protocol.offs ≡ None → off_of c ≡ x → x.address ≡ a
      → state_of (record t { offcount = n; offs = cs }) ≡ model.with_protocol (model.put_off x (state_of t).protocol) (state_of t)
  unfolding state_of
  off_new a x e seen key =
      let xs = map off_of (take t.offcount t.offs) in
      let items : map off_of (take n cs) ≡ put_by (model.is_off x.address) x xs =
      array.items_pushed IsOffChannel off_of t.offs cs t.offcount n c is
      ∙ (λ j. xs ++ seen j ∷ [])
      ∙ sym (put_new (model.is_off a) x xs (none_stands (model.is_off a) xs e))
      ∙ (λ j. put_by (model.is_off (sym key j)) x xs) in
      λ j. model.with_protocol (record (state_of t).protocol { offs = items j }) (state_of t)

-- ---- the on-channel at a place, and changed

module _ (t : Table) (h : IsTable t) (i : ℕ) (lt : i < t.oncount) where
  pub on_good : (d : OnChannel) → IsOnChannel (get_or t.ons i d)
  on_good d = array.good_at IsOnChannel on_of 8 t.oncount no_on_channel t.ons h.ons h.each_on i lt d

  pub on_set : (c : OnChannel) → IsOnChannel c → IsTable (record t { ons = set t.ons i c })
  on_set c good = record {
    forwarding = h.forwarding;
    offs = h.offs;
    each_off = h.each_off;
    ons = array.list_set IsOnChannel on_of 8 t.oncount no_on_channel t.ons h.ons h.each_on i lt c;
    each_on = array.each_set IsOnChannel on_of 8 t.oncount no_on_channel t.ons h.ons h.each_on i lt c good;
  }

  -- it is the one of its key
  pub on_seen : (a k v : ℕ) (d : OnChannel) → position (model.is_on a k) (state_of t).protocol.ons ≡ Some i
      → on_of (get_or t.ons i d) ≡ model.on_at a k v (state_of t).protocol
  unfolding state_of
  on_seen a k v d e =
      sym (array.seen_at IsOnChannel on_of 8 t.oncount no_on_channel t.ons h.ons h.each_on i lt d (model.new_on a k v))
      ∙ sym ((stands (model.is_on a k) (map on_of (take t.oncount t.ons)) i e).is_found (model.new_on a k v) (model.new_on a k v))

  pub on_put : (a k : ℕ) (c : OnChannel) (x : model.OnChannel) → position (model.is_on a k) (state_of t).protocol.ons ≡ Some i → on_of c ≡ x → x.address ≡ a → x.index ≡ k
      → state_of (record t { ons = set t.ons i c }) ≡ model.with_protocol (model.put_on x (state_of t).protocol) (state_of t)
  unfolding state_of
  on_put a k c x e is key place =
      let xs = map on_of (take t.oncount t.ons) in
      let items : map on_of (take t.oncount (set t.ons i c)) ≡ put_by (model.is_on x.address x.index) x xs =
      array.items_set IsOnChannel on_of 8 t.oncount no_on_channel t.ons h.ons h.each_on i lt c
      ∙ (λ j. set xs i (is j))
      ∙ sym ((stands (model.is_on a k) xs i e).is_put x)
      ∙ (λ j. put_by (model.is_on (sym key j) (sym place j)) x xs) in
      λ j. model.with_protocol (record (state_of t).protocol { ons = items j }) (state_of t)

-- ---- an on-channel added

module _ (t : Table) (h : IsTable t) (n m : ℕ) (b : OnChannel) (cs : List OnChannel) (c : OnChannel) (is : take n cs ≡ take t.oncount t.ons ++ c ∷ []) where
  pub on_push : m ≡ 8 → b ≡ no_on_channel → IsList m b n cs → IsOnChannel c → IsTable (record t { oncount = n; ons = cs })
  on_push eight none list good = record {
    forwarding = h.forwarding;
    offs = h.offs;
    each_off = h.each_off;
    ons = rw (← eight, ← none) list;
    each_on = array.each_pushed IsOnChannel on_of t.ons cs t.oncount n c is h.each_on good;
  }

  pub on_new : (a k : ℕ) (x : model.OnChannel) → position (model.is_on a k) (state_of t).protocol.ons ≡ None → on_of c ≡ x → x.address ≡ a → x.index ≡ k
      → state_of (record t { oncount = n; ons = cs }) ≡ model.with_protocol (model.put_on x (state_of t).protocol) (state_of t)
  unfolding state_of
  on_new a k x e seen key place =
      let xs = map on_of (take t.oncount t.ons) in
      let items : map on_of (take n cs) ≡ put_by (model.is_on x.address x.index) x xs =
      array.items_pushed IsOnChannel on_of t.ons cs t.oncount n c is
      ∙ (λ j. xs ++ seen j ∷ [])
      ∙ sym (put_new (model.is_on a k) x xs (none_stands (model.is_on a k) xs e))
      ∙ (λ j. put_by (model.is_on (sym key j) (sym place j)) x xs) in
      λ j. model.with_protocol (record (state_of t).protocol { ons = items j }) (state_of t)
