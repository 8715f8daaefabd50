-- The channel that a key names, of either kind: found, read, and with new lists put in its place; and what is answered of it.
use Rattle.std.proofs.Common.{◌≡◌, ℕ, ◌<◌, Bool, true, false, set, get_or, refl, ap, sym, ◌∙◌, eq-eqb, ne_eqb}
use Rattle.std.specs.declared.option.Option.{Option}
use Rattle.std.specs.declared.option.Option.TheVariants.{None, Some}
use Rattle.list.specs.Find.{position}
use Rattle.packet.specs.declared.Key.{Key}
use Rattle.packet.specs.Data.{is_set, key_index}
use Rattle.model.specs.State as model
use Rattle.model.specs.Rust.{first_version, key_on, key_off, has_key, data_of, put_data}
use Rattle.chan.specs.Channels as chan
use Rattle.chan.specs.Channels.{IsOffData, off_of, IsOffChannel, on_of, IsOnChannel}
use Rattle.chan.specs.declared.OffData.{OffData}
use Rattle.chan.specs.declared.OffChannel.{OffChannel}
use Rattle.chan.specs.declared.OnChannel.{OnChannel}
use Rattle.tab.specs.declared.Table.{Table}
use Rattle.tab.specs.Tables.{IsTable, state_of}
use Rattle.tab.specs.Keyed.{position_if, key_position, key_count}
use Rattle.tab.proofs.Steps.{off_absent, off_there, off_address, off_kept, on_absent, on_there, on_address, on_index, on_kept, off_good, off_set, off_seen, off_put, on_good, on_set, on_seen, on_put}

-- ---- tests in front of a call

pub told : (b w v : Bool) → b ≡ w → b ≡ v → w ≡ v
told b w v e h = sym e ∙ h

-- ---- in any state

absent_if : (b : Bool) (k : Key) (p : model.Protocol) → is_set k.on ≡ b → position_if b k p ≡ None → has_key k p ≡ false
absent_if true k p on e = rw on (on_absent k.address (key_index k) p e)
absent_if false k p on e = rw on (off_absent k.address p e)

pub key_absent : (k : Key) (p : model.Protocol) (o : Option ℕ) → o ≡ key_position k p → o ≡ None → has_key k p ≡ false
key_absent k p o q e = absent_if (is_set k.on) k p refl (sym q ∙ e)

there_if : (b : Bool) (k : Key) (p : model.Protocol) (i : ℕ) → is_set k.on ≡ b → position_if b k p ≡ Some i → has_key k p ≡ true
there_if true k p i on e = rw on (on_there k.address (key_index k) p i e)
there_if false k p i on e = rw on (off_there k.address p i e)

pub key_there : (k : Key) (p : model.Protocol) (o : Option ℕ) (i : ℕ) → o ≡ key_position k p → o ≡ Some i → has_key k p ≡ true
key_there k p o i q e = there_if (is_set k.on) k p i refl (sym q ∙ e)

-- put back as they were, its lists change nothing
kept_if : (b : Bool) (k : Key) (p : model.Protocol) → is_set k.on ≡ b → has_key k p ≡ true → put_data k (data_of k p) p ≡ p
kept_if true k p on here = rw on (on_kept k.address (key_index k) p (first_version k) (rw on at here))
kept_if false k p on here = rw on (off_kept k.address p (rw on at here))

pub key_kept : (k : Key) (p : model.Protocol) → has_key k p ≡ true → put_data k (data_of k p) p ≡ p
key_kept k p here = kept_if (is_set k.on) k p refl here

-- ---- in a table: an on-channel

module _ (t : Table) (h : IsTable t) (k : Key) (o : Option ℕ) (i : ℕ) (q : o ≡ key_position k (state_of t).protocol) (e : o ≡ Some i) (on : k.on ≡ 1) where
  set_on : is_set k.on ≡ true
  set_on = eq-eqb k.on 1 on

  place_on : position (model.is_on k.address (key_index k)) (state_of t).protocol.ons ≡ Some i
  place_on = (λ j. position_if (sym set_on j) k (state_of t).protocol) ∙ sym q ∙ e

  pub on_below : i < key_count k t → i < t.oncount
  on_below lt = rw set_on at lt

  module _ (lt : i < t.oncount) where
    pub on_lists : (z : OnChannel) → IsOffData (get_or t.ons i z).off
    on_lists z = (on_good t h i lt z).off

    pub on_data : (z : OnChannel) → chan.data_of (get_or t.ons i z).off ≡ data_of k (state_of t).protocol
    on_data z = rw set_on (ap (λ (c : model.OnChannel). c.off) (on_seen t h i lt k.address (key_index k) (first_version k) z place_on))

    pub on_table : (z : OnChannel) (d : OffData) → IsOffData d → IsTable (record t { ons = set t.ons i (record (get_or t.ons i z) { off = d }) })
    on_table z d good =
        let c = on_good t h i lt z in
        on_set t h i lt _ (record { off = good; buffer = c.buffer; queue = c.queue })

    pub on_state : (z : OnChannel) (d : OffData) (m : model.OffData) → chan.data_of d ≡ m
        → state_of (record t { ons = set t.ons i (record (get_or t.ons i z) { off = d }) }) ≡ model.with_protocol (put_data k m (state_of t).protocol) (state_of t)
    on_state z d m is =
        let p = (state_of t).protocol in
        let seen = on_seen t h i lt k.address (key_index k) (first_version k) z place_on in
        on_put t h i lt k.address (key_index k) _ (model.on_with m (key_on k p)) place_on (λ j. model.on_with (is j) (seen j)) (on_address k.address (key_index k) p (first_version k)) (on_index k.address (key_index k) p (first_version k))
        ∙ rw set_on refl

-- ---- an off-channel

module _ (t : Table) (h : IsTable t) (k : Key) (o : Option ℕ) (i : ℕ) (q : o ≡ key_position k (state_of t).protocol) (e : o ≡ Some i) (off : k.on ≡ 1 → ⊥) where
  set_off : is_set k.on ≡ false
  set_off = ne_eqb k.on 1 off

  place_off : position (model.is_off k.address) (state_of t).protocol.offs ≡ Some i
  place_off = (λ j. position_if (sym set_off j) k (state_of t).protocol) ∙ sym q ∙ e

  pub off_below : i < key_count k t → i < t.offcount
  off_below lt = rw set_off at lt

  module _ (lt : i < t.offcount) where
    pub off_lists : (z : OffChannel) → IsOffData (get_or t.offs i z).off
    off_lists z = (off_good t h i lt z).off

    pub off_data : (z : OffChannel) → chan.data_of (get_or t.offs i z).off ≡ data_of k (state_of t).protocol
    off_data z = rw set_off (ap (λ (c : model.OffChannel). c.off) (off_seen t h i lt k.address z place_off))

    pub off_table : (z : OffChannel) (d : OffData) → IsOffData d → IsTable (record t { offs = set t.offs i (record (get_or t.offs i z) { off = d }) })
    off_table z d good = off_set t h i lt _ (record { off = good })

    pub off_state : (z : OffChannel) (d : OffData) (m : model.OffData) → chan.data_of d ≡ m
        → state_of (record t { offs = set t.offs i (record (get_or t.offs i z) { off = d }) }) ≡ model.with_protocol (put_data k m (state_of t).protocol) (state_of t)
    off_state z d m is =
        let p = (state_of t).protocol in
        let seen = off_seen t h i lt k.address z place_off in
        off_put t h i lt k.address _ (model.off_with m (key_off k p)) place_off (λ j. model.off_with (is j) (seen j)) (off_address k.address p)
        ∙ rw set_off refl
