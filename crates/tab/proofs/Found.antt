-- Find or create: the model's reply, by the tests 2 and 4, for a channel that is there and for one that is made.
use Rattle.std.proofs.Common.{◌≡◌, Bool, true, false, ◌||◌, refl, ap, ◌∙◌, eq-eqb, ne_eqb}
use Rattle.list.specs.Find.{find_by, put_by}
use Rattle.list.proofs.Find.{find_put, find_absent}
use Rattle.packet.specs.declared.Key.{Key}
use Rattle.packet.specs.Data.{is_set, key_index, key_made}
use Rattle.packet.specs.declared.Refusal.TheVariants.{OutOfRange}
use Rattle.model.specs.State as model
use Rattle.model.specs.Room as room
use Rattle.model.specs.Rust.{first_version, made, made_if, key_view, view_if}
use Rattle.model.specs.Calls as Calls
use Rattle.model.specs.Port.{untimed, refuse, grant, has_place, find, channel_s, reply}
use Rattle.tab.specs.Found.{made_reply, made_off, made_on}
use Rattle.tab.proofs.Steps.{off_kept, on_kept}

module _ (k : Key) (s : model.State) where
  pub find_malformed : key_made k ≡ false → reply (Calls.channel k) s ≡ refuse OutOfRange (untimed s)
  unfolding reply channel_s
  find_malformed e = λ j. find (e j) (has_place (is_set k.on) k.address (key_index k) s.protocol) k s

  -- ---- on-channel

  module _ (good : key_made k ≡ true) (on : k.on ≡ 1) where
    on-by : reply (Calls.channel k) s ≡ find true (model.has_on k.address (key_index k) s.protocol || room.on_room s.protocol) k s
    unfolding reply channel_s
    on-by = (λ j. find (good j) (has_place (eq-eqb k.on 1 on j) k.address (key_index k) s.protocol) k s)

    on-made : made k s.protocol ≡ model.put_on (model.on_at k.address (key_index k) (first_version k) s.protocol) s.protocol
    unfolding made
    on-made = λ j. made_if (eq-eqb k.on 1 on j) k s.protocol

    on-view : (p : model.Protocol) → key_view k p ≡ model.on_view (model.on_at k.address (key_index k) (first_version k) p)
    on-view p = λ j. view_if (eq-eqb k.on 1 on j) k.address (key_index k) (first_version k) p

    pub find_on : model.has_on k.address (key_index k) s.protocol ≡ true
        → reply (Calls.channel k) s ≡ grant (Calls.found (model.on_view (model.on_at k.address (key_index k) (first_version k) s.protocol))) s
    find_on here =
        let same = on-made ∙ on_kept k.address (key_index k) s.protocol (first_version k) here in
        on-by ∙ (λ j. find true (here j || room.on_room s.protocol) k s) ∙ (λ j. grant (Calls.found (key_view k (same j))) (model.with_protocol (same j) s)) ∙ (λ j. grant (Calls.found (on-view s.protocol j)) s)

    found_on : (c : model.OnChannel) → c.address ≡ k.address → c.index ≡ key_index k → model.on_at k.address (key_index k) (first_version k) (model.put_on c s.protocol) ≡ c
    found_on c x y =
        (λ j. find_by (model.is_on k.address (key_index k)) (model.new_on k.address (key_index k) (first_version k)) (put_by (model.is_on (x j) (y j)) c s.protocol.ons))
        ∙ find_put (model.is_on k.address (key_index k)) (model.new_on k.address (key_index k) (first_version k)) c s.protocol.ons (rw (eq-eqb c.address k.address x, eq-eqb c.index (key_index k) y) refl)

    pub make_on : model.has_on k.address (key_index k) s.protocol ≡ false → reply (Calls.channel k) s ≡ made_on k.address (key_index k) (first_version k) s
    make_on gone = on-by ∙ (λ j. find true (gone j || room.on_room s.protocol) k s) ∙ at (room.on_room s.protocol)
      where
        c : model.OnChannel
        c = model.new_on k.address (key_index k) (first_version k)

        new : made k s.protocol ≡ model.put_on (model.new_on k.address (key_index k) (first_version k)) s.protocol
        new = on-made ∙ (λ j. model.put_on (find_absent (model.is_on k.address (key_index k)) (model.new_on k.address (key_index k) (first_version k)) s.protocol.ons gone j) s.protocol)

        at : (t : Bool) → find true t k s ≡ made_reply t (model.on_view (model.new_on k.address (key_index k) (first_version k))) (model.put_on (model.new_on k.address (key_index k) (first_version k)) s.protocol) s
        at true =
            (λ j. grant (Calls.found (key_view k (new j))) (model.with_protocol (new j) s))
            ∙ (λ j. grant (Calls.found ((on-view (model.put_on (model.new_on k.address (key_index k) (first_version k)) s.protocol) ∙ ap (λ x. model.on_view x) (found_on (model.new_on k.address (key_index k) (first_version k)) refl refl)) j)) (model.with_protocol (model.put_on (model.new_on k.address (key_index k) (first_version k)) s.protocol) s))
        at false = refl

  -- ---- off-channel

  module _ (good : key_made k ≡ true) (off : k.on ≡ 1 → ⊥) where
    off-by : reply (Calls.channel k) s ≡ find true (model.has_off k.address s.protocol || room.off_room s.protocol) k s
    unfolding reply channel_s
    off-by = (λ j. find (good j) (has_place (ne_eqb k.on 1 off j) k.address (key_index k) s.protocol) k s)

    off-made : made k s.protocol ≡ model.put_off (model.off_at k.address s.protocol) s.protocol
    unfolding made
    off-made = λ j. made_if (ne_eqb k.on 1 off j) k s.protocol

    off-view : (p : model.Protocol) → key_view k p ≡ model.off_view (model.off_at k.address p)
    off-view p = λ j. view_if (ne_eqb k.on 1 off j) k.address (key_index k) (first_version k) p

    pub find_off : model.has_off k.address s.protocol ≡ true → reply (Calls.channel k) s ≡ grant (Calls.found (model.off_view (model.off_at k.address s.protocol))) s
    find_off here =
        let same = off-made ∙ off_kept k.address s.protocol here in
        off-by ∙ (λ j. find true (here j || room.off_room s.protocol) k s) ∙ (λ j. grant (Calls.found (key_view k (same j))) (model.with_protocol (same j) s)) ∙ (λ j. grant (Calls.found (off-view s.protocol j)) s)

    found_off : (c : model.OffChannel) → c.address ≡ k.address → model.off_at k.address (model.put_off c s.protocol) ≡ c
    found_off c x =
        (λ j. find_by (model.is_off k.address) (model.new_off k.address) (put_by (model.is_off (x j)) c s.protocol.offs))
        ∙ find_put (model.is_off k.address) (model.new_off k.address) c s.protocol.offs (eq-eqb c.address k.address x)

    pub make_off : model.has_off k.address s.protocol ≡ false → reply (Calls.channel k) s ≡ made_off k.address s
    make_off gone = off-by ∙ (λ j. find true (gone j || room.off_room s.protocol) k s) ∙ at (room.off_room s.protocol)
      where
        new : made k s.protocol ≡ model.put_off (model.new_off k.address) s.protocol
        new = off-made ∙ (λ j. model.put_off (find_absent (model.is_off k.address) (model.new_off k.address) s.protocol.offs gone j) s.protocol)

        at : (t : Bool) → find true t k s ≡ made_reply t (model.off_view (model.new_off k.address)) (model.put_off (model.new_off k.address) s.protocol) s
        at true =
            (λ j. grant (Calls.found (key_view k (new j))) (model.with_protocol (new j) s))
            ∙ (λ j. grant (Calls.found ((off-view (model.put_off (model.new_off k.address) s.protocol) ∙ ap (λ x. model.off_view x) (found_off (model.new_off k.address) refl)) j)) (model.with_protocol (model.put_off (model.new_off k.address) s.protocol) s))
        at false = refl
