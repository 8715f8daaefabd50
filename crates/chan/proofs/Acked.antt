-- A record's acks, and the room of a packet forwarded out.
use Rattle.std.proofs.Common.{inl, inr, ◌≡◌, ◌<◌, ℕ, Bool, false, length, leb, sym, ◌∙◌}
use Rattle.std.proofs.lemmas.Bool.{lt-leb}
use Rattle.list.specs.Pad.{all_b}
use Rattle.list.specs.Find.{joined}
use Rattle.list.proofs.Pad.{never}
use Rattle.list.proofs.Tests.{and_6, either_way}
use Rattle.packet.specs.declared.Record.{Record}
use Rattle.model.specs.State.{OffData}
use Rattle.model.specs.Acks.{insert_out, forwarded_entry}
use Rattle.model.specs.Rust.{forwarded}
use Rattle.model.specs.Room.{fits_group, fits_data}

-- an out list over its limit
pub out_beyond : (d : OffData) → 32 < length d.out → fits_data d ≡ false
unfolding fits_data
out_beyond d over = elim (either_way (fits_data d)) [
  | inl p ↦
      let t = and_6 (leb (length d.out) 32) (leb (length d.acks) 64) (leb (length d.groups) 4) (all_b fits_group d.groups) (leb (length d.bundles) 16) (leb (length (joined d.bundles)) 64) p in
      never (sym (lt-leb (length d.out) 32 over) ∙ t.0)
  | inr p ↦ p
]

-- a reliable packet forwarded out finds no room
pub forwarded_beyond : (cumulative : Bool) (t : ℕ) (r : Record) (d : OffData) → r.reliable ≡ 1 → 32 < length (insert_out (forwarded_entry r.number t) d.out)
    → fits_data (forwarded cumulative t r d) ≡ false
forwarded_beyond cumulative t r d e over = out_beyond (forwarded cumulative t r d) (rw e over)
