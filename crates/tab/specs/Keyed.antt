-- Where the channel that a key names stands among its kind, and how many of that kind there are.
use Rattle.std.specs.Prelude.{Bool, true, false, cond, ℕ}
use Rattle.std.specs.declared.option.Option.{Option}
use Rattle.list.specs.Find.{position}
use Rattle.packet.specs.declared.Key.{Key}
use Rattle.packet.specs.Data.{is_set, key_index}
use Rattle.model.specs.State.{Protocol, is_off, is_on}
use Rattle.tab.specs.declared.Table.{Table}

abbrev pub position_if : Bool → Key → Protocol → Option ℕ
position_if true k p = position (is_on k.address (key_index k)) p.ons
position_if false k p = position (is_off k.address) p.offs

abbrev pub key_position : Key → Protocol → Option ℕ
key_position k p = position_if (is_set k.on) k p

abbrev pub key_count : Key → Table → ℕ
key_count k t = cond (is_set k.on) t.oncount t.offcount

-- the key of an off-channel
abbrev pub off_key : ℕ → Key
off_key a = record { address = a; on = 0; indexed = 0; index = 0 }
