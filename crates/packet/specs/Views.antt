-- Fields of a record that may be given, as Rust's options.
use Rattle.std.specs.Prelude.{cond, ℕ}
use Rattle.std.specs.declared.option.Option.{Option}
use Rattle.std.specs.declared.option.Option.TheVariants.{None, Some}
use Rattle.packet.specs.declared.Record.{Record}
use Rattle.packet.specs.Data.{is_set}

abbrev pub cumulative_of : Record → Option ℕ
cumulative_of r = cond (is_set r.hascumulative) (Some r.cumulative) None

abbrev pub last_of : Record → Option ℕ
last_of r = cond (is_set r.haslast) (Some r.lastreliable) None

-- the first and the last number
abbrev pub range_given : Record → Option (ℕ × ℕ)
range_given r = cond (is_set r.ranged) (Some (r.first, r.last)) None
