-- The scope's "Proved table": every row computes, the ages of the group once their difference is known. Assumes nothing.
use mathlib.Core.Path.{◌≡◌, refl}
use Prim.Native.Nat.{ℕ, ◌+◌, ◌-◌}
use native.Mathlib.Omega.{arith}
use Rattle.list.specs.Find.{has, find_by, put_by, position, swap_remove}
use Rattle.seq.specs.Num.{cmp}
use Rattle.seq.specs.Prefix.{mixed}
use Rattle.model.specs.Acks.{ack_cumulative, ack_in_singles}
use Rattle.model.specs.Group.{add_in_packet, filled}
use Rattle.agreement.specs.ProvedTable.{ProvedTable}

-- the age of the group at those two times
age : (u n : ℕ) → u + n - u ≡ n
age u n = omega arith

pub proved_table : ProvedTable
unfolding cmp mixed ack_cumulative ack_in_singles add_in_packet has find_by put_by position swap_remove filled
proved_table =
    record {
      minus_one = refl;
      half = refl;
      half_back = refl;
      alloc_wraps = refl;
      observe_stays = refl;
      prefix_of_one = refl;
      cumulative = λ e. refl;
      forwarded_ack_lem = refl;
      age_stored = λ u. rw (age u 10_000);
      age_dropped = λ u. rw (age u 10_001);
    }
