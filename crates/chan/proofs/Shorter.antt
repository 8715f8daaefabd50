-- No ack makes the out list longer. Assumes nothing.
use Rattle.std.proofs.Common.{ℕ, suc, ◌≤◌, Bool, true, false, cond, List, [], ◌∷◌, length, arith}
use Rattle.list.proofs.Find.{length_remove}
use Rattle.seq.specs.Num.{cmp}
use Rattle.packet.specs.declared.OutEntry.{OutEntry}
use Rattle.packet.specs.declared.Record.{Record}
use Rattle.packet.specs.Data.{is_set, single_acks}
use Rattle.model.specs.Acks.{is_greater, has_number, ack_single, ack_singles, ack_cumulative}
use Rattle.model.specs.State.{OffData}
use Rattle.model.specs.Record.{cumulated, acked_on, acked_off}

pub length-ack_singles : (ns : List ℕ) (es : List OutEntry) → length (ack_singles ns es) ≤ length es
unfolding ack_singles
length-ack_singles [] es = omega arith
length-ack_singles (n ∷ ns) es = omega (arith, length-ack_singles ns (ack_single n es), length_remove (has_number n) es)

pub length-ack_cumulative : (n : ℕ) (es : List OutEntry) → length (ack_cumulative n es) ≤ length es
unfolding ack_cumulative
length-ack_cumulative n [] = omega arith
length-ack_cumulative n (e ∷ es) = at (is_greater (cmp n e.number)) (length-ack_cumulative n es)
  where
    at : (b : Bool) → length (ack_cumulative n es) ≤ length es → length (cond b (ack_cumulative n es) (e ∷ es)) ≤ suc (length es)
    at true h = omega arith
    at false h = omega arith

pub acked_on_le : (r : Record) (d : OffData) → length (acked_on r d).out ≤ length d.out
acked_on_le r d = at (is_set r.hascumulative)
  where
    at : (t : Bool) → length (ack_singles (single_acks r) (cumulated t r.cumulative d.out)) ≤ length d.out
    at true = omega (arith, length-ack_singles (single_acks r) (cumulated true r.cumulative d.out), length-ack_cumulative r.cumulative d.out)
    at false = length-ack_singles (single_acks r) d.out

pub acked_off_le : (r : Record) (d : OffData) → length (acked_off r d).out ≤ length d.out
acked_off_le r d = length-ack_singles (single_acks r) d.out
