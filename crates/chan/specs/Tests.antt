-- The tests whether a value is a channel in its form with good numbers and lists, for any bytes.
use Rattle.std.specs.Prelude.{Bool, ◌&&◌, ℕ, eqb}
use Rattle.seq.specs.Num.{legal}
use Rattle.model.specs.Wellformed.{key_good}
use Rattle.queues.specs.Tests.{out_good, acks_good, groups_good, bundles_good, buffer_good, queue_good}
use Rattle.chan.specs.declared.OffData.{OffData}
use Rattle.chan.specs.declared.OffChannel.{OffChannel}
use Rattle.chan.specs.declared.OnChannel.{OnChannel}
use Rattle.chan.specs.Channels.{on_of}

-- what both kinds have: every list in its form and good, at a table's latest time
abbrev pub lists_good : ℕ → OffData → Bool
lists_good latest d = out_good latest d.out && acks_good d.acks && groups_good latest d.groups && bundles_good d.bundles

unfoldable pub off_test : ℕ → OffChannel → Bool
off_test latest c = lists_good latest c.off

-- numbers and key are legal: the key has no index, or index and version are both nonzero
unfoldable pub numbers_good : OnChannel → Bool
numbers_good c = key_good (on_of c) && legal c.expected && legal c.source.next

unfoldable pub on_test : ℕ → OnChannel → Bool
on_test latest c =
    numbers_good c && lists_good latest c.off && buffer_good c.buffer c.expected && queue_good c.queue c.expected

-- no key and no numbers, and every list is empty: of a channel that passes its test this says that it is all zero
abbrev pub idle_data : OffData → Bool
idle_data d = eqb d.out.len 0 && eqb d.acks.len 0 && eqb d.groups.len 0 && eqb d.bundles.len 0

unfoldable pub idle_off : OffChannel → Bool
idle_off c = eqb c.address 0 && idle_data c.off

unfoldable pub idle_on : OnChannel → Bool
idle_on c =
    eqb c.address 0 && eqb c.index 0 && eqb c.version 0 && eqb c.expected 0 && eqb c.source.next 0 && idle_data c.off && eqb c.buffer.len 0 && eqb c.queue.len 0
