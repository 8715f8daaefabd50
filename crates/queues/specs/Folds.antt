-- What the tests of the lists fold over: words laid over one another bit by bit, sums that wrap, and steps that carry a value along.
use Rattle.std.specs.Prelude.{Bool, ◌&&◌, ℕ, ◌+◌, ◌%◌, ltb, leb, eqb, bit_or}
use Rattle.seq.specs.Num.{dist}
use Rattle.packet.specs.declared.OutEntry.{OutEntry}
use Rattle.packet.specs.declared.Packet.{Packet}
use Rattle.model.specs.Wellformed.{packet_good}
use Rattle.queues.specs.Tests.{place_good}

-- a sum that wraps at 2^32
abbrev pub wrapped : ℕ → ℕ → ℕ
wrapped s n = (s + n) % 0x1_0000_0000

-- the times of an entry laid over others, and its words
abbrev pub over_times : ℕ × ℕ → OutEntry → ℕ × ℕ
over_times a e = (bit_or a.0 e.time, bit_or a.1 e.sent)

abbrev pub over_words : ℕ → OutEntry → ℕ
over_words a e = bit_or (bit_or (bit_or a e.number) e.held) e.handle

-- one packet laid over another
abbrev pub over : Packet → Packet → Packet
over a p =
    record {
      number = bit_or a.number p.number;
      handle = bit_or a.handle p.handle;
      ranged = bit_or a.ranged p.ranged;
      first = bit_or a.first p.first;
      last = bit_or a.last p.last;
    }

-- whether all packets so far are good and farther from e each than the one before, and how far the last one is
abbrev pub rise : ℕ → Bool × ℕ → Packet → Bool × ℕ
rise e a p = (a.0 && (packet_good p && ltb a.1 (dist p.number e) && leb (dist p.number e) 0x800_0000), dist p.number e)

-- whether all packets so far are good and had the number that was due, and the number that is due next
abbrev pub follow : Bool × ℕ → Packet → Bool × ℕ
follow a p = (a.0 && (packet_good p && eqb p.number a.1), (a.1 + 1) % 0x1000_0000)

-- whether all places so far are good, and the marks added up
abbrev pub count_place : Bool × ℕ → ℕ × ℕ → Bool × ℕ
count_place a p = (a.0 && place_good p.0 p.1, wrapped a.1 p.0)
