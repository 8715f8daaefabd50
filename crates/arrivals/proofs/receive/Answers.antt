use Rattle.std.proofs.Common.{ap}
use Rattle.list.proofs.Edits.{on_err}
use Rattle.model.specs.State as model
use Rattle.model.specs.Record.{reliable_of}
use Rattle.chan.specs.Arriving.{reliable}
use Rattle.arrivals.proofs.Fed.{fed_none, fed, fed_front, fed_all}
use Rattle.arrivals.proofs.receive.Goals as goal

pub loop-p-init : goal.loop-p-init
loop-p-init c = record { channel = c.requires.channel; fed = fed_none (reliable c.args.channel.now) c.args.packets.now }

pub loop-p-preserved : goal.loop-p-preserved
loop-p-preserved c = record {
  channel = c.in_ok-add_in_reliable_packet.ensures.channel c.loop-p.invariant.channel;
  fed = fed _ _ _ c.args.packets.now c.loop-p.p-index _ c.loop-p-test.true (ap (λ (m : model.OnChannel). reliable_of m) c.in_ok-add_in_reliable_packet.ensures.items) c.loop-p.invariant.fed;
}

pub returns-clause-ordered : goal.returns-clause-ordered
returns-clause-ordered c = fed_all _ _ c.args.packets.now c.loop-p.p-index c.requires.new c.loop-p.invariant.fed c.loop-p-test.false

pub returns-in_err-add_in_reliable_packet-clause-refused : goal.returns-in_err-add_in_reliable_packet-clause-refused
returns-in_err-add_in_reliable_packet-clause-refused c =
    on_err _ (fed_front _ _ _ c.args.packets.now c.loop-p.p-index _ c.in_err-add_in_reliable_packet.ensures.unchanged c.requires.new c.loop-p.invariant.fed c.loop-p-test.true c.in_err-add_in_reliable_packet.ensures.full)
