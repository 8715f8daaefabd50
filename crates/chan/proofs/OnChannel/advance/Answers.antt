use Rattle.std.proofs.Common.{refl}
use Rattle.queues.specs.Packets.{packets_of}
use Rattle.queues.specs.Made.{bundles_of}
use Rattle.chan.proofs.Arrivals.{advanced_is}
use Rattle.chan.proofs.OnChannel.advance.Goals as goal

pub returns-clause-items : goal.returns-clause-items
returns-clause-items c =
    advanced_is _ _ _ _ (packets_of c.args.self.now.buffer) (packets_of c.args.self.now.queue) _ _ (bundles_of c.args.self.now.off.bundles) c.args.p
    c.add-next.ensures (rw c.as_slice-buffered.ensures at c.successors-k.ensures.run) c.add.ensures c.take_front.ensures.items
    (rw (c.in_ok-extend-2.ensures.items, c.in_ok-push.ensures.items, c.in_ok-extend.ensures.items, c.new-run.ensures.items, c.as_slice.ensures, c.as_slice-buffered.ensures) refl)
