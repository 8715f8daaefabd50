use Rattle.std.proofs.Common.{arith}
use Rattle.queues.proofs.Cuts.{room_then, room_else}
use Rattle.queues.proofs.bundles.Bundles.has_room.Goals as goal

pub returns-then-self-lt16 : goal.returns-then-self-lt16
returns-then-self-lt16 c = room_then c.args.self.now c.requires c.args.n c.if-self-lt16.true

pub returns-else-self-lt16 : goal.returns-else-self-lt16
returns-else-self-lt16 c = room_else c.args.self.now c.requires c.args.n (omega (arith, c.if-self-lt16.false))
