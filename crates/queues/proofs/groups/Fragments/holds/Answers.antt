use Rattle.std.proofs.Common.{arith, ◌∙◌, length-take}
use Rattle.queues.proofs.OneGroup.{holds_first}
use Rattle.queues.proofs.groups.Fragments.holds.Goals as goal

pub holds-requires : goal.holds-requires
holds-requires c =
    rw (c.used.ensures, c.used-2.ensures) (omega (arith, length-take c.args.self.now.len c.args.self.now.marks, length-take c.args.self.now.len c.args.self.now.handles))

pub returns : goal.returns
returns c = rw (c.used.ensures, c.used-2.ensures) at c.holds.ensures ∙ holds_first c.args.self.now c.args.handle
