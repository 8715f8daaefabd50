use Rattle.std.proofs.Common.{◌∙◌}
use Rattle.queues.proofs.Handles.{held}
use Rattle.queues.proofs.bundles.Bundles.holds.Goals as goal

pub returns : goal.returns
returns c = c.has_handle.ensures ∙ held c.args.self.now c.args.handle c.requires
