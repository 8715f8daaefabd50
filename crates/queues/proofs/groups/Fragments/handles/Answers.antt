use Rattle.std.proofs.Common.{arith}
use Rattle.queues.proofs.OneGroup.{g_len_le, full_handles}
use Rattle.queues.proofs.groups.Fragments.handles.Goals as goal

pub shared_ref_as_front-result : goal.shared_ref_as_front-result
shared_ref_as_front-result c = omega (arith, g_len_le c.args.self.now c.requires.group)

pub returns : goal.returns
returns c = full_handles _ c.requires.group c.requires.full
