use Rattle.std.proofs.Common.{◌∙◌}
use Rattle.door.proofs.relay_transfer_prefix_offset.Goals as goal

pub returns-clause-code : goal.returns-clause-code
returns-clause-code c = c.code.ensures ∙ c.transfer_prefix_offset_from_last_received.ensures.code
