use Rattle.std.proofs.Common.{◌∙◌}
use Rattle.door.proofs.relay_reset_prefix_offset.Goals as goal

pub returns-clause-code : goal.returns-clause-code
returns-clause-code c = c.code.ensures ∙ c.reset_prefix_offset.ensures.code
