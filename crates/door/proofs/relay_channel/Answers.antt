use Rattle.std.proofs.Common.{refl, ◌∙◌}
use Rattle.tab.specs.Calls.{view_in}
use Rattle.tab.proofs.Fitting.{call-fits, channel-fits}
use Rattle.door.proofs.Fitting.{view-says}
use Rattle.door.proofs.relay_channel.Goals as goal

pub returns-clause-answer : goal.returns-clause-answer
returns-clause-answer c = view-says _ _ _ _ c.none.ensures c.channel.ensures.answer (call-fits view_in _ refl (channel-fits _) _) c.answered.ensures.answer

pub returns-clause-code : goal.returns-clause-code
returns-clause-code c = c.answered.ensures.code ∙ c.channel.ensures.code
