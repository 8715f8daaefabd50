use Rattle.std.proofs.Common.{◌∙◌}
use Rattle.door.proofs.Fitting.{came-view}
use Rattle.door.proofs.relay_accept.Goals as goal

pub returns-clause-view : goal.returns-clause-view
returns-clause-view c = came-view _ _ _ _ _ c.accept-delivery.ensures.answer _ _ c.none.ensures c.answered.ensures.answer

pub returns-clause-code : goal.returns-clause-code
returns-clause-code c = c.answered.ensures.code ∙ c.accept-delivery.ensures.code
