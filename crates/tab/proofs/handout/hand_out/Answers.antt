use Rattle.std.proofs.Common.{length}
use Rattle.queues.specs.Made.{bundles_of}
use Rattle.tab.proofs.Offers.{no_first, none_answer, short_answer, one_answer}
use Rattle.tab.proofs.handout.hand_out.Goals as goal

pub returns-then-lent-n-clause-answer : goal.returns-then-lent-n-clause-answer
returns-then-lent-n-clause-answer c =
    short_answer (bundles_of c.args.b.now) _ _ (length c.args.lent.now) c.front_len.ensures c.in-Some.is c.if-lent-n.true

pub returns-in-None-clause-answer : goal.returns-in-None-clause-answer
returns-in-None-clause-answer c =
    none_answer (bundles_of c.args.b.now) (length c.args.lent.now) (no_first _ _ c.front_len.ensures c.in-None.is)

pub returns-else-lent-n-clause-answer : goal.returns-else-lent-n-clause-answer
returns-else-lent-n-clause-answer c =
    one_answer (bundles_of c.args.b.now) _ _ (length c.args.lent.now) c.front_len.ensures c.in-Some.is c.if-lent-n.false
