use Rattle.std.proofs.Common.{arith}
use Rattle.std.proofs.lemmas.Grind.{common_steps}
use Rattle.chan.proofs.Steps.{look_none, look_one, look_other, look_few, look_take, look_skip}
use Rattle.chan.proofs.grouping.front.Goals as goal

pub returns-then-is_empty-clause-says : goal.returns-then-is_empty-clause-says
returns-then-is_empty-clause-says c = look_none _ (grind (arith, common_steps))

pub returns-then-p-ne1-clause-says : goal.returns-then-p-ne1-clause-says
returns-then-p-ne1-clause-says c = look_one _ _ (grind (arith, common_steps)) c.if-p-ne1.true

pub returns-then-p-clause-says : goal.returns-then-p-clause-says
returns-then-p-clause-says c = look_other _ _ (grind (arith, common_steps)) c.if-p-ne1.false c.if-p.true

pub returns-then-queue-span-clause-says : goal.returns-then-queue-span-clause-says
returns-then-queue-span-clause-says c = look_few _ _ _ (grind (arith, common_steps)) c.if-p-ne1.false c.if-p.false c.distance.ensures c.if-queue-span.true

pub returns-then-share-clause-says : goal.returns-then-share-clause-says
returns-then-share-clause-says c =
    look_take _ _ _ _ (grind (arith, common_steps)) c.if-p-ne1.false c.if-p.false c.distance.ensures c.if-queue-span.false c.share.ensures c.if-share.true

pub returns-else-share-clause-says : goal.returns-else-share-clause-says
returns-else-share-clause-says c =
    look_skip _ _ _ _ (grind (arith, common_steps)) c.if-p-ne1.false c.if-p.false c.distance.ensures c.if-queue-span.false c.share.ensures c.if-share.false
